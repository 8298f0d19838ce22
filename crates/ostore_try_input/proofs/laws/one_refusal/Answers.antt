use Rattle.ostore_try_input.proofs.InputSaid.{one_refusal}
use Rattle.ostore_try_input.proofs.laws.one_refusal.Goals as goal

pub returns : goal.returns
returns c = one_refusal
