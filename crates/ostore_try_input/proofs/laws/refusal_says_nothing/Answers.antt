use Rattle.ostore_try_input.proofs.InputSaid.{refusal_says_nothing}
use Rattle.ostore_try_input.proofs.laws.refusal_says_nothing.Goals as goal

pub returns : goal.returns
returns c = refusal_says_nothing
