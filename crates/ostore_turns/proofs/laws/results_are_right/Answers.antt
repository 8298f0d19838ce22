use Rattle.ostore_turns.proofs.RightLaws.{are_right}
use Rattle.ostore_turns.proofs.laws.results_are_right.Goals as goal

pub returns : goal.returns
returns c = are_right
