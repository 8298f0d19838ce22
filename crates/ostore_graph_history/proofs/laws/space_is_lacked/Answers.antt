use Rattle.ostore_graph_history.proofs.SpaceLaws.{space_law}
use Rattle.ostore_graph_history.proofs.laws.space_is_lacked.Goals as goal

pub returns : goal.returns
returns c = space_law
