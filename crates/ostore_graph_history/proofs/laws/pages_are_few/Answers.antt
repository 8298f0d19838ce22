use Rattle.ostore_graph_history.proofs.SpaceLaws.{few_law}
use Rattle.ostore_graph_history.proofs.laws.pages_are_few.Goals as goal

pub returns : goal.returns
returns c = few_law
