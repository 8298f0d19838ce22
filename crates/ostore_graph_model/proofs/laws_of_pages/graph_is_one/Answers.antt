use Rattle.ostore_graph_model.proofs.UniqueLaws.{one_graph}
use Rattle.ostore_graph_model.proofs.laws_of_pages.graph_is_one.Goals as goal

pub returns : goal.returns
returns c = one_graph
