use Rattle.ostore_graph_model.proofs.GraphExists.{graph_exists}
use Rattle.ostore_graph_model.proofs.laws_of_pages.graph_is_there.Goals as goal

pub returns : goal.returns
returns c = graph_exists
