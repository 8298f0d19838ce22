use Rattle.ostore_graph_model.proofs.CollectionGraphs.{puts_law}
use Rattle.ostore_graph_model.proofs.laws_of_collections.item_is_put.Goals as goal

pub returns : goal.returns
returns c = puts_law
