use Rattle.ostore_graph_model.proofs.CollectionGraphs.{removes_law}
use Rattle.ostore_graph_model.proofs.laws_of_collections.item_is_removed.Goals as goal

pub returns : goal.returns
returns c = removes_law
