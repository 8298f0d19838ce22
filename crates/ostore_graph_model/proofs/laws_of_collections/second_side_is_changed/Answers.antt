use Rattle.ostore_graph_model.proofs.CollectionGraphs.{second_sides_law}
use Rattle.ostore_graph_model.proofs.laws_of_collections.second_side_is_changed.Goals as goal

pub returns : goal.returns
returns c = second_sides_law
