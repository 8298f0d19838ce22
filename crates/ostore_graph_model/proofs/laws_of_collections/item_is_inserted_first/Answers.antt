use Rattle.ostore_graph_model.proofs.CollectionGraphs.{first_inserts_law}
use Rattle.ostore_graph_model.proofs.laws_of_collections.item_is_inserted_first.Goals as goal

pub returns : goal.returns
returns c = first_inserts_law
