use Rattle.ostore_graph_model.proofs.CollectionGraphs.{inserts_law}
use Rattle.ostore_graph_model.proofs.laws_of_collections.item_is_inserted.Goals as goal

pub returns : goal.returns
returns c = inserts_law
