use Rattle.ostore_graph_model.proofs.CollectionLaws.{collection_law}
use Rattle.ostore_graph_model.proofs.laws_of_collections.collection_is_changed.Goals as goal

pub returns : goal.returns
returns c = collection_law
