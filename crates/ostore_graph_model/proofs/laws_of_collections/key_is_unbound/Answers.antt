use Rattle.ostore_graph_model.proofs.CollectionGraphs.{unbinds_law}
use Rattle.ostore_graph_model.proofs.laws_of_collections.key_is_unbound.Goals as goal

pub returns : goal.returns
returns c = unbinds_law
