use Rattle.ostore_graph_model.proofs.CollectionGraphs.{binds_law}
use Rattle.ostore_graph_model.proofs.laws_of_collections.key_is_bound.Goals as goal

pub returns : goal.returns
returns c = binds_law
