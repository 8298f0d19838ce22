use Rattle.ostore_graph_model.proofs.CollectionGraphs.{appends_law}
use Rattle.ostore_graph_model.proofs.laws_of_collections.item_is_appended.Goals as goal

pub returns : goal.returns
returns c = appends_law
