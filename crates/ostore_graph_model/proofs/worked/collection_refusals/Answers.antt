use Rattle.ostore_graph_model.proofs.Rows.CollectionRefusals.{collection_refusals}
use Rattle.ostore_graph_model.proofs.worked.collection_refusals.Goals as goal

pub returns : goal.returns
returns c = collection_refusals
