use Rattle.ostore_graph_model.proofs.Rows.DeletedItem.{deleted_item}
use Rattle.ostore_graph_model.proofs.worked.deleted_item.Goals as goal

pub returns : goal.returns
returns c = deleted_item
