use Rattle.ostore_graph_model.proofs.Rows.SetItems.{set_items}
use Rattle.ostore_graph_model.proofs.worked.set_items.Goals as goal

pub returns : goal.returns
returns c = set_items
