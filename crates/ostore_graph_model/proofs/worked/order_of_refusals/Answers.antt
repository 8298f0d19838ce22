use Rattle.ostore_graph_model.proofs.Rows.OrderOfRefusals.{order_of_refusals}
use Rattle.ostore_graph_model.proofs.worked.order_of_refusals.Goals as goal

pub returns : goal.returns
returns c = order_of_refusals
