use Rattle.ostore_graph_model.proofs.Rows.DanglingReference.{later_read}
use Rattle.ostore_graph_model.proofs.worked.later_read.Goals as goal

pub returns : goal.returns
returns c = later_read
