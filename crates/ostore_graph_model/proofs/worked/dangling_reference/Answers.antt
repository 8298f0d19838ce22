use Rattle.ostore_graph_model.proofs.Rows.DanglingReference.{dangling_reference}
use Rattle.ostore_graph_model.proofs.worked.dangling_reference.Goals as goal

pub returns : goal.returns
returns c = dangling_reference
