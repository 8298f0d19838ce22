use Rattle.ostore_graph_model.proofs.Rows.RootsEnd.{roots_end}
use Rattle.ostore_graph_model.proofs.worked.roots_end.Goals as goal

pub returns : goal.returns
returns c = roots_end
