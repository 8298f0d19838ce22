use Rattle.ostore_graph_model.proofs.Rows.FilledSet.{filled_set}
use Rattle.ostore_graph_model.proofs.worked.filled_set.Goals as goal

pub returns : goal.returns
returns c = filled_set
