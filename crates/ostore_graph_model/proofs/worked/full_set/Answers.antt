use Rattle.ostore_graph_model.proofs.Rows.FullSet.{full_set}
use Rattle.ostore_graph_model.proofs.worked.full_set.Goals as goal

pub returns : goal.returns
returns c = full_set
