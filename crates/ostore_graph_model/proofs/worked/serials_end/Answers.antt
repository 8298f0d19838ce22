use Rattle.ostore_graph_model.proofs.Rows.SerialsEnd.{serials_end}
use Rattle.ostore_graph_model.proofs.worked.serials_end.Goals as goal

pub returns : goal.returns
returns c = serials_end
