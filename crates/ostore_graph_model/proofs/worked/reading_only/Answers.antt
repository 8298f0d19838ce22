use Rattle.ostore_graph_model.proofs.Rows.ReadingOnly.{reading_only}
use Rattle.ostore_graph_model.proofs.worked.reading_only.Goals as goal

pub returns : goal.returns
returns c = reading_only
