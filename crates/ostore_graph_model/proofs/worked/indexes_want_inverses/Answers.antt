use Rattle.ostore_graph_model.proofs.Rows.IndexesWantInverses.{indexes_want_inverses}
use Rattle.ostore_graph_model.proofs.worked.indexes_want_inverses.Goals as goal

pub returns : goal.returns
returns c = indexes_want_inverses
