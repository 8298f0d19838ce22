use Rattle.ostore_graph_history.proofs.HistoryLaws.{history_law}
use Rattle.ostore_graph_history.proofs.laws.history_is_legal.Goals as goal

pub returns : goal.returns
returns c = history_law
