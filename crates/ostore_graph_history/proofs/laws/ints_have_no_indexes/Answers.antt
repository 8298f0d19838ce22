use Rattle.ostore_graph_history.proofs.IntLaws.{int_law}
use Rattle.ostore_graph_history.proofs.laws.ints_have_no_indexes.Goals as goal

pub returns : goal.returns
returns c = int_law
