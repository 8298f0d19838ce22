use Rattle.ostore_graph_model.proofs.ValueLaws.{int_law}
use Rattle.ostore_graph_model.proofs.laws_of_pages.int_is_written.Goals as goal

pub returns : goal.returns
returns c = int_law
