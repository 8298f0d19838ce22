use Rattle.ostore_graph_model.proofs.SameLaws.{same_law}
use Rattle.ostore_graph_model.proofs.laws_of_pages.same_is_read.Goals as goal

pub returns : goal.returns
returns c = same_law
