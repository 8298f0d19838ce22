use Rattle.ostore_graph_model.proofs.ReferenceLaw.{null_law}
use Rattle.ostore_graph_model.proofs.laws_of_pages.reference_is_cleared.Goals as goal

pub returns : goal.returns
returns c = null_law
