use Rattle.ostore_graph_model.proofs.ReferenceLaw.{first_ref_law}
use Rattle.ostore_graph_model.proofs.laws_of_pages.first_side_is_written.Goals as goal

pub returns : goal.returns
returns c = first_ref_law
