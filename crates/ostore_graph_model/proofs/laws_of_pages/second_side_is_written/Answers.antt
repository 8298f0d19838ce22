use Rattle.ostore_graph_model.proofs.ReferenceLaw.{second_ref_law}
use Rattle.ostore_graph_model.proofs.laws_of_pages.second_side_is_written.Goals as goal

pub returns : goal.returns
returns c = second_ref_law
