use Rattle.ostore_graph_model.proofs.ReferenceLaw.{ref_law}
use Rattle.ostore_graph_model.proofs.laws_of_pages.reference_is_written.Goals as goal

pub returns : goal.returns
returns c = ref_law
