use Rattle.ostore_graph_model.proofs.PointerFacts.{pointers_law}
use Rattle.ostore_graph_model.proofs.laws_of_cells.pointers_lead_to_pages.Goals as goal

pub returns : goal.returns
returns c = pointers_law
