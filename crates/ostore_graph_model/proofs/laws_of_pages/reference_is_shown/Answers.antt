use Rattle.ostore_graph_model.proofs.BothSides.{reference_sides}
use Rattle.ostore_graph_model.proofs.laws_of_pages.reference_is_shown.Goals as goal

pub returns : goal.returns
returns c = reference_sides
