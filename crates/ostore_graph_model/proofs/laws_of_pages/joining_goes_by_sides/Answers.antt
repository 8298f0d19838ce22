use Rattle.ostore_graph_model.proofs.BothSides.{joining}
use Rattle.ostore_graph_model.proofs.laws_of_pages.joining_goes_by_sides.Goals as goal

pub returns : goal.returns
returns c = joining
