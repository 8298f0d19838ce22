use Rattle.ostore_graph_model.proofs.BothSides.{set_sides}
use Rattle.ostore_graph_model.proofs.laws_of_pages.items_are_shown.Goals as goal

pub returns : goal.returns
returns c = set_sides
