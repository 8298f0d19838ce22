use Rattle.ostore_graph_model.proofs.CellFacts.{held_law}
use Rattle.ostore_graph_model.proofs.laws_of_cells.held_image_tells_cells.Goals as goal

pub returns : goal.returns
returns c = held_law
