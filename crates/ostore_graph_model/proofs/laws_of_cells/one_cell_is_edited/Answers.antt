use Rattle.ostore_graph_model.proofs.CellFacts.{edited_law}
use Rattle.ostore_graph_model.proofs.laws_of_cells.one_cell_is_edited.Goals as goal

pub returns : goal.returns
returns c = edited_law
