use Rattle.ostore_graph_model.proofs.CellFacts.{added_law}
use Rattle.ostore_graph_model.proofs.laws_of_cells.one_cell_is_added.Goals as goal

pub returns : goal.returns
returns c = added_law
