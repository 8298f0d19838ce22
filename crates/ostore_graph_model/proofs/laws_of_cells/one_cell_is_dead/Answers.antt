use Rattle.ostore_graph_model.proofs.CellFacts.{dead_law}
use Rattle.ostore_graph_model.proofs.laws_of_cells.one_cell_is_dead.Goals as goal

pub returns : goal.returns
returns c = dead_law
