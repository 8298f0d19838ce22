use Rattle.ostore_graph_model.proofs.MemberEdits.{sizes_law}
use Rattle.ostore_graph_model.proofs.laws_of_cells.cells_are_sized.Goals as goal

pub returns : goal.returns
returns c = sizes_law
