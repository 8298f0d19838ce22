use Rattle.ostore_graph_model.proofs.UndeclaredLaw.{undeclared_law}
use Rattle.ostore_graph_model.proofs.laws_of_pages.no_index_is_declared.Goals as goal

pub returns : goal.returns
returns c = undeclared_law
