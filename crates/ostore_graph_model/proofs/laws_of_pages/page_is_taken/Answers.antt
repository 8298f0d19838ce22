use Rattle.ostore_graph_model.proofs.TakenLaw.{taken_law}
use Rattle.ostore_graph_model.proofs.laws_of_pages.page_is_taken.Goals as goal

pub returns : goal.returns
returns c = taken_law
