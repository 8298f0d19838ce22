use Rattle.ostore_graph_model.proofs.NewObjectLaw.{new_law}
use Rattle.ostore_graph_model.proofs.laws_of_pages.object_is_made.Goals as goal

pub returns : goal.returns
returns c = new_law
