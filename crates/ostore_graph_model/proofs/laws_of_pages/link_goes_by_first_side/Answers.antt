use Rattle.ostore_graph_model.proofs.AscentLaws.{sides_law}
use Rattle.ostore_graph_model.proofs.laws_of_pages.link_goes_by_first_side.Goals as goal

pub returns : goal.returns
returns c = sides_law
