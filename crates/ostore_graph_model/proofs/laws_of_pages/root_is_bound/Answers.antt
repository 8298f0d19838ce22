use Rattle.ostore_graph_model.proofs.RootLaws.{bound_law}
use Rattle.ostore_graph_model.proofs.laws_of_pages.root_is_bound.Goals as goal

pub returns : goal.returns
returns c = bound_law
