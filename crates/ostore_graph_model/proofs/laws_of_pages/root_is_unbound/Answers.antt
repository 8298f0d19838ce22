use Rattle.ostore_graph_model.proofs.RootLaws.{unbound_law}
use Rattle.ostore_graph_model.proofs.laws_of_pages.root_is_unbound.Goals as goal

pub returns : goal.returns
returns c = unbound_law
