use Rattle.ostore_graph_model.proofs.FreshLaw.{fresh_law}
use Rattle.ostore_graph_model.proofs.laws_of_pages.fresh_pages_are_empty.Goals as goal

pub returns : goal.returns
returns c = fresh_law
