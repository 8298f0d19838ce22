use Rattle.ostore_graph_model.proofs.BothSides.{good_links}
use Rattle.ostore_graph_model.proofs.laws_of_pages.links_are_good.Goals as goal

pub returns : goal.returns
returns c = good_links
