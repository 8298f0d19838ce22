use Rattle.ostore_graph_model.proofs.SideLaws.{link_sides_law}
use Rattle.ostore_graph_model.proofs.laws_of_pages.each_side_shows_pairs.Goals as goal

pub returns : goal.returns
returns c = link_sides_law
