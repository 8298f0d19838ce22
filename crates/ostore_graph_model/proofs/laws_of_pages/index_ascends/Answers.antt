use Rattle.ostore_graph_model.proofs.AscentLaws.{index_order_law}
use Rattle.ostore_graph_model.proofs.laws_of_pages.index_ascends.Goals as goal

pub returns : goal.returns
returns c = index_order_law
