use Rattle.ostore_graph_model.proofs.SizeLaw.{list_sizes_law}
use Rattle.ostore_graph_model.proofs.laws_of_collections.count_is_list_size.Goals as goal

pub returns : goal.returns
returns c = list_sizes_law
