use Rattle.ostore_graph_model.proofs.IndexLaws.{no_indexes_law}
use Rattle.ostore_graph_model.proofs.laws_of_pages.no_index_is_wrong.Goals as goal

pub returns : goal.returns
returns c = no_indexes_law
