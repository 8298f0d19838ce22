use Rattle.ostore_graph_model.proofs.HistoryAdds.{added_reads}
use Rattle.ostore_graph_model.proofs.laws_of_histories.read_is_added.Goals as goal

pub returns : goal.returns
returns c = added_reads
