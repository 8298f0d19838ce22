use Rattle.ostore_graph_model.proofs.HistoryAdds.{added_updates}
use Rattle.ostore_graph_model.proofs.laws_of_histories.update_is_added.Goals as goal

pub returns : goal.returns
returns c = added_updates
