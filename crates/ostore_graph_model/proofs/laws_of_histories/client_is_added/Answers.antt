use Rattle.ostore_graph_model.proofs.HistoryAdds.{added_clients}
use Rattle.ostore_graph_model.proofs.laws_of_histories.client_is_added.Goals as goal

pub returns : goal.returns
returns c = added_clients
