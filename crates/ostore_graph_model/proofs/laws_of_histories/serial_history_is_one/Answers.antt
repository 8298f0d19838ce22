use Rattle.ostore_graph_model.proofs.SerialHistories.{serial_is_one}
use Rattle.ostore_graph_model.proofs.laws_of_histories.serial_history_is_one.Goals as goal

pub returns : goal.returns
returns c = serial_is_one
