use Rattle.ostore_graph_model.proofs.HistoryGraphs.{determined}
use Rattle.ostore_graph_model.proofs.laws_of_histories.graphs_are_determined.Goals as goal

pub returns : goal.returns
returns c = determined
