use Rattle.ostore_graph_model.proofs.Kept.Graphs.{law_of_graphs}
use Rattle.ostore_graph_model.proofs.laws_of_steps.graph_stays_graph.Goals as goal

pub returns : goal.returns
returns c = law_of_graphs
