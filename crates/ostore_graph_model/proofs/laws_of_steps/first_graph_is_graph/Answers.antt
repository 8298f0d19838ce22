use Rattle.ostore_graph_model.proofs.Kept.Graphs.{law_of_first_graph}
use Rattle.ostore_graph_model.proofs.laws_of_steps.first_graph_is_graph.Goals as goal

pub returns : goal.returns
returns c = law_of_first_graph
