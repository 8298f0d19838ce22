use Rattle.ostore_graph_model.proofs.LiveLaws.{law_of_live_graphs}
use Rattle.ostore_graph_model.proofs.laws_of_steps.graph_stays_live.Goals as goal

pub returns : goal.returns
returns c = law_of_live_graphs
