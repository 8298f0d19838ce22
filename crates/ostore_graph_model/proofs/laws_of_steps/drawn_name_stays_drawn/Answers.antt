use Rattle.ostore_graph_model.proofs.StepLaws.{law_of_drawn_names}
use Rattle.ostore_graph_model.proofs.laws_of_steps.drawn_name_stays_drawn.Goals as goal

pub returns : goal.returns
returns c = law_of_drawn_names
