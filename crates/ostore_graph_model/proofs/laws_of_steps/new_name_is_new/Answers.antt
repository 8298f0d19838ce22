use Rattle.ostore_graph_model.proofs.StepLaws.{law_of_new_names}
use Rattle.ostore_graph_model.proofs.laws_of_steps.new_name_is_new.Goals as goal

pub returns : goal.returns
returns c = law_of_new_names
