use Rattle.ostore_graph_model.proofs.StepLaws.{law_of_deleted_names}
use Rattle.ostore_graph_model.proofs.laws_of_steps.deleted_name_is_dead.Goals as goal

pub returns : goal.returns
returns c = law_of_deleted_names
