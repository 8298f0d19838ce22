use Rattle.ostore_graph_model.proofs.StepLaws.{law_of_refusals}
use Rattle.ostore_graph_model.proofs.laws_of_steps.refusal_changes_nothing.Goals as goal

pub returns : goal.returns
returns c = law_of_refusals
