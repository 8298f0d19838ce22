use Rattle.ostore_graph_model.proofs.StepLaws.{law_of_answers}
use Rattle.ostore_graph_model.proofs.laws_of_steps.answers_are_replies.Goals as goal

pub returns : goal.returns
returns c = law_of_answers
