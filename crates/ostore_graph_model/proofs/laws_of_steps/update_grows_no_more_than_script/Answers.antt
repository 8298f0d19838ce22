use Rattle.ostore_graph_model.proofs.GrowthLaws.{law_of_growth}
use Rattle.ostore_graph_model.proofs.laws_of_steps.update_grows_no_more_than_script.Goals as goal

pub returns : goal.returns
returns c = law_of_growth
