use Rattle.ostore_graph_model.proofs.StepLaws.{law_of_reads}
use Rattle.ostore_graph_model.proofs.laws_of_steps.reading_changes_nothing.Goals as goal

pub returns : goal.returns
returns c = law_of_reads
