use Rattle.ostore_graph_model.proofs.StepLaws.{law_of_read_transactions}
use Rattle.ostore_graph_model.proofs.laws_of_steps.read_transaction_changes_nothing.Goals as goal

pub returns : goal.returns
returns c = law_of_read_transactions
