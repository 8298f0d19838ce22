use Rattle.ostore_object_ops.proofs.RunLaws.{last_lines}
use Rattle.ostore_object_ops.proofs.laws.run_is_transaction.Goals as goal

pub returns : goal.returns
returns c = last_lines
