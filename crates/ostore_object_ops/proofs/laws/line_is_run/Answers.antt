use Rattle.ostore_object_ops.proofs.RunLaws.{next_lines}
use Rattle.ostore_object_ops.proofs.laws.line_is_run.Goals as goal

pub returns : goal.returns
returns c = next_lines
