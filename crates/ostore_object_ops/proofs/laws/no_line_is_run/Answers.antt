use Rattle.ostore_object_ops.proofs.RunLaws.{first_lines}
use Rattle.ostore_object_ops.proofs.laws.no_line_is_run.Goals as goal

pub returns : goal.returns
returns c = first_lines
