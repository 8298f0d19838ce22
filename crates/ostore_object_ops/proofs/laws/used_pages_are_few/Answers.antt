use Rattle.ostore_object_ops.proofs.RunLaws.{few_lines}
use Rattle.ostore_object_ops.proofs.laws.used_pages_are_few.Goals as goal

pub returns : goal.returns
returns c = few_lines
