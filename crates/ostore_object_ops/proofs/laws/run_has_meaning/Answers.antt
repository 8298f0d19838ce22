use Rattle.ostore_object_ops.proofs.RunLaws.{meanings}
use Rattle.ostore_object_ops.proofs.laws.run_has_meaning.Goals as goal

pub returns : goal.returns
returns c = meanings
