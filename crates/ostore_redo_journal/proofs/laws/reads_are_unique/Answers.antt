use Rattle.std.proofs.Common.{arith}
use Rattle.ostore_redo_journal.proofs.Unique.{reads_unique}
use Rattle.ostore_redo_journal.proofs.laws.reads_are_unique.Goals as goal

pub returns : goal.returns
returns c bytes h k rs ss small left right = reads_unique bytes h k rs ss (let most = left.says.most in omega (arith, most)) small left right
