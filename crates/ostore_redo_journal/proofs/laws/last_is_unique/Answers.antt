use Rattle.ostore_redo_journal.proofs.LastLaws.{last_unique}
use Rattle.ostore_redo_journal.proofs.laws.last_is_unique.Goals as goal

pub returns : goal.returns
returns c = last_unique
