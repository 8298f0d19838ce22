use Rattle.ostore_redo_journal.proofs.Unique.{record_same}
use Rattle.ostore_redo_journal.proofs.laws.written_is_read.Goals as goal

pub returns : goal.returns
returns c = record_same
