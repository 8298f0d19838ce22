use Rattle.ostore_redo_journal.proofs.Refused.{scanned}
use Rattle.ostore_redo_journal.proofs.laws.scanned_is_read.Goals as goal

pub returns : goal.returns
returns c = scanned
