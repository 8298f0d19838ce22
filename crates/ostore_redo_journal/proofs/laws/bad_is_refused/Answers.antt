use Rattle.ostore_redo_journal.proofs.Refused.{bad_refused}
use Rattle.ostore_redo_journal.proofs.laws.bad_is_refused.Goals as goal

pub returns : goal.returns
returns c = bad_refused
