use Rattle.ostore_redo_journal.proofs.LastLaws.{newest_push}
use Rattle.ostore_redo_journal.proofs.laws.newest_of_one_more.Goals as goal

pub returns : goal.returns
returns c = newest_push
