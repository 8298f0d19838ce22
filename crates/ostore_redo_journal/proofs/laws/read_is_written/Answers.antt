use Rattle.ostore_redo_journal.proofs.RoundTrips.{record_written}
use Rattle.ostore_redo_journal.proofs.laws.read_is_written.Goals as goal

pub returns : goal.returns
returns c generation number bytes small size is numbered = record_written generation number bytes size small is numbered
