use Rattle.ostore_turns.proofs.RecordedLaws.{are_records}
use Rattle.ostore_turns.proofs.laws.results_are_records.Goals as goal

pub returns : goal.returns
returns c = are_records
