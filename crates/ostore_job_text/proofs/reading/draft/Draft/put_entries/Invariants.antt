use Rattle.std.proofs.Common.{◌≡◌, drop}
use Rattle.ostore_job_text.specs.Drafted.{put_entries}
use Rattle.ostore_job_text.proofs.reading.draft.Draft.put_entries.Given as goal

abbrev pub invariant-loop-entry : goal.invariant-loop-entry
invariant-loop-entry l = put_entries l.self (drop l.entry-index l.entries) ≡ put_entries l.initial.self l.entries
