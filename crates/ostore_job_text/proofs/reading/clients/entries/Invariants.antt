use Rattle.std.proofs.Common.{◌≡◌}
use Rattle.ostore_text_words.specs.Seen.{seen_line}
use Rattle.ostore_job_text.proofs.WordLoops.{with_front, entries_on}
use Rattle.ostore_job_text.proofs.reading.clients.entries.Given as goal

abbrev pub invariant-loop-i : goal.invariant-loop-i
invariant-loop-i l = with_front l.entries (entries_on (seen_line l.line) l.i) ≡ entries_on (seen_line l.line) 1
