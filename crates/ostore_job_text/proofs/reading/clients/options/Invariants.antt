use Rattle.std.proofs.Common.{◌≡◌, ◌-◌, length}
use Rattle.ostore_text_words.specs.Seen.{seen_line}
use Rattle.ostore_job_text.proofs.WordLoops.{with_front, options_on}
use Rattle.ostore_job_text.proofs.reading.clients.options.Given as goal

abbrev pub invariant-loop-i : goal.invariant-loop-i
invariant-loop-i l = with_front l.options (options_on (seen_line l.line) l.i) ≡ options_on (seen_line l.line) 2

abbrev pub decreases-loop-i : goal.decreases-loop-i
decreases-loop-i l = length l.line.words - l.i
