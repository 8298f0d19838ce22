-- What is printed, with the entries that are left, is the whole text.
use Rattle.std.proofs.Common.{◌≡◌, ◌++◌, drop, map}
use Rattle.ostore_job_text.specs.Canonical.{turn_word}
use Rattle.ostore_job_print.specs.inside.Spaced.{spaced}
use Rattle.ostore_job_print.proofs.print.push_entries.Given as goal

abbrev pub invariant-loop-turn : goal.invariant-loop-turn
invariant-loop-turn l = l.out ++ spaced (map (turn_word l.clients) (drop l.turn-index l.turns)) ≡ l.initial.out ++ spaced (map (turn_word l.clients) l.turns)
