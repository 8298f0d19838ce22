use Rattle.std.proofs.Common.{◌≡◌, ◌+◌, ◌-◌, ◌≤◌, length, map, drop, ◌++◌}
use Rattle.ostore_text_words.specs.Lines.{words_behind}
use Rattle.ostore_text_words.specs.Seen.{seen_word}
use Rattle.ostore_text_words.proofs.lines.words.words_of_line.Given as goal

abbrev pub invariant-loop-taken : goal.invariant-loop-taken
invariant-loop-taken l =
    (l.taken ≤ length l.line) × (map seen_word l.words ++ words_behind 0 (l.at + l.taken) (drop l.taken l.line) ≡ words_behind 0 l.at l.line)

abbrev pub decreases-loop-taken : goal.decreases-loop-taken
decreases-loop-taken l = length l.line - l.taken
