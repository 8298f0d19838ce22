use Rattle.std.proofs.Common.{◌≡◌, ◌++◌, length}
use Rattle.ostore_text_words.specs.Lines.{lines_of, worded}
use Rattle.ostore_text_words.specs.Seen.{seen_lines}
use Rattle.ostore_text_words.specs.inside.LineWalk.{lines_left}
use Rattle.ostore_text_words.proofs.LineReaders.{AreWithin}
use Rattle.ostore_text_words.proofs.lines.read_lines.Given as goal

abbrev pub invariant-loop-line : goal.invariant-loop-line
invariant-loop-line l =
    AreWithin (length l.text) (lines_left l.line-iterator) × (seen_lines l.lines ++ worded (lines_left l.line-iterator) ≡ lines_of l.text)
