use Rattle.std.proofs.Common.{◌≡◌, length}
use Rattle.ostore_text_words.specs.Lines.{worded}
use Rattle.ostore_text_words.specs.inside.LineWalk.{lines_left}
use Rattle.ostore_text_words.proofs.LineReaders.{AreWithin}
use Rattle.ostore_text_words.proofs.lines.reader.next_worded.Given as goal

abbrev pub invariant-loop-line : goal.invariant-loop-line
invariant-loop-line l =
    AreWithin (length l.initial.walk.text.now) (lines_left l.walk) × (worded (lines_left l.walk) ≡ worded (lines_left l.initial.walk))

abbrev pub decreases-loop-line : goal.decreases-loop-line
decreases-loop-line l = length (lines_left l.walk)
