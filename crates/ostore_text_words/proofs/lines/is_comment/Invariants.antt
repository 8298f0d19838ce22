use Rattle.std.proofs.Common.{◌≡◌, drop}
use Rattle.ostore_text_words.specs.Lines.{is_comment}
use Rattle.ostore_text_words.proofs.lines.is_comment.Given as goal

abbrev pub invariant-loop-byte : goal.invariant-loop-byte
invariant-loop-byte l = is_comment (drop l.byte-index l.line) ≡ is_comment l.line
