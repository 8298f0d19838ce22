use Rattle.std.proofs.Common.{◌∙◌, ◌+◌, eqb, get_or, drop, sym, arith}
use Rattle.std.proofs.lemmas.Bool.{cond-false, ne_eqb}
use Rattle.ostore_text_words.specs.Lines.{is_comment}
use Rattle.ostore_text_words.proofs.WordPlaces.{comment_step}
use Rattle.ostore_text_words.proofs.lines.is_comment.Goals as goal

pub returns-then-byte-ne32 : goal.returns-then-byte-ne32
returns-then-byte-ne32 c =
    let line = c.args.line.now in
    let i = c.loop-byte.byte-index in
    sym (comment_step line i (omega arith) ∙ cond-false (eqb (get_or line i 0) 32) (is_comment (drop (i + 1) line)) (eqb (get_or line i 0) 35) (ne_eqb (get_or line i 0) 32 c.if-byte-ne32.true)) ∙ c.loop-byte.invariant
