use Rattle.std.proofs.Common.{◌∙◌, ◌<◌, length, sym, arith}
use Rattle.std.specs.Str.{bytes_eq}
use Rattle.std.proofs.lemmas.Bool.{eqb-true, eqb-false, not-true, not-false}
use Rattle.ostore_text_words.proofs.WordPlaces.{only_none, only_other, only_same}
use Rattle.ostore_text_words.proofs.lines.words.is_only.Goals as goal
use Rattle.ostore_text_words.proofs.lines.words.is_only.Goals.{then-is_empty-via-then-is_empty, then-is_empty-via-else-is_empty+then-ne}

pub returns-then-is_empty : goal.returns-then-is_empty
returns-then-is_empty c =
    elim c.then-is_empty.branch [
      | then-is_empty-via-then-is_empty w ↦ only_none c.args.word.now c.args.line.now c.past_spaces.result.now c.around_word.result.0.now c.around_word.result.1.now c.past_spaces.ensures c.around_word.ensures.word c.around_word.ensures.rest (eqb-true (length c.around_word.result.0.now) 0 (sym c.is_empty.ensures ∙ w.if-is_empty.true))
      | then-is_empty-via-else-is_empty+then-ne w ↦ only_other c.args.word.now c.args.line.now c.past_spaces.result.now c.around_word.result.0.now c.around_word.result.1.now c.past_spaces.ensures c.around_word.ensures.word c.around_word.ensures.rest (not-true (bytes_eq c.around_word.result.0.now c.args.word.now) (sym w.ne.ensures ∙ w.if-ne.true))
    ]

pub returns : goal.returns
returns c =
    let miss = eqb-false (length c.around_word.result.0.now) 0 (sym c.if-is_empty.ensures) in
    let some : 0 < length c.around_word.result.0.now = omega arith in
    c.is_empty-2.ensures ∙ only_same c.args.word.now c.args.line.now c.past_spaces.result.now c.around_word.result.0.now c.around_word.result.1.now c.past_spaces-2.result.now c.past_spaces.ensures c.around_word.ensures.word c.around_word.ensures.rest c.past_spaces-2.ensures some (not-false (bytes_eq c.around_word.result.0.now c.args.word.now) (sym c.if-ne.ensures))
