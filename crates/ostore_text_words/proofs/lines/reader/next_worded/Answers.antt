use Rattle.std.proofs.Common.{refl, arith}
use Rattle.std.proofs.lemmas.Grind.{common_steps}
use Rattle.ostore_text_words.specs.inside.LineWalk.{seen_bytes}
use Rattle.ostore_text_words.proofs.LineReaders.{on_within, next_within}
use Rattle.ostore_text_words.proofs.lines.reader.next_worded.Goals as goal

pub loop-line-init : goal.loop-line-init
loop-line-init c =
    let walk = c.args.walk.now in
    (on_within walk.next_at walk.text.now, refl)

pub line_words-requires : goal.line_words-requires
line_words-requires c =
    let fits = next_within _ _ _ (seen_bytes c.in-Some.line) c.in-Some.ensures.steps c.loop-line.invariant.0 in
    omega arith

pub overflow_add-end : goal.overflow_add-end
overflow_add-end c =
    let fits = next_within _ _ _ (seen_bytes c.in-Some.line) c.in-Some.ensures.steps c.loop-line.invariant.0 in
    omega arith

pub loop-line-preserved : goal.loop-line-preserved
loop-line-preserved c =
    let fits = next_within _ _ _ (seen_bytes c.in-Some.line) c.in-Some.ensures.steps c.loop-line.invariant.0 in
    (fits.1, grind (arith, common_steps))
