use Rattle.std.proofs.Common.{refl, arith}
use Rattle.ostore_text_words.specs.inside.LineWalk.{seen_bytes}
use Rattle.ostore_text_words.proofs.LineReaders.{worded_all, line_met, lines_end, lines_within, next_within}
use Rattle.ostore_text_words.proofs.lines.read_lines.Goals as goal

pub loop-line-init : goal.loop-line-init
loop-line-init c =
    rw (c.into_iter-line-iterator.ensures.into_iter_gives, c.new-line-items.ensures, c.new-lines.ensures) (lines_within c.args.text.now, worded_all c.args.text.now)

pub overflow_add-line : goal.overflow_add-line
overflow_add-line c =
    let fits = next_within _ _ _ (seen_bytes c.in-Some.line) c.in-Some.ensures.steps c.loop-line.invariant.0 in
    omega arith

pub loop-line-preserved : goal.loop-line-preserved
loop-line-preserved c =
    let steps = c.in-Some.ensures.steps in
    let fits = next_within _ _ _ (seen_bytes c.in-Some.line) steps c.loop-line.invariant.0 in
    rw c.in_ok-push_line.ensures (fits.1, line_met _ _ _ _ (seen_bytes c.in-Some.line) _ _ steps c.in_ok-words.ensures refl c.loop-line.invariant.1)

pub returns : goal.returns
returns c = lines_end _ _ _ c.in-None.ensures.steps.0 c.loop-line.invariant.1
