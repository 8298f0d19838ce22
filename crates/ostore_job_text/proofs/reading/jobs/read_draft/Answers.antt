use Rattle.std.proofs.Common.{sym, ap, ◌∙◌, arith}
use Rattle.std.proofs.lemmas.Result.{err_from_is_err_and}
use Rattle.ostore_text_words.specs.Lines.{LinesAhead}
use Rattle.ostore_job_text.specs.declared.said.Stand.TheVariants as stands
use Rattle.ostore_job_text.specs.declared.reading.draft.Draft.{Draft}
use Rattle.ostore_job_text.specs.LinesSaid.{said_from}
use Rattle.ostore_job_text.specs.ParsedJob.{with_draft}
use Rattle.ostore_job_text.proofs.DraftLoops.{line_put, line_fails, lines_end, lines_lack}
use Rattle.ostore_job_text.proofs.reading.jobs.read_draft.Goals as goal

pub loop-alloc-init : goal.loop-alloc-init
loop-alloc-init c = ap (λ (d : Draft). with_draft d (said_from c.args.end stands.Start c.args.lines.now.lines)) c.new-draft.ensures

pub returns-in_err-said : goal.returns-in_err-said
returns-in_err-said c =
    let p = err_from_is_err_and c.from_residual.result c.from_residual.ensures.1 in
    let before = c.loop-alloc.lines in
    let more = sym c.has_line.ensures ∙ c.loop-alloc-test.true in
    rw (p.1, p.2) (line_fails c.in_err-said.field-0.0 c.loop-alloc.draft c.loop-alloc.stand c.args.end before.end before.lines _ more c.in_err-said.ensures c.loop-alloc.invariant)

pub loop-alloc-preserved : goal.loop-alloc-preserved
loop-alloc-preserved c =
    let before = c.loop-alloc.lines in
    let more = sym c.has_line.ensures ∙ c.loop-alloc-test.true in
    let left = ap (λ (a : LinesAhead). a.lines) c.in_ok-said.ensures.1 in
    let step = line_put c.loop-alloc.draft c.loop-alloc.stand c.args.end before.end before.lines _ c.in_ok-said.said more c.in_ok-said.ensures.0 left in
    rw (c.in_ok-put.ensures, c.stand_after-next.ensures) (sym step.0 ∙ c.loop-alloc.invariant)

pub loop-alloc-smaller : goal.loop-alloc-smaller
loop-alloc-smaller c =
    let before = c.loop-alloc.lines in
    let more = sym c.has_line.ensures ∙ c.loop-alloc-test.true in
    let left = ap (λ (a : LinesAhead). a.lines) c.in_ok-said.ensures.1 in
    let step = line_put c.loop-alloc.draft c.loop-alloc.stand c.args.end before.end before.lines _ c.in_ok-said.said more c.in_ok-said.ensures.0 left in
    omega (arith, step.1)

pub returns-in_err-ends : goal.returns-in_err-ends
returns-in_err-ends c =
    let p = err_from_is_err_and c.from_residual-in_err-ends.result c.from_residual-in_err-ends.ensures.1 in
    let last = sym c.has_line.ensures ∙ c.loop-alloc-test.false in
    rw (p.1, p.2) (lines_lack c.in_err-ends.field-0.0 c.loop-alloc.draft c.loop-alloc.stand c.args.end c.loop-alloc.lines.lines _ last c.in_err-ends.ensures c.loop-alloc.invariant)

pub returns : goal.returns
returns c =
    let last = sym c.has_line.ensures ∙ c.loop-alloc-test.false in
    sym c.loop-alloc.invariant ∙ lines_end c.loop-alloc.draft c.loop-alloc.stand c.args.end c.loop-alloc.lines.lines _ last c.in_ok-ends.ensures
