use Rattle.std.proofs.Common.{length, sym, ap, ◌∙◌, arith}
use Rattle.std.proofs.lemmas.Result.{err_from_is_err_and}
use Rattle.ostore_text_words.specs.Lines.{LinesAhead}
use Rattle.ostore_schema_layout.proofs.parsed.ReaderLaws.{members_begin, member_taken, member_fails, members_end}
use Rattle.ostore_schema_layout.proofs.reading.types.read_members.Goals as goal

pub loop-alloc-init : goal.loop-alloc-init
loop-alloc-init c = rw c.new-members.ensures (members_begin _, omega arith)

pub returns-in_err-member : goal.returns-in_err-member
returns-in_err-member c =
    let p = err_from_is_err_and c.from_residual.result c.from_residual.ensures.1 in
    let before = c.loop-alloc.lines in
    let more = sym c.has_member.ensures ∙ c.loop-alloc-test.true in
    rw (p.1, p.2) (member_fails c.in_err-member.field-0.0 c.loop-alloc.members before.lines before.end _ more c.in_err-member.ensures c.loop-alloc.invariant.0)

pub loop-alloc-preserved : goal.loop-alloc-preserved
loop-alloc-preserved c =
    let before = c.loop-alloc.lines in
    let more = sym c.has_member.ensures ∙ c.loop-alloc-test.true in
    let left = ap (λ (a : LinesAhead). a.lines) c.in_ok-member.ensures.1 in
    let step = member_taken c.loop-alloc.members before.lines before.end _ c.in_ok-member.member more c.in_ok-member.ensures.0 left in
    rw c.in_ok-push.ensures.ok (sym step.0 ∙ c.loop-alloc.invariant.0, omega (arith, step.1, c.loop-alloc.invariant.1))

pub loop-alloc-smaller : goal.loop-alloc-smaller
loop-alloc-smaller c =
    let before = c.loop-alloc.lines in
    let more = sym c.has_member.ensures ∙ c.loop-alloc-test.true in
    let left = ap (λ (a : LinesAhead). a.lines) c.in_ok-member.ensures.1 in
    let step = member_taken c.loop-alloc.members before.lines before.end _ c.in_ok-member.member more c.in_ok-member.ensures.0 left in
    omega (arith, step.1)

pub returns : goal.returns
returns c =
    let last = sym c.has_member.ensures ∙ c.loop-alloc-test.false in
    (sym c.loop-alloc.invariant.0 ∙ members_end c.loop-alloc.members c.loop-alloc.lines.lines last, c.loop-alloc.invariant.1)
