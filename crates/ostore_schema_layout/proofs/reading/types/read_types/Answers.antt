use Rattle.std.proofs.Common.{sym, ◌∙◌, arith}
use Rattle.std.proofs.lemmas.Result.{err_from_is_err_and}
use Rattle.ostore_schema_layout.proofs.parsed.ReaderLaws.{types_begin, type_taken, types_fail, types_end}
use Rattle.ostore_schema_layout.proofs.reading.types.read_types.Goals as goal

pub loop-alloc-init : goal.loop-alloc-init
loop-alloc-init c = rw c.new-types.ensures (types_begin _)

pub returns-in_err-ty : goal.returns-in_err-ty
returns-in_err-ty c =
    let p = err_from_is_err_and c.from_residual.result c.from_residual.ensures.1 in
    rw (p.1, p.2) (types_fail c.in_err-ty.field-0.0 c.loop-alloc.types _ _ c.in_err-ty.ensures c.loop-alloc.invariant)

pub loop-alloc-preserved : goal.loop-alloc-preserved
loop-alloc-preserved c =
    rw c.in_ok-push.ensures.ok (sym (type_taken c.loop-alloc.types _ _ c.in_ok-ty.ty c.in_ok-ty.ensures.0) ∙ c.loop-alloc.invariant)

pub loop-alloc-smaller : goal.loop-alloc-smaller
loop-alloc-smaller c = omega (arith, c.in_ok-ty.ensures.1)

pub returns : goal.returns
returns c =
    let last = sym c.has_line.ensures ∙ c.loop-alloc-test.false in
    sym c.loop-alloc.invariant ∙ types_end c.loop-alloc.types c.loop-alloc.lines.lines last
