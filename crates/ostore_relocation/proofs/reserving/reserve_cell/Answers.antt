use Rattle.std.proofs.Common.{ℕ, ap, subst}
use Rattle.std.specs.Prelude.{is_ok}
use Rattle.ostore_relocation.specs.Reserving.{Reserves, target_of}
use Rattle.ostore_relocation.proofs.ReserveLaws.{cell_next}
use Rattle.ostore_relocation.proofs.reserving.reserve_cell.Goals as goal

pub loop-at-preserved : goal.loop-at-preserved
loop-at-preserved g c =
    cell_next (g.M.Mapper.choice c.args.mapper.now) c.args.space.now c.loop-at.space c.reserve_target.new.space c.args.image.now.bytes c.args.offset c.loop-at.pointers c.next.new.self c.in-Some.at _ c.reserve_target.result c.loop-at.invariant
    c.in-Some.ensures.next c.in-Some.ensures.left
    (subst (λ (n : ℕ). Reserves (g.M.Mapper.choice c.args.mapper.now) c.loop-at.space c.reserve_target.new.space (target_of n) c.reserve_target.result) c.get_pointer.ensures c.reserve_target.ensures)
    (ap is_ok c.in_ok-reserve_target.was)
