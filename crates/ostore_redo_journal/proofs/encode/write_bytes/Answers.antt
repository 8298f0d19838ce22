use Rattle.std.proofs.Common.{◌≡◌, ◌+◌, ◌-◌, ◌*◌, ℕ, List, OnOk, take, drop, ◌∙◌, subst, arith}
use Rattle.std.specs.Option.{option_map}
use Rattle.ostore_base.specs.Images.{LeavesOnly, OfTold, IsTornAtGate, opened_at}
use Rattle.ostore_redo_journal.proofs.encode.write_bytes.Goals as goal

pub returns-clause-written : goal.returns-clause-written
returns-clause-written g c =
    let told = g.D.Disk.content c.args.disk.now in
    let size : 21 + 4100 * c.args.count + 1 - 1 ≡ 21 + 4100 * c.args.count = omega arith in
    let is = (λ i. take (size i) (drop 1 (c.deref.ensures.value i))) ∙ c.seal.ensures.spelled in
    subst (λ (b : List ℕ). OnOk c.write_gated.result (g.D.Disk.content c.write_gated.new.disk ≡ option_map (opened_at c.args.gate b) told)) is c.write_gated.ensures.written

pub returns-clause-any_moment : goal.returns-clause-any_moment
returns-clause-any_moment g c =
    let told = g.D.Disk.content c.args.disk.now in
    let size : 21 + 4100 * c.args.count + 1 - 1 ≡ 21 + 4100 * c.args.count = omega arith in
    let is = (λ i. take (size i) (drop 1 (c.deref.ensures.value i))) ∙ c.seal.ensures.spelled in
    subst (λ (b : List ℕ). LeavesOnly g.D.Disk.moment g.D.Disk.left_since c.args.disk.now c.write_gated.new.disk (OfTold told (IsTornAtGate c.args.gate b))) is c.write_gated.ensures.any_moment
