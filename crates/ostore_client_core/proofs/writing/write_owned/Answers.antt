use Rattle.std.proofs.Common.{◌≡◌, ℕ, List, length, get_or, take, sym, ap, subst, arith}
use Rattle.std.proofs.lemmas.List.{length-take-le}
use Rattle.ostore_base.specs.declared.numbers.PageNo.{PageNo}
use Rattle.ostore_redo_journal.specs.Drafts.{Draft, Writes, IsAbove}
use Rattle.ostore_client_core.specs.inside.Writing.{all_writes}
use Rattle.ostore_client_core.proofs.WriteLaws.{writes_above, writes_short}
use Rattle.ostore_client_core.proofs.writing.write_owned.Goals as goal

pub write_page-requires-clause-room : goal.write_page-requires-clause-room
write_page-requires-clause-room c =
    let pages : List PageNo = c.args.pages.now in
    let i : ℕ = c.loop-page.page-index in
    let below = c.loop-page-test.true in
    let room : c.loop-page.rec.room ≡ c.args.rec.now.room = ap (λ (d : Draft). d.room) c.loop-page.invariant.0 in
    let many : length c.loop-page.rec.pages ≡ length (all_writes c.args.space.now.pages c.args.schema.now c.args.cache.now.pages (take i pages)) = ap (λ (w : Writes). length w) c.loop-page.invariant.1 in
    let short = writes_short c.args.space.now.pages c.args.schema.now c.args.cache.now.pages (take i pages) in
    let front = length-take-le i pages (omega arith) in
    let all = c.requires.room in
    omega arith

pub write_page-requires-clause-above : goal.write_page-requires-clause-above
write_page-requires-clause-above c =
    let pages : List PageNo = c.args.pages.now in
    let i : ℕ = c.loop-page.page-index in
    subst (λ (w : Writes). IsAbove w (get_or pages i (record { 0 = 0 })).0) (sym c.loop-page.invariant.1)
    (writes_above c.args.space.now.pages c.args.schema.now c.args.cache.now.pages pages i (record { 0 = 0 }) c.requires.ascending c.loop-page-test.true)
