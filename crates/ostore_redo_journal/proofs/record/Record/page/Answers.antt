use Rattle.std.proofs.Common.{◌≡◌, ◌+◌, ◌*◌, ◌<◌, ℕ, List, Option, IfSome, take, drop, sym, ◌∙◌, ap, subst, arith}
use Rattle.std.specs.Int.{w32, from_le_bytes}
use Rattle.ostore_base.specs.declared.numbers.PageNo.{PageNo}
use Rattle.ostore_base.specs.declared.page.PageImage.{PageImage}
use Rattle.ostore_redo_journal.specs.Records.{u32_at}
use Rattle.ostore_redo_journal.proofs.RoundTrips.{pages_counted, drop_drop}
use Rattle.ostore_redo_journal.proofs.Stored.{page_at}
use Rattle.ostore_redo_journal.proofs.record.Record.page.Goals as goal

pub get_u32-requires : goal.get_u32-requires
get_u32-requires c =
    let s = c.self.inside in
    let h = c.self.invariant in
    let below = (rw (← c.self.view_is) at c.requires) in
    omega (arith, below, h.within, h.size, pages_counted s.count (drop 21 s.bytes.items))

pub returns : goal.returns
returns c =
    let s = c.self.inside in
    let body = drop 21 s.bytes.items in
    let below = (rw (← c.self.view_is) at c.requires) in
    let at = c.args.at in
    let inside : at < s.count = omega (arith, below, pages_counted s.count body) in
    let number : c.get_u32.result ≡ u32_at body (4100 * at) =
    c.get_u32.ensures ∙ ap (λ (l : List ℕ). from_le_bytes w32 (take 4 (drop (21 + 4100 * at) l))) c.deref.ensures.value ∙ ap (λ (l : List ℕ). from_le_bytes w32 (take 4 l)) (sym (drop_drop (4100 * at) 21 s.bytes.items)) in
    rw (← c.self.view_is) (subst (λ (o : Option (PageNo × PageImage)). IfSome o (λ write. record { 0 = c.get_u32.result } ≡ write.0)) (sym (page_at s.count at body inside)) (λ i. record { 0 = number i }))
