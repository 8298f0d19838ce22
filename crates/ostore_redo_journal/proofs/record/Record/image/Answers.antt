use Rattle.std.proofs.Common.{◌≡◌, ◌+◌, ◌*◌, ◌<◌, ℕ, List, Option, IfSome, take, drop, sym, ◌∙◌, ap, subst, arith}
use Rattle.ostore_base.specs.declared.numbers.PageNo.{PageNo}
use Rattle.ostore_base.specs.declared.page.PageImage.{PageImage}
use Rattle.ostore_redo_journal.proofs.RoundTrips.{pages_counted, drop_drop}
use Rattle.ostore_redo_journal.proofs.Stored.{page_at}
use Rattle.ostore_redo_journal.proofs.record.Record.image.Goals as goal

pub image_in-requires : goal.image_in-requires
image_in-requires c =
    let s = c.self.inside in
    let h = c.self.invariant in
    let below = (rw (← c.self.view_is) at c.requires) in
    omega (arith, below, h.within, h.size, pages_counted s.count (drop 21 s.bytes.items))

pub returns : goal.returns
returns c =
    let s = c.self.inside in
    let body = drop 21 s.bytes.items in
    let below = (rw (← c.self.view_is) at c.requires) in
    let at = c.args.at in
    let inside : at < s.count = omega (arith, below, pages_counted s.count body) in
    let place : 21 + (4100 * at + 4) ≡ 25 + 4100 * at = omega arith in
    let bytes : c.image_in.new.into.bytes ≡ take 4096 (drop (4100 * at + 4) body) =
    c.image_in.ensures ∙ ap (λ (l : List ℕ). take 4096 (drop (25 + 4100 * at) l)) c.deref.ensures.value ∙ ap (λ (k : ℕ). take 4096 (drop k s.bytes.items)) (sym place) ∙ ap (take 4096) (sym (drop_drop (4100 * at + 4) 21 s.bytes.items)) in
    rw (← c.self.view_is) (subst (λ (o : Option (PageNo × PageImage)). IfSome o (λ write. c.image_in.new.into ≡ write.1)) (sym (page_at s.count at body inside)) (λ i. record { bytes = bytes i }))
