use Rattle.std.proofs.Common.{◌≡◌, ◌∙◌, List, ℕ, Option, None, length, replicate, arith, ap, sym, subst}
use Rattle.std.proofs.lemmas.List.{length-replicate}
use Rattle.std.specs.List.{range_with_len}
use Rattle.ostore_base.specs.declared.numbers.PageNo.{PageNo}
use Rattle.ostore_address_space.specs.declared.space.Frame.{Frame}
use Rattle.ostore_address_space.specs.Frames.{free_frames, AreFrames}
use Rattle.ostore_address_space.specs.inside.Kept.{AreIndexed}
use Rattle.ostore_address_space.proofs.FrameLaws.{all_free, none_frames, none_indexed}
use Rattle.ostore_address_space.proofs.space.Space.release_all.Goals as goal

pub invariant_of-self : goal.invariant_of-self
invariant_of-self c =
    let n = length c.self.inside.pages.items in
    let long = c.self.invariant.indexed.long in
    let pages = c.empty.ensures in
    let frames = c.empty-2.ensures ∙ ap (λ (k : ℕ). replicate {A = Option Frame} k None) long in
    let size = ap length pages ∙ length-replicate {A = Option PageNo} n None in
    let count : c.len-count.result ≡ n = omega arith in
    let most = c.self.invariant.all.few in
    let room = c.self.invariant.room in
    let kept = c.refill.ensures.room in
    record {
      all = subst (λ (l : List (Option PageNo)). AreFrames l) (sym pages) (none_frames n most);
      indexed = subst (λ (l : List (Option PageNo)). AreIndexed l c.empty-2.new.slots.items) (sym pages) (none_indexed n c.empty-2.new.slots.items frames);
      left = c.refill.ensures.all ∙ ap (range_with_len 1) count ∙ sym (all_free 1 n) ∙ ap free_frames (sym pages);
      room = omega arith;
    }
