use Rattle.std.proofs.Common.{◌∙◌, List, Option, None, length, arith, ap, sym, subst}
use Rattle.std.proofs.lemmas.List.{length-replicate}
use Rattle.ostore_base.specs.declared.numbers.PageNo.{PageNo}
use Rattle.ostore_address_space.specs.Frames.{free_frames, frames_of, AreFrames}
use Rattle.ostore_address_space.specs.inside.Kept.{AreIndexed}
use Rattle.ostore_address_space.proofs.FrameLaws.{all_free, none_frames, none_indexed}
use Rattle.ostore_address_space.proofs.space.Space.new.Goals as goal

pub invariant_of-result : goal.invariant_of-result
invariant_of-result c =
    let pages = c.in_ok-pages.ensures in
    let size = ap length pages ∙ length-replicate {A = Option PageNo} c.args.frames None in
    let most = c.requires in
    let kept = c.refill.ensures.room in
    let room = c.in_ok-free.ensures.capacity in
    record {
      all = subst (λ (l : List (Option PageNo)). AreFrames l) (sym pages) (none_frames c.args.frames most);
      indexed = subst (λ (l : List (Option PageNo)). AreIndexed l c.in_ok-of_pages.of_pages.items) (sym pages) (none_indexed c.args.frames c.in_ok-of_pages.of_pages.items c.in_ok-of_pages.ensures);
      left = c.refill.ensures.all ∙ sym (all_free 1 c.args.frames) ∙ ap free_frames (sym pages);
      room = omega arith;
    }

pub returns : goal.returns
returns c = ap (frames_of c.args.client) c.in_ok-pages.ensures
