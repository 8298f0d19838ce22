-- A page's frame, and the page in it.
use Rattle.std.proofs.Common.{◌≡◌, ℕ, ◌*◌, ◌/◌, List, Option, Some, ap, ◌∙◌, arith}
use Rattle.ostore_base.specs.declared.numbers.PageNo.{PageNo}
use Rattle.ostore_address_space.specs.declared.space.Frame.{Frame}
use Rattle.ostore_address_space.specs.Frames.{ArePaired, frame_of, page_in}

-- the first address of a page's frame leads to the page
pub first_leads : (frames : List (Option PageNo)) (page : ℕ) (frame : Frame) → ArePaired frames → frame_of frames page ≡ Some frame → page_in frames (frame.0 * 4096 / 4096) ≡ Some (record { 0 = page })
first_leads frames page frame paired is =
    let same : frame.0 * 4096 / 4096 ≡ frame.0 = omega arith in
    ap (λ (f : ℕ). page_in frames f) same ∙ (paired.frame frame.0 page).0 is
