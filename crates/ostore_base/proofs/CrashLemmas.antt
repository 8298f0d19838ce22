-- The images that are built are images of a crash.
use Rattle.std.proofs.Common.{◌≡◌, ℕ, ◌+◌, ◌/◌, ◌≤◌, List, [], ◌∷◌, ◌++◌, length, take, drop, replicate, slice_index_or, ◌-◌, ◌<◌, ◌⊎◌, inl, inr, All, Contains, refl, sym, subst, arith}
use Rattle.std.proofs.lemmas.Bool.{cases_lt}
use Rattle.std.proofs.lemmas.Grind.{common_steps}
use Rattle.std.proofs.lemmas.List.{length-replicate}
use Rattle.std.proofs.lemmas.List.Elements.{All-map, All-contains_itself, Contains-append_left, Contains-append_right}
use Rattle.ostore_base.specs.Disk.{replaced, IsTornRange}
use Rattle.ostore_base.specs.declared.memory.disk_call.DiskCall.{DiskCall}
use Rattle.ostore_base.specs.declared.memory.disk_call.DiskCall.TheVariants.{Written, Torn, Synced}
use Rattle.ostore_base.specs.declared.memory.crashes.Remains.{Remains}
use Rattle.ostore_base.specs.declared.memory.crashes.Remains.TheVariants.{Whole, Nothing, FirstHalf, Filled}
use Rattle.ostore_base.specs.MemoryDisk.{IsImage, LeftSince}
use Rattle.ostore_base.specs.CrashImages.{filled, remaining, remaining_torn, image_left, cases_tried, tried}
use Rattle.ostore_base.proofs.ImageLemmas.{torn_same, torn_replaced, torn_front}

-- bytes past the end may come too
torn_longer : (at n : ℕ) (held new more : List ℕ) → IsTornRange at n held new → IsTornRange at n held (new ++ more)
torn_longer at n held new more torn = let before = torn.before in let after = torn.after in let no_shorter = torn.no_shorter in record {
  before = grind (arith, common_steps, before, no_shorter);
  after = grind (arith, common_steps, after, no_shorter);
  no_shorter = grind (arith, common_steps, no_shorter);
}

filled_torn : (byte at n : ℕ) (held : List ℕ) → IsTornRange at n held (filled byte at n held)
filled_torn byte at n held =
    let front = torn_front at n (replicate n byte) held (omega (arith, length-replicate n byte)) in
    torn_longer at n held (replaced at (replicate n byte) held) (replicate 5 byte) front

remaining_torn_range : (remains : Remains) (at : ℕ) (bytes held : List ℕ) → IsTornRange at (length bytes) held (remaining remains at bytes held)
remaining_torn_range Whole at bytes held = torn_replaced at bytes held
remaining_torn_range Nothing at bytes held = torn_same at (length bytes) held
remaining_torn_range FirstHalf at bytes held = torn_front at (length bytes) (take (length bytes / 2) bytes) held (grind (arith, common_steps))
remaining_torn_range (Filled byte) at bytes held = filled_torn byte at (length bytes) held

torn_torn_range : (remains : Remains) (at n : ℕ) (held : List ℕ) → IsTornRange at n held (remaining_torn remains at n held)
torn_torn_range Whole at n held = torn_same at n held
torn_torn_range Nothing at n held = torn_same at n held
torn_torn_range FirstHalf at n held = torn_same at n held
torn_torn_range (Filled byte) at n held = filled_torn byte at n held

-- what is built is an image
pub left_is_image : (first : List ℕ) (past : List DiskCall) (newest others : Remains) → IsImage first past (image_left first past newest others)
left_is_image first [] newest others = refl
left_is_image first (Written at bytes ∷ past) newest others =
    (image_left first past others others, left_is_image first past others others, remaining_torn_range newest at bytes (image_left first past others others))
left_is_image first (Torn at size ∷ past) newest others =
    (image_left first past others others, left_is_image first past others others, torn_torn_range newest at size (image_left first past others others))
left_is_image first (Synced ∷ past) newest others = refl

-- so it is where it is known by an equation
pub image_of : (first : List ℕ) (past : List DiskCall) (newest others : Remains) (image : List ℕ) → image ≡ image_left first past newest others → IsImage first past image
image_of first past newest others image is = subst (IsImage first past) (sym is) (left_is_image first past newest others)

-- those of one moment are ones that a crash might have left
pub tried_left : (first : List ℕ) (past : List DiskCall) (skip t filler : ℕ) → skip + t ≤ length past → All (LeftSince first past t) (tried first (drop skip past) filler)
tried_left first past skip t filler le =
    All-map (LeftSince first past t) (λ (case : Remains × Remains). image_left first (drop skip past) case.0 case.1) (cases_tried filler)
    (λ k d below. (skip, le, left_is_image first (drop skip past) (slice_index_or (cases_tried filler) k d).0 (slice_index_or (cases_tried filler) k d).1))

-- ---- all of several moments

-- those of each moment since the first t calls, before this one, are among these
abbrev pub TriedBefore : List ℕ → List DiskCall → ℕ → ℕ → ℕ → List (List ℕ) → Type 0
TriedBefore first past t filler moment images =
    (m : ℕ) → t ≤ m → m < moment → All (Contains images) (tried first (drop (length past - m) past) filler)

pub tried_on : (first : List ℕ) (past : List DiskCall) (t filler moment : ℕ) (images : List (List ℕ)) → TriedBefore first past t filler moment images
    → TriedBefore first past t filler (moment + 1) (images ++ tried first (drop (length past - moment) past) filler)
tried_on first past t filler moment images so_far m from below = this (cases_lt m moment)
  where
    more : List (List ℕ)
    more = tried first (drop (length past - moment) past) filler

    this : (m < moment) ⊎ (moment ≤ m) → All (Contains (images ++ more)) (tried first (drop (length past - m) past) filler)
    this (inl earlier) = λ k d within. Contains-append_left images more (slice_index_or (tried first (drop (length past - m) past) filler) k d) (so_far m from earlier k d within)
    this (inr later) =
        let same : m ≡ moment = omega (arith, below, later) in
        subst (λ (n : ℕ). All (Contains (images ++ more)) (tried first (drop (length past - n) past) filler)) (sym same)
        (λ k d within. Contains-append_right images more (slice_index_or more k d) (All-contains_itself more k d within))
