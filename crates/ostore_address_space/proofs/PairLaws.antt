-- Laws of pairs of frames and pages: what the frame of a page and the free frames are, and that reserving
-- leaves each page in its frame.
use Rattle.std.proofs.Common.{◌≡◌, ℕ, zero, suc, ◌+◌, ◌-◌, ◌<◌, ◌≤◌, Bool, true, false, cond, List, [], ◌∷◌, length, get_or, set, Option, Some, None, refl, sym, ap, subst, ◌∙◌, arith, inl, inr}
use Rattle.std.specs.Prelude.{nat_lt, is_some}
use Rattle.std.specs.List.{Contains}
use Rattle.std.specs.List.Sorted.{IsStrictlyIncreasing}
use Rattle.std.proofs.lemmas.Bool.{cases_lt, cases_eq, lt-ltb, le-ltb}
use Rattle.std.proofs.lemmas.List.{get_or-set_other}
use Rattle.ostore_base.specs.declared.numbers.PageNo.{PageNo}
use Rattle.ostore_address_space.specs.declared.space.Frame.{Frame}
use Rattle.ostore_address_space.specs.Frames.{Frames, page_in, frame_of, free_from, free_frames, pages_with, reserve, AreFrames, ArePaired, KeepsFrames}
use Rattle.ostore_address_space.proofs.FrameLaws.{frame_no, page_no, free_at, not_held, frame_page}

-- ---- pairs

found_as : (pages : List (Option PageNo)) (frame page : ℕ) (o : Option Frame) → AreFrames pages → frame_of pages page ≡ o → page_in pages frame ≡ Some (page_no page) → frame_of pages page ≡ Some (frame_no frame)
found_as pages zero page o are is held = cc
found_as pages (suc i) page None are is held = absurd (not_held 1 pages (page_no page) i is held)
found_as pages (suc i) page (Some at) are is held =
    is ∙ ap (λ (n : ℕ). Some (frame_no n)) (are.one at.0 (suc i) (page_no page) (frame_page pages page at is) held)

-- ---- free frames

free_past : (n at : ℕ) (page : Option PageNo) (pages : List (Option PageNo)) → Contains (free_from (n + 1) pages) at → Contains (free_from n (page ∷ pages)) at
free_past n at None pages (k, below, read) = (suc k, omega arith, read)
free_past n at (Some page) pages has = has

free_has : (n i : ℕ) (pages : List (Option PageNo)) → i < length pages → get_or pages i None ≡ None → Contains (free_from n pages) (n + i)
free_has n i [] below none = absurd (omega arith)
free_has n zero (None ∷ pages) below none = (0, omega arith, omega arith)
free_has n zero (Some page ∷ pages) below none = cc
free_has n (suc i) (page ∷ pages) below none =
    let next : n + 1 + i ≡ n + suc i = omega arith in
    free_past n (n + suc i) page pages (subst (λ (f : ℕ). Contains (free_from (n + 1) pages) f) next (free_has (n + 1) i pages (omega arith) none))

free_rise : (n : ℕ) (pages : List (Option PageNo)) → IsStrictlyIncreasing (free_from n pages)
free_rise n [] k below = absurd (omega arith)
free_rise n (None ∷ pages) zero below = let low = (free_at (n + 1) pages 0 0 (omega arith)).low in omega arith
free_rise n (None ∷ pages) (suc k) below =
    let next : suc (k + 1) ≡ suc k + 1 = omega arith in
    let rise : get_or (free_from (n + 1) pages) k 0 < get_or (free_from (n + 1) pages) (k + 1) 0 = free_rise (n + 1) pages k (omega arith) in
    subst (λ (i : ℕ). get_or (free_from (n + 1) pages) k 0 < get_or (n ∷ free_from (n + 1) pages) i 0) next rise
free_rise n (Some page ∷ pages) k below = free_rise (n + 1) pages k below

is_free : (pages : List (Option PageNo)) (frame : ℕ) → Contains (free_frames pages) frame → (1 ≤ frame) × (frame ≤ length pages) × (page_in pages frame ≡ None)
is_free pages frame (k, below, read) =
    let free = free_at 1 pages k frame below in
    let low : 1 ≤ frame = subst (λ (f : ℕ). 1 ≤ f) read free.low in
    let high : frame < 1 + length pages = subst (λ (f : ℕ). f < 1 + length pages) read free.high in
    let none : get_or pages (frame - 1) None ≡ None = subst (λ (f : ℕ). get_or pages (f - 1) None ≡ None) read free.none in
    let back : suc (frame - 1) ≡ frame = omega arith in
    (low, omega arith, ap (page_in pages) (sym back) ∙ none)

has_free : (pages : List (Option PageNo)) (frame : ℕ) → (1 ≤ frame) × (frame ≤ length pages) × (page_in pages frame ≡ None) → Contains (free_frames pages) frame
has_free pages zero (low, high, none) = absurd (omega arith)
has_free pages (suc i) (low, high, none) =
    let at : 1 + i ≡ suc i = omega arith in
    subst (λ (f : ℕ). Contains (free_frames pages) f) at (free_has 1 i pages (omega arith) none)

pub paired : (pages : List (Option PageNo)) → AreFrames pages → ArePaired pages
paired pages are = record {
  all = are;
  frame = λ frame page. (λ found. frame_page pages page (frame_no frame) found, λ held. found_as pages frame page (frame_of pages page) are refl held);
  free = λ frame. (is_free pages frame, has_free pages frame);
  ascending = free_rise 1 pages;
}

-- ---- reserving leaves each page in its frame

pub keeps_all : (pages : List (Option PageNo)) → KeepsFrames pages pages
keeps_all pages = record { pages = λ frame page is. is }

pub keeps_on : {first second third : List (Option PageNo)} → KeepsFrames first second → KeepsFrames second third → KeepsFrames first third
keeps_on one two = record { pages = λ frame page is. two.pages frame page (one.pages frame page is) }

set_keeps : (pages : List (Option PageNo)) (i : ℕ) (page : PageNo) → get_or pages i None ≡ None → KeepsFrames pages (set pages i (Some page))
set_keeps pages i page none = record { pages = kept }
  where
    kept : (frame : ℕ) (other : PageNo) → page_in pages frame ≡ Some other → page_in (set pages i (Some page)) frame ≡ Some other
    kept zero other is = is
    kept (suc j) other is = elim (cases_eq j i) [
      | inl same ↦ absurd (let e = sym is ∙ ap (λ (n : ℕ). get_or pages n None) same ∙ none in cc)
      | inr apart ↦ get_or-set_other pages i j (Some page) None apart ∙ is
    ]

pub give_keeps : (pages : List (Option PageNo)) (index frame : ℕ) (page : PageNo) → index < length (free_frames pages) → frame ≡ get_or (free_frames pages) index 0 → KeepsFrames pages (set pages (frame - 1) (Some page))
give_keeps pages index frame page below is =
    set_keeps pages (frame - 1) page (ap (λ (f : ℕ). get_or pages (f - 1) None) is ∙ (free_at 1 pages index 0 below).none)

pick_below : (choice count : ℕ) → 0 < count → cond (nat_lt choice count) choice 0 < count
pick_below choice count some = elim (cases_lt choice count) [
  | inl below ↦ rw (lt-ltb choice count below) below
  | inr past ↦ rw (le-ltb choice count past) some
]

with_keeps : (choice : ℕ → ℕ → ℕ → ℕ) (frames : Frames) (page : PageNo) (free : List ℕ) → free ≡ free_frames frames.pages → KeepsFrames frames.pages (pages_with choice frames page free)
with_keeps choice frames page [] is = keeps_all frames.pages
with_keeps choice frames page (frame ∷ free) is =
    let count : ℕ = length (frame ∷ free) in
    let index : ℕ = cond (nat_lt (choice frames.client.0 page.0 count) count) (choice frames.client.0 page.0 count) 0 in
    let below : index < count = pick_below (choice frames.client.0 page.0 count) count (omega arith) in
    give_keeps frames.pages index (get_or (frame ∷ free) index 0) page (subst (λ (l : List ℕ). index < length l) is below) (ap (λ (l : List ℕ). get_or l index 0) is)

reserve_as : (choice : ℕ → ℕ → ℕ → ℕ) (frames : Frames) (page : PageNo) (b : Bool) → KeepsFrames frames.pages (cond b frames.pages (pages_with choice frames page (free_frames frames.pages)))
reserve_as choice frames page true = keeps_all frames.pages
reserve_as choice frames page false = with_keeps choice frames page (free_frames frames.pages) refl

pub reserve_keeps : (choice : ℕ → ℕ → ℕ → ℕ) (frames : Frames) (page : PageNo) → KeepsFrames frames.pages (reserve choice frames page).pages
reserve_keeps choice frames page = reserve_as choice frames page (is_some (frame_of frames.pages page.0))
