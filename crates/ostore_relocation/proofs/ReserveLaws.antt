-- Reserving frames for one list of pages after another.
use Rattle.std.proofs.Common.{◌≡◌, ℕ, ◌+◌, ◌≤◌, Bool, true, false, cond, List, [], ◌∷◌, ◌++◌, length, map, drop, Some, refl, sym, ap, subst, ◌∙◌}
use Rattle.std.specs.Prelude.{Result, Ok, Err, is_ok, is_some}
use Rattle.std.specs.List.{AllByRecursion, slice_get}
use Rattle.std.proofs.lemmas.List.{append-nil, append_assoc, length-set}
use Rattle.std.proofs.lemmas.Option.{same_Some}
use Rattle.ostore_page_tags.specs.Numbers.{number_at}
use Rattle.ostore_base.specs.declared.numbers.PageNo.{PageNo}
use Rattle.ostore_address_space.specs.declared.space.SpaceFull.{SpaceFull}
use Rattle.ostore_address_space.specs.Frames.{Frames, frame_of, free_frames, pages_with, reserve}
use Rattle.ostore_relocation.specs.Fitness.{LeadToPages}
use Rattle.ostore_relocation.specs.Reserving.{Reserves, Reserving, reserve_all, reserving, target_of, targets_of}

long_given : (choice : ℕ → ℕ → ℕ → ℕ) (frames : Frames) (page : PageNo) (free : List ℕ) → length (pages_with choice frames page free) ≡ length frames.pages
long_given choice frames page [] = refl
long_given choice frames page (frame ∷ free) = length-set frames.pages _ (Some page)

long_as : (choice : ℕ → ℕ → ℕ → ℕ) (frames : Frames) (page : PageNo) (b : Bool) → length (cond b frames.pages (pages_with choice frames page (free_frames frames.pages))) ≡ length frames.pages
long_as choice frames page true = refl
long_as choice frames page false = long_given choice frames page (free_frames frames.pages)

pub long_reserved : (choice : ℕ → ℕ → ℕ → ℕ) (frames : Frames) (page : PageNo) → length (reserve choice frames page).pages ≡ length frames.pages
long_reserved choice frames page = long_as choice frames page (is_some (frame_of frames.pages page.0))

long_one : (choice : ℕ → ℕ → ℕ → ℕ) (frames : Frames) (pages : List PageNo) (b : Bool) (n : ℕ) → length (reserve_all choice frames pages).frames.pages ≡ n → length frames.pages ≡ n → length (cond b (reserve_all choice frames pages) (reserving frames false)).frames.pages ≡ n
long_one choice frames pages true n all one = all
long_one choice frames pages false n all one = one

pub long_all : (choice : ℕ → ℕ → ℕ → ℕ) (frames : Frames) (pages : List PageNo) → length (reserve_all choice frames pages).frames.pages ≡ length frames.pages
long_all choice frames [] = refl
long_all choice frames (page ∷ pages) =
    let next : Frames = reserve choice frames page in
    let one = long_reserved choice frames page in
    long_one choice next pages (is_some (frame_of next.pages page.0)) (length frames.pages) (long_all choice next pages ∙ one) one

-- the second list is begun where all pages of the first have frames
abbrev pub then_all : (ℕ → ℕ → ℕ → ℕ) → Reserving → List PageNo → Reserving
then_all choice reserving pages = cond reserving.all (reserve_all choice reserving.frames pages) reserving

append_as : (choice : ℕ → ℕ → ℕ → ℕ) (next : Frames) (first second : List PageNo) (b : Bool) → reserve_all choice next (first ++ second) ≡ then_all choice (reserve_all choice next first) second
    → cond b (reserve_all choice next (first ++ second)) (reserving next false) ≡ then_all choice (cond b (reserve_all choice next first) (reserving next false)) second
append_as choice next first second true rest = rest
append_as choice next first second false rest = refl

pub reserve_append : (choice : ℕ → ℕ → ℕ → ℕ) (frames : Frames) (first second : List PageNo) → reserve_all choice frames (first ++ second) ≡ then_all choice (reserve_all choice frames first) second
reserve_append choice frames [] second = refl
reserve_append choice frames (page ∷ first) second =
    let next : Frames = reserve choice frames page in
    append_as choice next first second (is_some (frame_of next.pages page.0)) (reserve_append choice next first second)

-- ---- a walk over pages

-- what is left to reserve
pub record Left (choice : ℕ → ℕ → ℕ → ℕ) (start now : Frames) (rest all : List PageNo) : Type 0 where
  pub same : reserve_all choice now rest ≡ reserve_all choice start all
  pub long : length now.pages ≡ length start.pages

pub left_start : (choice : ℕ → ℕ → ℕ → ℕ) (start : Frames) (all : List PageNo) → Left choice start start all all
left_start choice start all = record { same = refl; long = refl }

-- one list on, after Ok
pub left_ok : {T : Type 0} (choice : ℕ → ℕ → ℕ → ℕ) (start now new : Frames) (first rest all : List PageNo) (result : Result T SpaceFull) → Left choice start now (first ++ rest) all → Reserves choice now new first result → is_ok result ≡ true → Left choice start new rest all
left_ok choice start now new first rest all result left done_first ok = record {
  same =
      ap (λ (f : Frames). reserve_all choice f rest) done_first.frames
      ∙ ap (λ (b : Bool). cond b (reserve_all choice (reserve_all choice now first).frames rest) (reserve_all choice now first)) (sym ok ∙ done_first.all)
      ∙ sym (reserve_append choice now first rest) ∙ left.same;
  long = ap (λ (f : Frames). length f.pages) done_first.frames ∙ long_all choice now first ∙ left.long;
}

-- the end, after an Err
pub left_err : {T U : Type 0} (choice : ℕ → ℕ → ℕ → ℕ) (start now new : Frames) (first rest all : List PageNo) (full : SpaceFull) → Left choice start now (first ++ rest) all → Reserves {T = T} choice now new first (Err full) → Reserves {T = U} choice start new all (Err full)
left_err choice start now new first rest all full left done_first =
    let whole : reserve_all choice now first ≡ reserve_all choice start all =
    ap (λ (b : Bool). cond b (reserve_all choice (reserve_all choice now first).frames rest) (reserve_all choice now first)) done_first.all
    ∙ sym (reserve_append choice now first rest) ∙ left.same in
    record {
      frames = done_first.frames ∙ ap (λ (r : Reserving). r.frames) whole;
      all = done_first.all ∙ ap (λ (r : Reserving). r.all) whole;
      why = done_first.why ∙ left.long;
    }

-- the end, after the last list
pub left_none : {T : Type 0} (choice : ℕ → ℕ → ℕ → ℕ) (start now : Frames) (all : List PageNo) (value : T) → Left choice start now [] all → Reserves choice start now all (Ok value)
left_none choice start now all value left = record {
  frames = ap (λ (r : Reserving). r.frames) left.same;
  all = ap (λ (r : Reserving). r.all) left.same;
  why = tt;
}

-- ---- a walk over the pointers of a cell

-- what is left to do of a cell: the places lie on the page, their pointers lead to pages, and those are to get frames
pub record CellLeft (choice : ℕ → ℕ → ℕ → ℕ) (start now : Frames) (bytes : List ℕ) (offset : ℕ) (pointers : List ℕ) (all : List PageNo) : Type 0 where
  pub within : AllByRecursion (λ at. offset + at + 4 ≤ 4096) pointers
  pub targets : LeadToPages bytes (map (λ at. offset + at) pointers)
  pub left : Left choice start now (targets_of bytes (map (λ at. offset + at) pointers)) all

pub cell_next : {T : Type 0} (choice : ℕ → ℕ → ℕ → ℕ) (start now new : Frames) (bytes : List ℕ) (offset : ℕ) (pointers rest : List ℕ) (at : ℕ) (all : List PageNo) (result : Result T SpaceFull)
    → CellLeft choice start now bytes offset pointers all → Some at ≡ slice_get pointers 0 → rest ≡ drop 1 pointers → Reserves choice now new (target_of (number_at 4 (offset + at) bytes)) result → is_ok result ≡ true
    → CellLeft choice start new bytes offset rest all
cell_next choice start now new bytes offset [] rest at all result left next behind reserves ok = cc
cell_next choice start now new bytes offset (p ∷ pointers) rest at all result left next behind reserves ok =
    let is : at ≡ p = same_Some at p next in
    let reserves_p : Reserves choice now new (target_of (number_at 4 (offset + p) bytes)) result = subst (λ (n : ℕ). Reserves choice now new (target_of (number_at 4 (offset + n) bytes)) result) is reserves in
    subst (λ (l : List ℕ). CellLeft choice start new bytes offset l all) (sym behind) (record {
      within = left.within.1;
      targets = left.targets.1;
      left = left_ok choice start now new (target_of (number_at 4 (offset + p) bytes)) (targets_of bytes (map (λ at. offset + at) pointers)) all result left.left reserves_p ok;
    })

-- ---- a walk over the rows of a page

pub targets_append : (bytes first second : List ℕ) → targets_of bytes (first ++ second) ≡ targets_of bytes first ++ targets_of bytes second
targets_append bytes [] second = refl
targets_append bytes (at ∷ first) second =
    ap (λ (l : List PageNo). target_of (number_at 4 at bytes) ++ l) (targets_append bytes first second) ∙ sym (append_assoc (target_of (number_at 4 at bytes)) (targets_of bytes first) (targets_of bytes second))

lead_first : (bytes first second : List ℕ) → LeadToPages bytes (first ++ second) → LeadToPages bytes first
lead_first bytes [] second all = tt
lead_first bytes (at ∷ first) second all = (all.0, lead_first bytes first second all.1)

lead_second : (bytes first second : List ℕ) → LeadToPages bytes (first ++ second) → LeadToPages bytes second
lead_second bytes [] second all = all
lead_second bytes (at ∷ first) second all = lead_second bytes first second all.1

-- what is left of a list of places
pub record PlacesLeft (choice : ℕ → ℕ → ℕ → ℕ) (start now : Frames) (bytes places : List ℕ) (all : List PageNo) : Type 0 where
  pub targets : LeadToPages bytes places
  pub left : Left choice start now (targets_of bytes places) all

pub places_first : (choice : ℕ → ℕ → ℕ → ℕ) (start now : Frames) (bytes places first second : List ℕ) (all : List PageNo) → PlacesLeft choice start now bytes places all → places ≡ first ++ second → LeadToPages bytes first
places_first choice start now bytes places first second all left is = lead_first bytes first second (subst (λ (l : List ℕ). LeadToPages bytes l) is left.targets)

split_left : (choice : ℕ → ℕ → ℕ → ℕ) (start now : Frames) (bytes places first second : List ℕ) (all : List PageNo) → PlacesLeft choice start now bytes places all → places ≡ first ++ second → Left choice start now (targets_of bytes first ++ targets_of bytes second) all
split_left choice start now bytes places first second all left is =
    subst (λ (l : List PageNo). Left choice start now l all) (ap (targets_of bytes) is ∙ targets_append bytes first second) left.left

pub places_ok : {T : Type 0} (choice : ℕ → ℕ → ℕ → ℕ) (start now new : Frames) (bytes places first second : List ℕ) (all : List PageNo) (result : Result T SpaceFull) → PlacesLeft choice start now bytes places all → places ≡ first ++ second
    → Reserves choice now new (targets_of bytes first) result → is_ok result ≡ true → PlacesLeft choice start new bytes second all
places_ok choice start now new bytes places first second all result left is reserves ok = record {
  targets = lead_second bytes first second (subst (λ (l : List ℕ). LeadToPages bytes l) is left.targets);
  left = left_ok choice start now new (targets_of bytes first) (targets_of bytes second) all result (split_left choice start now bytes places first second all left is) reserves ok;
}

pub places_none : (choice : ℕ → ℕ → ℕ → ℕ) (start now : Frames) (bytes places second : List ℕ) (all : List PageNo) → PlacesLeft choice start now bytes places all → places ≡ second → PlacesLeft choice start now bytes second all
places_none choice start now bytes places second all left is = subst (λ (l : List ℕ). PlacesLeft choice start now bytes l all) is left

pub places_err : {T U : Type 0} (choice : ℕ → ℕ → ℕ → ℕ) (start now new : Frames) (bytes places first second : List ℕ) (all : List PageNo) (full : SpaceFull) → PlacesLeft choice start now bytes places all → places ≡ first ++ second
    → Reserves {T = T} choice now new (targets_of bytes first) (Err full) → Reserves {T = U} choice start new all (Err full)
places_err choice start now new bytes places first second all full left is reserves =
    left_err choice start now new (targets_of bytes first) (targets_of bytes second) all full (split_left choice start now bytes places first second all left is) reserves

pub places_start : (choice : ℕ → ℕ → ℕ → ℕ) (start : Frames) (bytes places all : List ℕ) → LeadToPages bytes all → places ≡ all → PlacesLeft choice start start bytes places (targets_of bytes all)
places_start choice start bytes places all targets is = subst (λ (l : List ℕ). PlacesLeft choice start start bytes l (targets_of bytes all)) (sym is) (record { targets = targets; left = left_start choice start (targets_of bytes all) })

pub one_target : (bytes : List ℕ) (at : ℕ) → targets_of bytes (at ∷ []) ≡ target_of (number_at 4 at bytes)
one_target bytes at = append-nil (target_of (number_at 4 at bytes))
