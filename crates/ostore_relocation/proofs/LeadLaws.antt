-- The two forms of a pointer, computed, lead alike.
use Rattle.std.proofs.Common.{◌≡◌, ◌≢◌, ℕ, zero, suc, ◌+◌, ◌*◌, ◌%◌, ◌≤◌, List, [], ◌∷◌, Option, Some, None, refl, sym, ap, subst, ◌∙◌, arith, inl, inr}
use Rattle.std.specs.List.{AllByRecursion}
use Rattle.std.proofs.lemmas.Bool.{cases_eq}
use Rattle.ostore_base.specs.declared.numbers.PageNo.{PageNo}
use Rattle.ostore_page_tags.specs.Numbers.{number_at}
use Rattle.ostore_address_space.specs.declared.space.Frame.{Frame}
use Rattle.ostore_address_space.specs.Frames.{frame_of, page_in}
use Rattle.ostore_address_space.proofs.FrameLaws.{frame_page}
use Rattle.ostore_relocation.specs.Pointers.{HasStored, IsResidentOf, LeadAlike, frame_number, page_number, resident_pointer, same_place_in, stored_pointer, target}
use Rattle.ostore_relocation.proofs.ChangeLaws.{moved_none, moved_some}

alike_as : (pages : List (Option PageNo)) (pointer : ℕ) (o : Option Frame) → pointer ≢ 0 → frame_of pages (target pointer) ≡ o → o ≢ None → LeadAlike pages pointer (same_place_in pointer (frame_number o))
alike_as pages pointer None some is there = absurd (there refl)
alike_as pages pointer (Some frame) some is there = record {
  frame = frame.0;
  page = target pointer;
  place = pointer % 4096;
  pair = frame_page pages (target pointer) frame is;
  within = omega arith;
  some = some;
  stored_is = omega arith;
  resident_is = moved_some pointer frame.0 some;
}

-- the resident form of a pointer whose page has a frame
pub resident_of : (pages : List (Option PageNo)) (pointer : ℕ) → (pointer ≢ 0 → frame_of pages (target pointer) ≢ None) → IsResidentOf pages pointer (resident_pointer pages pointer)
resident_of pages pointer there = elim (cases_eq pointer 0) [
  | inl none ↦ inl (none, moved_none pointer _ none)
  | inr some ↦ inr (alike_as pages pointer (frame_of pages (target pointer)) some refl (there some))
]

some_frame : (pages : List (Option PageNo)) (frame : ℕ) (page : PageNo) → page_in pages frame ≡ Some page → 1 ≤ frame
some_frame pages zero page held = cc
some_frame pages (suc i) page held = omega arith

-- the stored form of a resident pointer is the pointer that it is the resident form of
pub stored_of : (pages : List (Option PageNo)) (stored resident : ℕ) → IsResidentOf pages stored resident → stored_pointer pages resident ≡ stored
stored_of pages stored resident (inl both) = moved_none resident _ both.1 ∙ sym both.0
stored_of pages stored resident (inr alike) =
    let low = some_frame pages alike.frame _ alike.pair in
    let within = alike.within in
    let stored_is = alike.stored_is in
    let resident_is = alike.resident_is in
    let leads : target resident ≡ alike.frame = omega arith in
    let place : resident % 4096 ≡ alike.place = omega arith in
    let held : page_in pages (target resident) ≡ Some (record { 0 = alike.page }) = ap (page_in pages) leads ∙ alike.pair in
    moved_some resident _ (omega arith)
    ∙ ap (λ (o : Option PageNo). page_number o * 4096 + resident % 4096) held
    ∙ ap (λ (n : ℕ). alike.page * 4096 + n) place ∙ sym alike.stored_is

-- ---- all pointers of an image

pub all_resident : (pages : List (Option PageNo)) (old new places : List ℕ) → AllByRecursion (λ at. number_at 4 at new ≡ resident_pointer pages (number_at 4 at old)) places
    → AllByRecursion (λ at. number_at 4 at old ≢ 0 → frame_of pages (target (number_at 4 at old)) ≢ None) places → AllByRecursion (λ at. IsResidentOf pages (number_at 4 at old) (number_at 4 at new)) places
all_resident pages old new [] is have = tt
all_resident pages old new (at ∷ places) is have =
    (subst (IsResidentOf pages (number_at 4 at old)) (sym is.0) (resident_of pages (number_at 4 at old) have.0), all_resident pages old new places is.1 have.1)

pub all_stored : (pages : List (Option PageNo)) (old new places : List ℕ) → AllByRecursion (λ at. number_at 4 at new ≡ stored_pointer pages (number_at 4 at old)) places → AllByRecursion (λ at. HasStored pages (number_at 4 at old)) places
    → AllByRecursion (λ at. IsResidentOf pages (number_at 4 at new) (number_at 4 at old)) places
all_stored pages old new [] is have = tt
all_stored pages old new (at ∷ places) is have =
    (subst (λ (n : ℕ). IsResidentOf pages n (number_at 4 at old)) (sym (is.0 ∙ stored_of pages have.0.0 (number_at 4 at old) have.0.1)) have.0.1, all_stored pages old new places is.1 have.1)

-- what is resident can be stored
pub all_back : (pages : List (Option PageNo)) (old new places : List ℕ) → AllByRecursion (λ at. IsResidentOf pages (number_at 4 at old) (number_at 4 at new)) places → AllByRecursion (λ at. HasStored pages (number_at 4 at new)) places
all_back pages old new [] is = tt
all_back pages old new (at ∷ places) is = ((number_at 4 at old, is.0), all_back pages old new places is.1)

-- a pointer that is resident lies in a frame that holds a page
leads_in : (pages : List (Option PageNo)) (stored resident : ℕ) → IsResidentOf pages stored resident → resident ≢ 0 → page_in pages (target resident) ≢ None
leads_in pages stored resident (inl both) some = absurd (some both.1)
leads_in pages stored resident (inr alike) some =
    let within = alike.within in
    let resident_is = alike.resident_is in
    let leads : target resident ≡ alike.frame = omega arith in
    let held : page_in pages (target resident) ≡ Some (record { 0 = alike.page }) = ap (page_in pages) leads ∙ alike.pair in
    λ none. let e = sym none ∙ held in cc

pub all_lead_in : (pages : List (Option PageNo)) (old new places : List ℕ) → AllByRecursion (λ at. IsResidentOf pages (number_at 4 at old) (number_at 4 at new)) places
    → AllByRecursion (λ at. number_at 4 at new ≢ 0 → page_in pages (target (number_at 4 at new)) ≢ None) places
all_lead_in pages old new [] is = tt
all_lead_in pages old new (at ∷ places) is = (leads_in pages (number_at 4 at old) (number_at 4 at new) is.0, all_lead_in pages old new places is.1)
