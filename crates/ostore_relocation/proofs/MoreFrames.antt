-- More frames leave the stored forms of resident images.
use Rattle.std.proofs.Common.{◌≡◌, ◌≢◌, ℕ, ◌+◌, ◌≤◌, List, [], ◌∷◌, length, Option, Some, None, refl, sym, ap, ◌∙◌, arith, inl, inr}
use Rattle.std.specs.List.{AllByRecursion}
use Rattle.std.proofs.lemmas.Bool.{cases_eq, eq-eqb}
use Rattle.ostore_base.specs.declared.numbers.PageNo.{PageNo}
use Rattle.ostore_schema_layout.specs.declared.schema.Schema.{Schema}
use Rattle.ostore_page_tags.specs.Numbers.{number_at, with_number}
use Rattle.ostore_page_tags.proofs.bytes.ImageLaws.{number_at-same, SameOn-with_number_behind}
use Rattle.ostore_address_space.specs.Frames.{KeepsFrames, page_in}
use Rattle.ostore_relocation.specs.Places.{LieBetween, page_pointers}
use Rattle.ostore_relocation.specs.Pointers.{page_number, same_place_in, stored_pointer, target, with_pointer, with_pointers}
use Rattle.ostore_relocation.specs.Forms.{HavePages, IsResidentPage, pointers_end, stored_form}
use Rattle.ostore_relocation.specs.Stores.{StoresAs}
use Rattle.ostore_relocation.proofs.PlaceLaws.{lie_order}
use Rattle.ostore_relocation.proofs.ChangeLaws.{long_changed}
use Rattle.ostore_relocation.proofs.PageLaws.{end_low}

-- ---- functions that agree on the pointers

abbrev Agree : (ℕ → ℕ) → (ℕ → ℕ) → List ℕ → List ℕ → Type 0
Agree f g bytes places = AllByRecursion (λ at. f (number_at 4 at bytes) ≡ g (number_at 4 at bytes)) places

agree_later : (f g : ℕ → ℕ) (at low high : ℕ) (places bytes : List ℕ) → at + 4 ≤ low → at + 4 ≤ length bytes → LieBetween low places high → Agree f g bytes places → Agree f g (with_pointer f at bytes) places
agree_later f g at low high [] bytes h within lie all = tt
agree_later f g at low high (p ∷ places) bytes h within lie all =
    let least : low ≤ p = lie.0 in
    let same = number_at-same 4 p (with_pointer f at bytes) bytes (SameOn-with_number_behind 4 at (f (number_at 4 at bytes)) p (p + 4) bytes (omega arith) within) in
    (ap f same ∙ all.0 ∙ ap g (sym same), agree_later f g at (p + 4) high places bytes (omega arith) within lie.1 all.1)

pub agree_all : (f g : ℕ → ℕ) (low high : ℕ) (places bytes : List ℕ) → LieBetween low places high → high ≤ length bytes → Agree f g bytes places → with_pointers f places bytes ≡ with_pointers g places bytes
agree_all f g low high [] bytes lie within all = refl
agree_all f g low high (at ∷ places) bytes lie within all =
    let order : at + 4 ≤ high = lie_order (at + 4) high places lie.1 in
    let here : at + 4 ≤ length bytes = omega arith in
    let long : length (with_pointer f at bytes) ≡ length bytes = long_changed f at bytes here in
    let same : with_pointer f at bytes ≡ with_pointer g at bytes = ap (λ (v : ℕ). with_number 4 at v bytes) all.0 in
    agree_all f g (at + 4) high places (with_pointer f at bytes) lie.1 (omega arith) (agree_later f g at (at + 4) high places bytes (omega arith) here lie.1 all.1)
    ∙ ap (with_pointers g places) same

-- ---- stored forms

page_kept : (old new : List (Option PageNo)) (frame : ℕ) (o : Option PageNo) → KeepsFrames old new → page_in old frame ≡ o → o ≢ None → page_in new frame ≡ o
page_kept old new frame None more is there = absurd (there refl)
page_kept old new frame (Some page) more is there = more.pages frame page is

stored_kept : (old new : List (Option PageNo)) (pointer : ℕ) → KeepsFrames old new → (pointer ≢ 0 → page_in old (target pointer) ≢ None) → stored_pointer old pointer ≡ stored_pointer new pointer
stored_kept old new pointer more there = elim (cases_eq pointer 0) [
  | inl none ↦ rw (eq-eqb pointer 0 none) refl
  | inr some ↦ ap (λ (o : Option PageNo). same_place_in pointer (page_number o)) (sym (page_kept old new (target pointer) (page_in old (target pointer)) more refl (there some)))
]

stored_agree : (old new : List (Option PageNo)) (bytes places : List ℕ) → KeepsFrames old new → AllByRecursion (λ at. number_at 4 at bytes ≢ 0 → page_in old (target (number_at 4 at bytes)) ≢ None) places → Agree (stored_pointer old) (stored_pointer new) bytes places
stored_agree old new bytes [] more all = tt
stored_agree old new bytes (at ∷ places) more all = (stored_kept old new (number_at 4 at bytes) more all.0, stored_agree old new bytes places more all.1)

-- the stored form of a resident image is the same by more frames
pub stored_stays : (old new : List (Option PageNo)) (schema : Schema) (page high : ℕ) (bytes : List ℕ) → KeepsFrames old new → LieBetween 32 (page_pointers schema page bytes) high → high ≤ length bytes → HavePages old schema page bytes
    → stored_form new schema page bytes ≡ stored_form old schema page bytes
stored_stays old new schema page high bytes more lie within have =
    sym (agree_all (stored_pointer old) (stored_pointer new) 32 high (page_pointers schema page bytes) bytes lie within (stored_agree old new bytes (page_pointers schema page bytes) more have))

have_kept : (old new : List (Option PageNo)) (bytes places : List ℕ) → KeepsFrames old new → AllByRecursion (λ at. number_at 4 at bytes ≢ 0 → page_in old (target (number_at 4 at bytes)) ≢ None) places
    → AllByRecursion (λ at. number_at 4 at bytes ≢ 0 → page_in new (target (number_at 4 at bytes)) ≢ None) places
have_kept old new bytes [] more all = tt
have_kept old new bytes (at ∷ places) more all =
    (λ some none. all.0 some (let t = target (number_at 4 at bytes) in sym (page_kept_none t none)), have_kept old new bytes places more all.1)
  where
    page_kept_none : (frame : ℕ) → page_in new frame ≡ None → None ≡ page_in old frame
    page_kept_none frame none = none_before (page_in old frame) refl
      where
        none_before : (o : Option PageNo) → page_in old frame ≡ o → None ≡ o
        none_before None is = refl
        none_before (Some page) is = absurd (let e = sym none ∙ more.pages frame page is in cc)

pub pages_stay : (old new : List (Option PageNo)) (schema : Schema) (page : ℕ) (bytes : List ℕ) → KeepsFrames old new → HavePages old schema page bytes → HavePages new schema page bytes
pages_stay old new schema page bytes more have = have_kept old new bytes (page_pointers schema page bytes) more have

-- a resident image with more frames
pub stored_so : (old new : List (Option PageNo)) (schema : Schema) (page : ℕ) (bytes : List ℕ) → KeepsFrames old new → IsResidentPage old schema page bytes → StoresAs new schema page bytes (stored_form old schema page bytes)
stored_so old new schema page bytes more is =
    let high = end_low page bytes in
    let whole = is.whole in
    record {
      form = stored_stays old new schema page (pointers_end page bytes) bytes more is.lie (omega arith) is.frames;
      resident = record { whole = is.whole; lie = is.lie; frames = pages_stay old new schema page bytes more is.frames };
    }
