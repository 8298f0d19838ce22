-- What the tests know of pages that they grow and of pointers that they write.
use Rattle.std.proofs.Common.{◌≡◌, ℕ, ◌+◌, ◌≤◌, Bool, true, false, cond, eqb, leb, List, [], ◌∷◌, ◌++◌, map, Option, Some, None, refl, sym, ap, subst, ◌∙◌, inl, arith}
use Rattle.std.specs.Prelude.{MatchOption}
use Rattle.std.specs.List.{find, flat_map, slice_get}
use Rattle.std.proofs.lemmas.Bool.{le-leb, eq-eqb, ne_eqb}
use Rattle.std.proofs.lemmas.Option.{none-some, same_Some}
use Rattle.ostore_base.specs.declared.numbers.PageNo.{PageNo}
use Rattle.ostore_base.specs.declared.page.PageImage.{PageImage}
use Rattle.ostore_page_tags.specs.declared.tag_rows.Row.{Row}
use Rattle.ostore_page_tags.specs.Header.{header_of}
use Rattle.ostore_page_tags.specs.Rows.{rows_of}
use Rattle.ostore_page_tags.specs.PagePointers.{IsOneOf, cell_pointers, row_pointers, holds_objects, page_pointers}
use Rattle.ostore_page_tags.specs.Allocated.{IsAllocated, HasFree}
use Rattle.ostore_segments.specs.Growth.{Grows}

pub grown_allocated : (grown : Option PageNo) (old new : List PageImage) (segment : ℕ) → IsAllocated old → MatchOption grown ((new ≡ old) × HasFree old []) (λ page. Grows old new segment page.0) → IsAllocated new
grown_allocated None old new segment fine is = subst IsAllocated (sym is.0) fine
grown_allocated (Some page) old new segment fine is = is.allocated

-- the first pointer of the first cell, which is live, of a page of objects
pub first_pointer_is : (pointers : ℕ → List ℕ) (page : ℕ) (bytes : List ℕ) (row : Row) (at : ℕ) → 10 ≤ page → (header_of bytes).kind ≡ 2 → slice_get (rows_of bytes) 0 ≡ Some row → row.live ≡ true → find (λ place. leb 0 place) (pointers row.code) ≡ Some at
    → IsOneOf (row.offset + at) (page_pointers pointers page bytes)
first_pointer_is pointers page bytes row at low kind there live next =
    subst (IsOneOf (row.offset + at)) (sym places) (of_rows (rows_of bytes) there)
  where
    apart : eqb page 9 ≡ false
    apart = ne_eqb page 9 (λ nine. absurd (omega arith))

    holds : holds_objects page bytes ≡ true
    holds = rw (le-leb 10 page low, eq-eqb (header_of bytes).kind 2 kind) refl

    places : page_pointers pointers page bytes ≡ cell_pointers pointers bytes
    places = rw (apart, holds) refl

    of_places : (some : List ℕ) → find (λ place. leb 0 place) some ≡ Some at → (others : List ℕ) → IsOneOf (row.offset + at) (map (λ place. row.offset + place) some ++ others)
    of_places [] none others = absurd (none-some at none)
    of_places (place ∷ rest) is others =
        let first : Some place ≡ Some at = ap (λ (b : Bool). cond b (Some place) (find (λ place. leb 0 place) rest)) (sym (le-leb 0 place (omega arith))) ∙ is in
        inl (ap (λ n. row.offset + n) (same_Some place at first))

    of_row : (first : Row) → first ≡ row → (others : List ℕ) → IsOneOf (row.offset + at) (row_pointers pointers first ++ others)
    of_row first same others =
        subst (λ (it : Row). IsOneOf (row.offset + at) (row_pointers pointers it ++ others)) (sym same) (rw live (of_places (pointers row.code) next others))

    of_rows : (rows : List Row) → slice_get rows 0 ≡ Some row → IsOneOf (row.offset + at) (flat_map (row_pointers pointers) rows)
    of_rows [] none = absurd (none-some row none)
    of_rows (first ∷ rows) is = of_row first (same_Some first row is) (flat_map (row_pointers pointers) rows)
