-- Images that are the same outside some pointers have their pointers at the same places.
use Rattle.std.proofs.Common.{◌≡◌, ℕ, ◌+◌, ◌-◌, ◌*◌, ◌≤◌, Bool, true, false, cond, eqb, leb, ◌&&◌, List, length, get_or, map, Option, refl, sym, ap, subst, ◌∙◌, arith, inl, inr}
use Rattle.std.specs.List.{AllByRecursion, flat_map, range_with_len}
use Rattle.std.proofs.lemmas.Bool.{cases_lt}
use Rattle.ostore_base.specs.Disk.{replaced}
use Rattle.ostore_base.specs.declared.numbers.PageNo.{PageNo}
use Rattle.ostore_schema_layout.specs.declared.schema.Schema.{Schema}
use Rattle.ostore_page_tags.specs.declared.page_header.PageHeader.{PageHeader}
use Rattle.ostore_page_tags.specs.Header.{header_of}
use Rattle.ostore_page_tags.specs.Rows.{row_in, rows_of}
use Rattle.ostore_page_tags.proofs.bytes.ImageLaws.{number_at-same, get_or-replaced_at, length-replaced_within, SameOn-replaced_before, SameOn-replaced_behind}
use Rattle.ostore_page_tags.proofs.parts.CellLaws.{header_of-same, row_in-same}
use Rattle.ostore_page_tags.proofs.shape.RangeLaws.{map-range-same}
use Rattle.ostore_address_space.specs.Frames.{AreFrames}
use Rattle.ostore_relocation.specs.Places.{IsOutside, LieBetween, holds_objects, page_pointers, root_place, root_pointers, row_pointers}
use Rattle.ostore_relocation.specs.Pointers.{stored_pointer}
use Rattle.ostore_relocation.specs.Forms.{IsResidentPage, pointers_end, stored_form}
use Rattle.ostore_relocation.proofs.PlaceLaws.{lie_order}
use Rattle.ostore_relocation.proofs.ChangeLaws.{ChangesPointers, changes, outside_before, outside_behind, stored_fits}
use Rattle.ostore_relocation.proofs.RootLaws.{same_roots}
use Rattle.ostore_relocation.proofs.PageLaws.{end_low}
use Rattle.ostore_relocation.proofs.FormLaws.{is_data_same, outside_all_roots, pages_of_cells, pages_of_none, pages_of_roots}

-- ---- images that are the same outside some pointers

pub record SameOutside (places first second : List ℕ) : Type 0 where
  pub long : length first ≡ length second
  pub bytes : (k : ℕ) → AllByRecursion (IsOutside k) places → get_or first k 0 ≡ get_or second k 0

same_header : (places first second : List ℕ) (high : ℕ) → LieBetween 32 places high → SameOutside places first second → header_of first ≡ header_of second
same_header places first second high lie same = header_of-same first second (record { bytes = λ k low up. same.bytes k (outside_before k 32 high places (omega arith) lie) })

same_rows : (places first second : List ℕ) → LieBetween 32 places (4096 - 8 * (header_of second).rows) → SameOutside places first second → rows_of first ≡ rows_of second
same_rows places first second lie same =
    let rows : ℕ = (header_of second).rows in
    let order : 32 ≤ 4096 - 8 * rows = lie_order 32 (4096 - 8 * rows) places lie in
    let header = same_header places first second (4096 - 8 * rows) lie same in
    ap (λ (h : PageHeader). map (row_in first) (range_with_len 0 h.rows)) header
    ∙ map-range-same (row_in first) (row_in second) 0 rows (λ i low high. row_in-same i first second (record {
      bytes = λ k from to. same.bytes k (outside_behind k 32 (4096 - 8 * rows) places (omega arith) lie);
    }))

-- on the page of roots, the bytes of the names' lengths are none of the pointers' at these places
abbrev pub LeaveNames : ℕ → List ℕ → Type 0
LeaveNames page places = eqb page 9 ≡ true → (j : ℕ) → AllByRecursion (IsOutside (root_place j)) places

pub leave_names : (schema : Schema) (page : ℕ) (bytes : List ℕ) → LeaveNames page (page_pointers schema page bytes)
leave_names schema page bytes nine j = subst (AllByRecursion (IsOutside (root_place j))) (sym (pages_of_roots schema page bytes nine)) (outside_all_roots bytes j 101 refl)

same_names : (places first second : List ℕ) → ((j : ℕ) → AllByRecursion (IsOutside (root_place j)) places) → SameOutside places first second → root_pointers first ≡ root_pointers second
same_names places first second out same = same_roots first second (λ j. number_at-same 1 (root_place j) first second (record {
  bytes = λ k low high.
      let is : root_place j ≡ k = omega arith in
      subst (λ (n : ℕ). get_or first n 0 ≡ get_or second n 0) is (same.bytes (root_place j) (out j));
}))

end_data : (page : ℕ) (bytes : List ℕ) → holds_objects page bytes ≡ true → pointers_end page bytes ≡ 4096 - 8 * (header_of bytes).rows
end_data page bytes is = rw is refl

same_pointers_as : (schema : Schema) (page : ℕ) (places first second : List ℕ) (nine holds : Bool) → eqb page 9 ≡ nine → holds_objects page second ≡ holds → LeaveNames page places → LieBetween 32 places (pointers_end page second) → SameOutside places first second
    → page_pointers schema page first ≡ page_pointers schema page second
same_pointers_as schema page places first second true holds is is_holds names lie same =
    pages_of_roots schema page first is ∙ same_names places first second (names is) same ∙ sym (pages_of_roots schema page second is)
same_pointers_as schema page places first second false true is is_holds names lie same =
    let header = same_header places first second (pointers_end page second) lie same in
    let rows = same_rows places first second (subst (LieBetween 32 places) (end_data page second is_holds) lie) same in
    pages_of_cells schema page first is (is_data_same page second first header ∙ is_holds) ∙ ap (flat_map (row_pointers schema)) rows ∙ sym (pages_of_cells schema page second is is_holds)
same_pointers_as schema page places first second false false is is_holds names lie same =
    let header = same_header places first second (pointers_end page second) lie same in
    pages_of_none schema page first is (is_data_same page second first header ∙ is_holds) ∙ sym (pages_of_none schema page second is is_holds)

pub same_pointers : (schema : Schema) (page : ℕ) (places first second : List ℕ) → LeaveNames page places → LieBetween 32 places (pointers_end page second) → SameOutside places first second
    → page_pointers schema page first ≡ page_pointers schema page second
same_pointers schema page places first second names lie same = same_pointers_as schema page places first second (eqb page 9) (holds_objects page second) refl refl names lie same

pub same_end : (page : ℕ) (places first second : List ℕ) → LieBetween 32 places (pointers_end page second) → SameOutside places first second → pointers_end page first ≡ pointers_end page second
same_end page places first second lie same =
    ap (λ (h : PageHeader). cond (leb 10 page && eqb h.kind 2) (4096 - 8 * h.rows) 4096) (same_header places first second (pointers_end page second) lie same)

-- ---- replaced bytes

pub same_replaced : (places first second bytes : List ℕ) (at : ℕ) → at + length bytes ≤ length second → SameOutside places first second → SameOutside places (replaced at bytes first) (replaced at bytes second)
same_replaced places first second bytes at within same =
    let long = same.long in
    let one = length-replaced_within at bytes first (omega arith) in
    let two = length-replaced_within at bytes second within in
    record {
      long = omega arith;
      bytes = λ k out. elim (cases_lt k at) as (λ _. get_or (replaced at bytes first) k 0 ≡ get_or (replaced at bytes second) k 0) [
        | inl before ↦
            (SameOn-replaced_before at k (k + 1) bytes first (omega arith) (omega arith)).bytes k (omega arith) (omega arith) ∙ same.bytes k out
            ∙ sym ((SameOn-replaced_before at k (k + 1) bytes second (omega arith) within).bytes k (omega arith) (omega arith))
        | inr from ↦ elim (cases_lt k (at + length bytes)) as (λ _. get_or (replaced at bytes first) k 0 ≡ get_or (replaced at bytes second) k 0) [
          | inl inside ↦
              let here : k ≡ at + (k - at) = omega arith in
              ap (λ (n : ℕ). get_or (replaced at bytes first) n 0) here ∙ get_or-replaced_at at (k - at) bytes first (omega arith) (omega arith)
              ∙ sym (get_or-replaced_at at (k - at) bytes second (omega arith) within) ∙ ap (λ (n : ℕ). get_or (replaced at bytes second) n 0) (sym here)
          | inr behind ↦
              (SameOn-replaced_behind at k (k + 1) bytes first behind (omega arith)).bytes k (omega arith) (omega arith) ∙ same.bytes k out
              ∙ sym ((SameOn-replaced_behind at k (k + 1) bytes second behind within).bytes k (omega arith) (omega arith))
        ]
      ];
    }

-- ---- the stored form of a resident image

pub record HasForm (schema : Schema) (page : ℕ) (held stored : List ℕ) : Type 0 where
  pub long : length stored ≡ length held
  pub outside : (k : ℕ) → AllByRecursion (IsOutside k) (page_pointers schema page held) → get_or stored k 0 ≡ get_or held k 0
  pub places : page_pointers schema page stored ≡ page_pointers schema page held

pub has_form : (pages : List (Option PageNo)) (schema : Schema) (page : ℕ) (held : List ℕ) → AreFrames pages → IsResidentPage pages schema page held → HasForm schema page held (stored_form pages schema page held)
has_form pages schema page held are is =
    let places : List ℕ = page_pointers schema page held in
    let high = end_low page held in
    let whole = is.whole in
    let all : ChangesPointers (stored_pointer pages) places held (stored_form pages schema page held) = changes (stored_pointer pages) 32 (pointers_end page held) places held (stored_fits pages are) is.lie (omega arith) in
    record {
      long = all.long;
      outside = all.others;
      places = same_pointers schema page places (stored_form pages schema page held) held (leave_names schema page held) is.lie (record { long = all.long; bytes = all.others });
    }
