-- A pointer of a live row's cell is one of the page's pointers.
use Rattle.std.proofs.Common.{◌≡◌, ℕ, zero, suc, ◌+◌, Bool, true, false, eqb, List, [], ◌∷◌, ◌++◌, map, drop, Some, refl, sym, ap, subst, ◌∙◌, inl, inr}
use Rattle.std.specs.Prelude.{IsTrue}
use Rattle.std.specs.List.{flat_map, slice_get}
use Rattle.std.proofs.lemmas.Bool.{eqb-true, false≢true}
use Rattle.ostore_schema_layout.specs.declared.schema.Schema.{Schema}
use Rattle.ostore_schema_layout.specs.Cells.{pointers_of}
use Rattle.ostore_page_tags.specs.declared.tag_rows.Row.{Row}
use Rattle.ostore_page_tags.specs.Rows.{rows_of}
use Rattle.ostore_relocation.specs.Places.{IsOneOf, cell_pointers, holds_objects, page_pointers, row_pointers}
use Rattle.ostore_relocation.proofs.PageLaws.{live_pointers, rows_split}
use Rattle.ostore_relocation.proofs.FormLaws.{nine_no_data, pages_of_cells}

one_moved : (start at : ℕ) (places : List ℕ) → IsOneOf at places → IsOneOf (start + at) (map (λ place. start + place) places)
one_moved start at [] there = absurd there
one_moved start at (place ∷ places) (inl here) = inl (ap (λ n. start + n) here)
one_moved start at (place ∷ places) (inr later) = inr (one_moved start at places later)

one_first : (at : ℕ) (first second : List ℕ) → IsOneOf at first → IsOneOf at (first ++ second)
one_first at [] second there = absurd there
one_first at (place ∷ first) second (inl here) = inl here
one_first at (place ∷ first) second (inr later) = inr (one_first at first second later)

one_second : (at : ℕ) (first second : List ℕ) → IsOneOf at second → IsOneOf at (first ++ second)
one_second at [] second there = there
one_second at (place ∷ first) second there = inr (one_second at first second there)

one_of_all : (f : Row → List ℕ) (at i : ℕ) (rows : List Row) → IsOneOf at (flat_map f (drop i rows)) → IsOneOf at (flat_map f rows)
one_of_all f at zero rows there = there
one_of_all f at (suc i) [] there = there
one_of_all f at (suc i) (row ∷ rows) there = one_second at (f row) (flat_map f rows) (one_of_all f at i rows there)

one_of_cells : (schema : Schema) (rows : List Row) (i : ℕ) (row : Row) (at : ℕ) → slice_get rows i ≡ Some row → IsOneOf at (row_pointers schema row) → IsOneOf at (flat_map (row_pointers schema) rows)
one_of_cells schema rows i row at told there =
    one_of_all (row_pointers schema) at i rows (subst (IsOneOf at) (sym (rows_split schema rows i row told)) (one_first at (row_pointers schema row) (flat_map (row_pointers schema) (drop (i + 1) rows)) there))

pub not_nine : (page : ℕ) (bytes : List ℕ) (nine : Bool) → eqb page 9 ≡ nine → holds_objects page bytes ≡ true → eqb page 9 ≡ false
not_nine page bytes true is holds = absurd (false≢true (sym (nine_no_data page bytes (eqb-true page 9 is)) ∙ holds))
not_nine page bytes false is holds = is

pub one_of_page : (schema : Schema) (page : ℕ) (bytes : List ℕ) (i : ℕ) (row : Row) (at : ℕ) → holds_objects page bytes ≡ true → slice_get (rows_of bytes) i ≡ Some row → row.live ≡ true → IsOneOf at (pointers_of schema row.code)
    → IsOneOf (row.offset + at) (page_pointers schema page bytes)
one_of_page schema page bytes i row at holds told live there =
    subst (IsOneOf (row.offset + at)) (sym (pages_of_cells schema page bytes (not_nine page bytes (eqb page 9) refl holds) holds))
    (one_of_cells schema (rows_of bytes) i row (row.offset + at) told
    (subst (IsOneOf (row.offset + at)) (live_pointers schema row (pointers_of schema row.code) live refl) (one_moved row.offset at (pointers_of schema row.code) there)))
