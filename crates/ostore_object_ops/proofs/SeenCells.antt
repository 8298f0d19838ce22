-- What is read of the image of a page of objects, where its pointers may be resident ones.
use Rattle.std.proofs.Common.{◌≡◌, ℕ, ◌+◌, ◌<◌, ◌≤◌, true, eqb, leb, List, [], ◌∷◌, get_or, refl, sym, ap, subst, arith, Option, Some, inl, inr}
use Rattle.std.specs.List.{find, slice_get, AllByRecursion}
use Rattle.std.specs.Int.{w64, cast_signed}
use Rattle.std.proofs.lemmas.Bool.{le-leb, eq-eqb, and_from}
use Rattle.ostore_page_tags.specs.declared.tag_rows.Row.{Row}
use Rattle.ostore_page_tags.specs.Header.{header_of}
use Rattle.ostore_page_tags.specs.Numbers.{int_at}
use Rattle.ostore_page_tags.specs.Rows.{row_in, rows_of, row_at}
use Rattle.ostore_page_tags.specs.Rules.{IsPage}
use Rattle.ostore_page_tags.specs.PagePointers.{IsOutside, IsBeside, holds_objects}
use Rattle.ostore_page_tags.proofs.bytes.ImageLaws.{number_at-same}
use Rattle.ostore_page_tags.proofs.parts.CellLaws.{header_of-same}
use Rattle.ostore_page_tags.proofs.shape.PageShape.{rows_in, end_in, offset_in}
use Rattle.ostore_page_tags.proofs.changes.EditLaws.{IsAlike, alike-IsPage, alike-rows}
use Rattle.ostore_page_tags.proofs.walks.NthLaws.{rows_counted, slice_get-range}
use Rattle.ostore_schema_layout.specs.declared.schema.Schema.{Schema}
use Rattle.ostore_schema_layout.specs.Cells.{code_size, pointers_of}
use Rattle.ostore_relocation.specs.Places.{page_pointers, cell_pointers}
use Rattle.ostore_relocation.specs.Fitness.{HasCells}
use Rattle.ostore_relocation.proofs.ChangeLaws.{outside_before, outside_behind}
use Rattle.ostore_relocation.proofs.PageLaws.{lie_cells}
use Rattle.ostore_relocation.proofs.FormLaws.{pages_of_cells}
use Rattle.ostore_relocation.proofs.RowPointers.{not_nine}
use Rattle.ostore_relocation.proofs.RowBytes.{beside_page}
use Rattle.ostore_segments.specs.Seen.{IsSeenAs}

holds : (page : ℕ) (bytes : List ℕ) → 10 ≤ page → (header_of bytes).kind ≡ 2 → holds_objects page bytes ≡ true
holds page bytes low kind = and_from (leb 10 page) (eqb (header_of bytes).kind 2) (le-leb 10 page low) (eq-eqb _ _ kind)

outside_beside : (start n k : ℕ) (places : List ℕ) → start ≤ k → k < start + n → AllByRecursion (IsBeside start n) places → AllByRecursion (IsOutside k) places
outside_beside start n k [] low high all = tt
outside_beside start n k (at ∷ places) low high all = (by all.0, outside_beside start n k places low high all.1)
  where
    by : IsBeside start n at → IsOutside k at
    by (inl before) = inr (omega arith)
    by (inr behind) = inl (omega arith)

module _ (schema : Schema) (home : ℕ → Option ℕ) (page : ℕ) (image held : List ℕ) (low : 10 ≤ page) (kind : (header_of held).kind ≡ 2) (has : HasCells schema held) (seen : IsSeenAs (pointers_of schema) home page image held) where
  places : page_pointers schema page held ≡ cell_pointers schema held
  places = pages_of_cells schema page held (not_nine page held (eqb page 9) refl (holds page held low kind)) (holds page held low kind)

  before : (k : ℕ) → k < 32 → get_or image k 0 ≡ get_or held k 0
  before k below = seen.same k (subst (AllByRecursion (IsOutside k)) (sym places) (outside_before k 32 (end_in held) (cell_pointers schema held) below (lie_cells schema held has)))

  behind : (k : ℕ) → end_in held ≤ k → get_or image k 0 ≡ get_or held k 0
  behind k above = seen.same k (subst (AllByRecursion (IsOutside k)) (sym places) (outside_behind k 32 (end_in held) (cell_pointers schema held) above (lie_cells schema held has)))

  pub same_header : header_of image ≡ header_of held
  same_header = header_of-same image held (record { bytes = λ k least below. before k (omega arith) })

  alike : IsAlike held image
  alike = record {
    long = seen.long;
    kind = ap (λ h. h.kind) same_header;
    rows = ap (λ h. h.rows) same_header;
    end = ap (λ h. h.end) same_header;
    spare = record { bytes = λ k least below. before k (omega arith) };
    tail = record { bytes = λ k least below. before k (omega arith) };
    behind = record { bytes = λ k least below. behind k least };
  }

  pub seen_page : IsPage image
  seen_page = alike-IsPage held image has.page alike

  pub seen_row : (offset : ℕ) → row_at image offset ≡ row_at held offset
  seen_row offset = ap (find (λ (row : Row). eqb row.offset offset)) (alike-rows held image has.page alike)

  -- an int that lies in the cell of row i, beside the cell's pointers
  pub seen_int : (i at : ℕ) → i < rows_in held → (row_in held i).live ≡ true → at + 8 ≤ code_size schema (row_in held i).code → AllByRecursion (IsBeside at 8) (pointers_of schema (row_in held i).code)
      → int_at (offset_in held i + at) image ≡ int_at (offset_in held i + at) held
  seen_int i at below live within beside =
      let row : slice_get (rows_of held) i ≡ Some (row_in held i) = slice_get-range (row_in held) (rows_in held) i below in
      let count = rows_counted held in
      let all = beside_page schema page held i (row_in held i) at 8 (holds page held low kind) has (omega arith) row live within beside in
      ap (cast_signed w64) (number_at-same 8 (offset_in held i + at) image held (record { bytes = λ k least most. seen.same k (outside_beside (offset_in held i + at) 8 k (page_pointers schema page held) least most all) }))
