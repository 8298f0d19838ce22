-- Bytes inside a live row's cell that lie beside its own pointers lie beside all pointers of the page.
use Rattle.std.proofs.Common.{◌≡◌, ℕ, zero, suc, ◌+◌, ◌-◌, ◌<◌, ◌≤◌, Bool, true, false, eqb, List, [], ◌∷◌, ◌++◌, length, map, Some, refl, sym, ap, subst, ◌∙◌, arith, inl, inr}
use Rattle.std.specs.List.{AllByRecursion, flat_map, range_with_len, slice_get}
use Rattle.std.proofs.lemmas.Bool.{cases_lt}
use Rattle.ostore_schema_layout.specs.declared.schema.Schema.{Schema}
use Rattle.ostore_schema_layout.specs.Cells.{code_size, pointers_of}
use Rattle.ostore_page_tags.specs.declared.tag_rows.Row.{Row}
use Rattle.ostore_page_tags.specs.Rows.{row_in, rows_of}
use Rattle.ostore_page_tags.proofs.shape.PageShape.{rows_in, end_in, offset_in, stop_more}
use Rattle.ostore_page_tags.proofs.walks.NthLaws.{rows_counted}
use Rattle.ostore_page_tags.proofs.changes.DeadLaws.{stop_in}
use Rattle.ostore_relocation.specs.Places.{IsBeside, LieBetween, holds_objects, page_pointers, row_pointers}
use Rattle.ostore_relocation.specs.Fitness.{HasCells}
use Rattle.ostore_relocation.proofs.PlaceLaws.{lie_order}
use Rattle.ostore_relocation.proofs.PageLaws.{lie_row, live_pointers, row_of_schema, row_read}
use Rattle.ostore_relocation.proofs.FormLaws.{pages_of_cells}
use Rattle.ostore_relocation.proofs.RowPointers.{not_nine}

below_all : (low high start n : ℕ) (places : List ℕ) → LieBetween low places high → high ≤ start → AllByRecursion (IsBeside start n) places
below_all low high start n [] lie h = tt
below_all low high start n (at ∷ places) lie h = let order = lie_order (at + 4) high places lie.1 in (inl (omega arith), below_all (at + 4) high start n places lie.1 h)

above_all : (low high start n : ℕ) (places : List ℕ) → LieBetween low places high → start + n ≤ low → AllByRecursion (IsBeside start n) places
above_all low high start n [] lie h = tt
above_all low high start n (at ∷ places) lie h = let least = lie.0 in (inr (omega arith), above_all (at + 4) high start n places lie.1 (omega arith))

beside_append : (start n : ℕ) (first second : List ℕ) → AllByRecursion (IsBeside start n) first → AllByRecursion (IsBeside start n) second → AllByRecursion (IsBeside start n) (first ++ second)
beside_append start n [] second all also = also
beside_append start n (at ∷ first) second all also = (all.0, beside_append start n first second all.1 also)

moved_one : (by start n at : ℕ) → IsBeside start n at → IsBeside (by + start) n (by + at)
moved_one by start n at (inl before) = inl (omega arith)
moved_one by start n at (inr behind) = inr (omega arith)

moved_all : (by start n : ℕ) (places : List ℕ) → AllByRecursion (IsBeside start n) places → AllByRecursion (IsBeside (by + start) n) (map (λ at. by + at) places)
moved_all by start n [] all = tt
moved_all by start n (at ∷ places) all = (moved_one by start n at all.0, moved_all by start n places all.1)

-- ---- rows in their order

rise : (schema : Schema) (bytes : List ℕ) → HasCells schema bytes → (d a : ℕ) → a + 1 + d < rows_in bytes → stop_in bytes a ≤ offset_in bytes (a + 1 + d)
rise schema bytes has zero a below =
    let next = stop_more (rows_in bytes) (end_in bytes) (offset_in bytes) a (omega arith) in
    let at : a + 1 + 0 ≡ a + 1 = omega arith in
    subst (λ (n : ℕ). stop_in bytes a ≤ offset_in bytes n) (sym at) (omega arith)
rise schema bytes has (suc d) a below =
    let before = rise schema bytes has d a (omega arith) in
    let is = row_of_schema schema bytes has (a + 1 + d) (omega arith) in
    let some = is.range.some in
    let next = stop_more (rows_in bytes) (end_in bytes) (offset_in bytes) (a + 1 + d) (omega arith) in
    let at : a + 1 + suc d ≡ a + 1 + d + 1 = omega arith in
    subst (λ (n : ℕ). stop_in bytes a ≤ offset_in bytes n) (sym at) (omega arith)

stops_before : (schema : Schema) (bytes : List ℕ) → HasCells schema bytes → (a i : ℕ) → a < i → i < rows_in bytes → stop_in bytes a ≤ offset_in bytes i
stops_before schema bytes has a i less below =
    let at : a + 1 + (i - (a + 1)) ≡ i = omega arith in
    subst (λ (n : ℕ). stop_in bytes a ≤ offset_in bytes n) at (rise schema bytes has (i - (a + 1)) a (omega arith))

-- the bytes lie in row i's cell, beside its pointers
record IsInRow (schema : Schema) (bytes : List ℕ) (i at n : ℕ) : Type 0 where
  pub below : i < rows_in bytes
  pub live : (row_in bytes i).live ≡ true
  pub within : at + n ≤ code_size schema (row_in bytes i).code
  pub beside : AllByRecursion (IsBeside at n) (pointers_of schema (row_in bytes i).code)

beside_row : (schema : Schema) (bytes : List ℕ) → HasCells schema bytes → (i at n : ℕ) → IsInRow schema bytes i at n → (a : ℕ) → a < rows_in bytes → AllByRecursion (IsBeside (offset_in bytes i + at) n) (row_pointers schema (row_in bytes a))
beside_row schema bytes has i at n is a below =
    let mine = row_of_schema schema bytes has i is.below in
    let other = row_of_schema schema bytes has a below in
    let lie = lie_row schema bytes a other in
    let size = mine.size is.live in
    let within = is.within in
    elim (cases_lt a i) [
      | inl less ↦
          let before = stops_before schema bytes has a i less is.below in
          below_all (offset_in bytes a) (stop_in bytes a) (offset_in bytes i + at) n (row_pointers schema (row_in bytes a)) lie (omega arith)
      | inr from ↦ elim (cases_lt i a) [
        | inl more ↦
            let behind = stops_before schema bytes has i a more below in
            above_all (offset_in bytes a) (stop_in bytes a) (offset_in bytes i + at) n (row_pointers schema (row_in bytes a)) lie (omega arith)
        | inr last ↦
            let same : i ≡ a = omega arith in
            subst (λ (k : ℕ). AllByRecursion (IsBeside (offset_in bytes i + at) n) (row_pointers schema (row_in bytes k))) same
            (subst (λ (l : List ℕ). AllByRecursion (IsBeside (offset_in bytes i + at) n) l) (live_pointers schema (row_in bytes i) (pointers_of schema (row_in bytes i).code) is.live refl)
            (moved_all (offset_in bytes i) at n (pointers_of schema (row_in bytes i).code) is.beside))
      ]
    ]

beside_rows : (schema : Schema) (bytes : List ℕ) → HasCells schema bytes → (i at n : ℕ) → IsInRow schema bytes i at n → (m a : ℕ) → a + m ≡ rows_in bytes
    → AllByRecursion (IsBeside (offset_in bytes i + at) n) (flat_map (row_pointers schema) (map (row_in bytes) (range_with_len a m)))
beside_rows schema bytes has i at n is zero a counted = tt
beside_rows schema bytes has i at n is (suc m) a counted =
    beside_append (offset_in bytes i + at) n (row_pointers schema (row_in bytes a)) _ (beside_row schema bytes has i at n is a (omega arith)) (beside_rows schema bytes has i at n is m (a + 1) (omega arith))

pub beside_page : (schema : Schema) (page : ℕ) (bytes : List ℕ) (i : ℕ) (row : Row) (at n : ℕ) → holds_objects page bytes ≡ true → HasCells schema bytes → i < length (rows_of bytes) → slice_get (rows_of bytes) i ≡ Some row → row.live ≡ true
    → at + n ≤ code_size schema row.code → AllByRecursion (IsBeside at n) (pointers_of schema row.code) → AllByRecursion (IsBeside (row.offset + at) n) (page_pointers schema page bytes)
beside_page schema page bytes i row at n holds has there told live within beside =
    let below : i < rows_in bytes = omega (arith, rows_counted bytes) in
    let same : row_in bytes i ≡ row = row_read bytes i row below told in
    let is : IsInRow schema bytes i at n = record {
      below = below;
      live = ap (λ (r : Row). r.live) same ∙ live;
      within = subst (λ (r : Row). at + n ≤ code_size schema r.code) (sym same) within;
      beside = subst (λ (r : Row). AllByRecursion (IsBeside at n) (pointers_of schema r.code)) (sym same) beside;
    } in
    subst (λ (l : List ℕ). AllByRecursion (IsBeside (row.offset + at) n) l) (sym (pages_of_cells schema page bytes (not_nine page bytes (eqb page 9) refl holds) holds))
    (subst (λ (r : Row). AllByRecursion (IsBeside (r.offset + at) n) (flat_map (row_pointers schema) (rows_of bytes))) same (beside_rows schema bytes has i at n is (rows_in bytes) 0 (omega arith)))
