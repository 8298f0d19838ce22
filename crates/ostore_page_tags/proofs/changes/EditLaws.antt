-- What stays of a good page where bytes of one cell, or fields of the header that no rule reads, are others.
use Rattle.std.proofs.Common.{◌≡◌, ℕ, ◌+◌, ◌-◌, ◌<◌, ◌≤◌, Bool, true, false, cond, eqb, List, length, map, Some, refl, sym, ap, subst, ◌∙◌, arith, inl, inr}
use Rattle.std.specs.List.{range_with_len, slice_get}
use Rattle.std.specs.Option.{option_map}
use Rattle.std.proofs.lemmas.Bool.{cases_lt, cases_eq, eq-eqb, ne_eqb}
use Rattle.std.proofs.lemmas.Option.{same_Some}
use Rattle.ostore_base.specs.Disk.{replaced}
use Rattle.ostore_base.specs.declared.page.TheConstants.{PAGE_SIZE}
use Rattle.ostore_page_tags.specs.declared.layout.TheConstants.{ROW_BYTES}
use Rattle.ostore_page_tags.specs.declared.page_header.PageHeader.{PageHeader}
use Rattle.ostore_page_tags.specs.declared.tag_rows.Row.{Row}
use Rattle.ostore_page_tags.specs.Header.{header_of, with_header}
use Rattle.ostore_page_tags.specs.Rows.{row_place, row_in, rows_of}
use Rattle.ostore_page_tags.specs.Cells.{Cell, between, cell_to, cells_of}
use Rattle.ostore_page_tags.specs.Rules.{is_tag, IsPage}
use Rattle.ostore_page_tags.specs.Changes.{edited_at, EditsCell}
use Rattle.ostore_page_tags.proofs.bytes.ImageLaws.{SameOn, SameOn-within, Keeps, number_at-same, between-same, length-replaced_within, between-replaced_within, SameOn-replaced_before, SameOn-replaced_behind, with_header-spare, with_header-behind, IsHeaderWide, header_of-with_header}
use Rattle.ostore_page_tags.proofs.shape.RangeLaws.{map-range-same, map-map-range}
use Rattle.ostore_page_tags.proofs.shape.PageShape.{Offsets, rows_in, end_in, offset_in, Shape, IsPage-shape, shape-IsPage, offset_order, end_above, stop_at, stop_more, stop_last, IsCellRange, cell_range, cell_before}
use Rattle.ostore_page_tags.proofs.parts.CellLaws.{ZeroOn-same, header_of-same, row_in-same, state_in-same, cell_in, cells_are, cell_same, cell_made}
use Rattle.ostore_page_tags.proofs.walks.NthLaws.{slice_get-range, rows_counted}
use Rattle.ostore_page_tags.proofs.changes.DeadLaws.{stop_in, offsets_moved, cell_end-stop}

-- what the rules read is as it was
pub record IsAlike (old new : List ℕ) : Type 0 where
  pub long : length new ≡ length old
  pub kind : (header_of new).kind ≡ (header_of old).kind
  pub rows : rows_in new ≡ rows_in old
  pub end : end_in new ≡ end_in old
  pub spare : SameOn 6 8 new old
  pub tail : SameOn 20 32 new old
  pub behind : SameOn (end_in old) PAGE_SIZE new old

alike_place : (old new : List ℕ) → Shape old → IsAlike old new → (j : ℕ) → j < rows_in old → SameOn (row_place j) (row_place j + ROW_BYTES) new old
alike_place old new shape alike j below =
    let room = shape.room in
    SameOn-within (end_in old) PAGE_SIZE (row_place j) (row_place j + ROW_BYTES) new old alike.behind (omega arith) (omega arith)

alike_row : (old new : List ℕ) → Shape old → IsAlike old new → (j : ℕ) → j < rows_in old → row_in new j ≡ row_in old j
alike_row old new shape alike j below = row_in-same j new old (alike_place old new shape alike j below)

alike_shape : (old new : List ℕ) → Shape old → IsAlike old new → Shape new
alike_shape old new shape alike =
    let rows = alike.rows in
    let end = alike.end in
    let room = shape.room in
    let above : 32 ≤ end_in old = end_above (rows_in old) (end_in old) (offset_in old) shape.offsets in
    let same = alike_row old new shape alike in
    let law : Offsets (rows_in old) (end_in old) (offset_in new) = offsets_moved (rows_in old) (end_in old) (offset_in old) (offset_in new) shape.offsets (λ j low. ap (λ (r : Row). r.offset) (same j low)) in
    record {
      whole = alike.long ∙ shape.whole;
      kind = alike.kind ∙ shape.kind;
      spare = number_at-same 2 6 new old alike.spare ∙ shape.spare;
      tail = ZeroOn-same 20 32 new old shape.tail alike.tail;
      gap = record { zeros = λ k low high. alike.behind.bytes k (omega arith) (omega arith) ∙ shape.gap.zeros k (omega arith) (omega arith) };
      room = omega arith;
      offsets = subst (λ (m : ℕ). Offsets m (end_in new) (offset_in new)) (sym rows) (subst (λ (m : ℕ). Offsets (rows_in old) m (offset_in new)) (sym end) law);
      states = λ j low.
          let equal = state_in-same j new old (alike_place old new shape alike j (omega arith)) in
          let was = shape.states j (omega arith) in
          omega arith;
      tags = λ j low. subst (λ (r : Row). is_tag r.code r.serial ≡ true) (sym (same j (omega arith))) (shape.tags j (omega arith));
    }

pub alike-IsPage : (old new : List ℕ) → IsPage old → IsAlike old new → IsPage new
alike-IsPage old new page alike = shape-IsPage new (alike_shape old new (IsPage-shape old page) alike)

pub alike-rows : (old new : List ℕ) → IsPage old → IsAlike old new → rows_of new ≡ rows_of old
alike-rows old new page alike =
    ap (λ (n : ℕ). map (row_in new) (range_with_len 0 n)) alike.rows
    ∙ map-range-same (row_in new) (row_in old) 0 (rows_in old) (λ j low high. alike_row old new (IsPage-shape old page) alike j (omega arith))

alike_stop : (old new : List ℕ) → Shape old → IsAlike old new → (j : ℕ) → j < rows_in old → stop_at (rows_in old) (end_in old) (offset_in new) j ≡ stop_in old j
alike_stop old new shape alike j below = elim (cases_lt (j + 1) (rows_in old)) [
  | inl more ↦ stop_more (rows_in old) (end_in old) (offset_in new) j more ∙ ap (λ (r : Row). r.offset) (alike_row old new shape alike (j + 1) more) ∙ sym (stop_more (rows_in old) (end_in old) (offset_in old) j more)
  | inr last ↦ stop_last (rows_in old) (end_in old) (offset_in new) j last ∙ sym (stop_last (rows_in old) (end_in old) (offset_in old) j last)
]

-- a cell whose bytes stay
alike_cell : (old new : List ℕ) → Shape old → IsAlike old new → (j : ℕ) → j < rows_in old → SameOn (offset_in old j) (stop_in old j) new old
    → cell_in (rows_in old) (end_in old) new (row_in new) j ≡ cell_in (rows_in old) (end_in old) old (row_in old) j
alike_cell old new shape alike j below bytes =
    let range = cell_range (rows_in old) (end_in old) (offset_in old) shape.offsets j below in
    let most = range.most in
    let room = shape.room in
    let whole = shape.whole in
    let long = alike.long in
    cell_same _ _ new old (row_in new j) (row_in old j) (alike_row old new shape alike j below) (alike_stop old new shape alike j below)
    (between-same (offset_in old j) (stop_in old j) new old (omega arith) (omega arith) bytes)

-- where the bytes of the cells stay too, the cells do
pub alike-cells : (old new : List ℕ) → IsPage old → IsAlike old new → SameOn 32 (end_in old) new old → cells_of new ≡ cells_of old
alike-cells old new page alike bytes =
    let shape = IsPage-shape old page in
    let rows = rows_in old in
    let end = end_in old in
    cells_are rows end new alike.rows alike.end
    ∙ map-range-same (cell_in rows end new (row_in new)) (cell_in rows end old (row_in old)) 0 rows (λ j low high.
    let range = cell_range rows end (offset_in old) shape.offsets j (omega arith) in
    alike_cell old new shape alike j (omega arith) (SameOn-within 32 end (offset_in old j) (stop_in old j) new old bytes range.above range.most))
    ∙ sym (cells_are rows end old refl refl)

-- ---- fields of the header

-- a header that has the kind, the rows and the cells' end as before leaves a good page with its cells
pub with_header-IsPage : (header : PageHeader) (bytes : List ℕ) → IsPage bytes → IsHeaderWide header → header.kind ≡ (header_of bytes).kind → header.rows ≡ (header_of bytes).rows → header.end ≡ (header_of bytes).end
    → IsPage (with_header header bytes) × (cells_of (with_header header bytes) ≡ cells_of bytes)
with_header-IsPage header bytes page wide kind rows end =
    let new : List ℕ = with_header header bytes in
    let shape = IsPage-shape bytes page in
    let whole : length bytes ≡ PAGE_SIZE = shape.whole in
    let above : 32 ≤ end_in bytes = end_above (rows_in bytes) (end_in bytes) (offset_in bytes) shape.offsets in
    let room = shape.room in
    let read : header_of new ≡ header = header_of-with_header header bytes (omega arith) wide in
    let spare : Keeps 6 8 new bytes = with_header-spare header bytes (omega arith) in
    let behind : Keeps 20 PAGE_SIZE new bytes = with_header-behind header PAGE_SIZE bytes (omega arith) in
    let alike : IsAlike bytes new = record {
      long = behind.long;
      kind = ap (λ (h : PageHeader). h.kind) read ∙ kind;
      rows = ap (λ (h : PageHeader). h.rows) read ∙ rows;
      end = ap (λ (h : PageHeader). h.end) read ∙ end;
      spare = spare.same;
      tail = SameOn-within 20 PAGE_SIZE 20 32 new bytes behind.same (omega arith) (omega arith);
      behind = SameOn-within 20 PAGE_SIZE (end_in bytes) PAGE_SIZE new bytes behind.same (omega arith) (omega arith);
    } in
    (alike-IsPage bytes new page alike, alike-cells bytes new page alike (SameOn-within 20 PAGE_SIZE 32 (end_in bytes) new bytes behind.same (omega arith) (omega arith)))

-- ---- bytes of one cell

-- bytes were changed within the cell of row i, and nowhere else
pub record IsEdited (old new : List ℕ) (i : ℕ) : Type 0 where
  pub long : length new ≡ length old
  pub below : i < rows_in old
  pub before : SameOn 0 (offset_in old i) new old
  pub behind : SameOn (stop_in old i) PAGE_SIZE new old

pub edited-IsAlike : (old new : List ℕ) (i : ℕ) → IsPage old → IsEdited old new i → IsAlike old new
edited-IsAlike old new i page edit =
    let shape = IsPage-shape old page in
    let range = cell_range (rows_in old) (end_in old) (offset_in old) shape.offsets i edit.below in
    let above = range.above in
    let most = range.most in
    let header = header_of-same new old (SameOn-within 0 (offset_in old i) 0 20 new old edit.before (omega arith) (omega arith)) in
    record {
      long = edit.long;
      kind = ap (λ (h : PageHeader). h.kind) header;
      rows = ap (λ (h : PageHeader). h.rows) header;
      end = ap (λ (h : PageHeader). h.end) header;
      spare = SameOn-within 0 (offset_in old i) 6 8 new old edit.before (omega arith) (omega arith);
      tail = SameOn-within 0 (offset_in old i) 20 32 new old edit.before (omega arith) (omega arith);
      behind = SameOn-within (stop_in old i) PAGE_SIZE (end_in old) PAGE_SIZE new old edit.behind (omega arith) (omega arith);
    }

edited_cell : (old new : List ℕ) (i : ℕ) → IsPage old → IsEdited old new i → (j : ℕ) → j < rows_in old
    → cell_in (rows_in old) (end_in old) new (row_in new) j ≡ edited_at (offset_in old i) (between (offset_in old i) (stop_in old i) new) (cell_in (rows_in old) (end_in old) old (row_in old) j)
edited_cell old new i page edit j below =
    let shape = IsPage-shape old page in
    let alike = edited-IsAlike old new i page edit in
    let rows = rows_in old in
    let end = end_in old in
    let law = shape.offsets in
    let room = shape.room in
    let bytes : List ℕ = between (offset_in old i) (stop_in old i) new in
    let was : Cell = cell_in rows end old (row_in old) j in
    let range = cell_range rows end (offset_in old) law j below in
    let most = range.most in
    elim (cases_eq j i) [
      | inl same ↦
          let hit : eqb (offset_in old j) (offset_in old i) ≡ true = eq-eqb _ _ (ap (offset_in old) same) in
          ap (λ (s : ℕ). cell_to s new (row_in new j)) (alike_stop old new shape alike j below)
          ∙ ap (λ (r : Row). cell_to (stop_in old j) new r) (alike_row old new shape alike j below)
          ∙ ap (λ (k : ℕ). cell_made (row_in old j) (between (offset_in old k) (stop_in old k) new)) same
          ∙ ap (λ (b : Bool). cond b (cell_made was.row bytes) was) (sym hit)
      | inr other ↦
          let apart : offset_in old j ≡ offset_in old i → ⊥ = λ e. elim (cases_lt j i) [
            | inl early ↦ let order = offset_order rows end (offset_in old) law j i early edit.below in omega arith
            | inr late ↦ let order = offset_order rows end (offset_in old) law i j (omega arith) below in omega arith
          ] in
          let miss : eqb (offset_in old j) (offset_in old i) ≡ false = ne_eqb _ _ apart in
          let stays : SameOn (offset_in old j) (stop_in old j) new old = elim (cases_lt j i) [
            | inl early ↦
                let order = cell_before rows end (offset_in old) law j i early edit.below in
                SameOn-within 0 (offset_in old i) (offset_in old j) (stop_in old j) new old edit.before (omega arith) order
            | inr late ↦
                let order = cell_before rows end (offset_in old) law i j (omega arith) below in
                SameOn-within (stop_in old i) PAGE_SIZE (offset_in old j) (stop_in old j) new old edit.behind order (omega arith)
          ] in
          alike_cell old new shape alike j below stays
          ∙ ap (λ (b : Bool). cond b (cell_made was.row bytes) was) (sym miss)
    ]

pub edited-EditsCell : (old new : List ℕ) (i : ℕ) → IsPage old → IsEdited old new i → EditsCell old new (offset_in old i) (between (offset_in old i) (stop_in old i) new)
edited-EditsCell old new i page edit =
    let alike = edited-IsAlike old new i page edit in
    let rows = rows_in old in
    let end = end_in old in
    let shape = IsPage-shape old page in
    let range = cell_range rows end (offset_in old) shape.offsets i edit.below in
    let above = range.above in
    let bytes : List ℕ = between (offset_in old i) (stop_in old i) new in
    record {
      header = header_of-same new old (SameOn-within 0 (offset_in old i) 0 20 new old edit.before (omega arith) (omega arith));
      cells = cells_are rows end new alike.rows alike.end
          ∙ map-range-same (cell_in rows end new (row_in new)) (λ j. edited_at (offset_in old i) bytes (cell_in rows end old (row_in old) j)) 0 rows (λ j low high. edited_cell old new i page edit j (omega arith))
          ∙ sym (map-map-range (edited_at (offset_in old i) bytes) (cell_in rows end old (row_in old)) 0 rows)
          ∙ ap (map (edited_at (offset_in old i) bytes)) (sym (cells_are rows end old refl refl));
      page = alike-IsPage old new page alike;
    }

-- bytes that are replaced within the cell of a row
pub replaced-IsEdited : (at : ℕ) (bytes old : List ℕ) (i : ℕ) → IsPage old → i < rows_in old → offset_in old i ≤ at → at + length bytes ≤ stop_in old i → IsEdited old (replaced at bytes old) i
replaced-IsEdited at bytes old i page below low high =
    let shape = IsPage-shape old page in
    let room = shape.room in
    let whole = shape.whole in
    let range = cell_range (rows_in old) (end_in old) (offset_in old) shape.offsets i below in
    let most = range.most in
    record {
      long = length-replaced_within at bytes old (omega arith);
      below = below;
      before = SameOn-replaced_before at 0 (offset_in old i) bytes old (omega arith) (omega arith);
      behind = SameOn-replaced_behind at (stop_in old i) PAGE_SIZE bytes old (omega arith) (omega arith);
    }

-- a writer of bytes within a cell edits the cell, and leaves a good page
pub replaced-EditsCell : (at : ℕ) (bytes old : List ℕ) (i : ℕ) → IsPage old → i < rows_in old → offset_in old i ≤ at → at + length bytes ≤ stop_in old i
    → EditsCell old (replaced at bytes old) (offset_in old i) (replaced (at - offset_in old i) bytes (between (offset_in old i) (stop_in old i) old))
replaced-EditsCell at bytes old i page below low high =
    let shape = IsPage-shape old page in
    let room = shape.room in
    let whole = shape.whole in
    let range = cell_range (rows_in old) (end_in old) (offset_in old) shape.offsets i below in
    let most = range.most in
    let new : List ℕ = replaced at bytes old in
    subst (λ (b : List ℕ). EditsCell old new (offset_in old i) b) (between-replaced_within (offset_in old i) (stop_in old i) at bytes old low high (omega arith))
    (edited-EditsCell old new i page (replaced-IsEdited at bytes old i page below low high))

row_found : (bytes : List ℕ) (i : ℕ) (row : Row) → i < rows_in bytes → slice_get (rows_of bytes) i ≡ Some row → row_in bytes i ≡ row
row_found bytes i row below told =
    let found : Some (row_in bytes i) ≡ Some row = sym (slice_get-range (row_in bytes) (rows_in bytes) i below) ∙ told in
    same_Some (row_in bytes i) row found

-- the same in the words of nth_row and cell_end
pub written-EditsCell : (at : ℕ) (bytes old : List ℕ) (i end : ℕ) (row : Row) → IsPage old → i < length (rows_of old) → slice_get (rows_of old) i ≡ Some row
    → option_map (λ cell. cell.row.offset + length cell.bytes) (slice_get (cells_of old) i) ≡ Some end → row.offset ≤ at → at + length bytes ≤ end
    → EditsCell old (replaced at bytes old) row.offset (replaced (at - row.offset) bytes (between row.offset end old))
written-EditsCell at bytes old i end row page there told stops low high =
    let below : i < rows_in old = omega (arith, rows_counted old) in
    let same : offset_in old i ≡ row.offset = ap (λ (r : Row). r.offset) (row_found old i row below told) in
    let stop : end ≡ stop_in old i = cell_end-stop old i end page below stops in
    let edit = replaced-EditsCell at bytes old i page below (omega arith) (omega arith) in
    subst (λ (o : ℕ). EditsCell old (replaced at bytes old) o (replaced (at - o) bytes (between o end old))) same
    (subst (λ (e : ℕ). EditsCell old (replaced at bytes old) (offset_in old i) (replaced (at - offset_in old i) bytes (between (offset_in old i) e old))) (sym stop) edit)

-- where the cell of a row lies, in the words of nth_row and cell_end
pub walked-IsCellRange : (bytes : List ℕ) (i end : ℕ) (row : Row) → IsPage bytes → i < length (rows_of bytes) → slice_get (rows_of bytes) i ≡ Some row
    → option_map (λ cell. cell.row.offset + length cell.bytes) (slice_get (cells_of bytes) i) ≡ Some end → IsCellRange row.offset end (header_of bytes).end × ((header_of bytes).end ≤ PAGE_SIZE)
walked-IsCellRange bytes i end row page there told stops =
    let below : i < rows_in bytes = omega (arith, rows_counted bytes) in
    let shape = IsPage-shape bytes page in
    let room = shape.room in
    let same : offset_in bytes i ≡ row.offset = ap (λ (r : Row). r.offset) (row_found bytes i row below told) in
    let stop : stop_in bytes i ≡ end = sym (cell_end-stop bytes i end page below stops) in
    let range = cell_range (rows_in bytes) (end_in bytes) (offset_in bytes) shape.offsets i below in
    (subst (λ (o : ℕ). IsCellRange o end (end_in bytes)) same (subst (λ (e : ℕ). IsCellRange (offset_in bytes i) e (end_in bytes)) stop range), omega arith)
