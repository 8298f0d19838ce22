-- A row of a good page, and where its cell ends, by the row's number.
use Rattle.std.proofs.Common.{◌≡◌, ℕ, ◌+◌, ◌*◌, ◌<◌, ◌≤◌, List, length, map, Some, sym, ap, ◌∙◌, refl, arith}
use Rattle.std.specs.List.{range_with_len, slice_get}
use Rattle.std.specs.Option.{option_map}
use Rattle.std.proofs.lemmas.List.FromFn.{length-map-range_with_len, get_or-map-range_with_len}
use Rattle.std.proofs.lemmas.Option.{slice_get_read}
use Rattle.ostore_base.specs.declared.page.TheConstants.{PAGE_SIZE}
use Rattle.ostore_page_tags.specs.declared.layout.TheConstants.{ROW_BYTES}
use Rattle.ostore_page_tags.specs.declared.page_header.PageHeader.{PageHeader}
use Rattle.ostore_page_tags.specs.declared.tag_rows.Row.{Row}
use Rattle.ostore_page_tags.specs.Header.{header_of}
use Rattle.ostore_page_tags.specs.Rows.{row_in, rows_of}
use Rattle.ostore_page_tags.specs.Cells.{Cell, between, cells_of}
use Rattle.ostore_page_tags.specs.Rules.{IsPage}
use Rattle.ostore_page_tags.proofs.bytes.ImageLaws.{length-between}
use Rattle.ostore_page_tags.proofs.shape.PageShape.{rows_in, end_in, offset_in, stop_at, stop_more, stop_last, cell_range, IsPage-shape}
use Rattle.ostore_page_tags.proofs.parts.CellLaws.{cell_in, cells_are}

pub slice_get-range : {X : Type 0} (f : ℕ → X) (n i : ℕ) → i < n → slice_get (map f (range_with_len 0 n)) i ≡ Some (f i)
slice_get-range f n i h = slice_get_read (map f (range_with_len 0 n)) n i (f i) (sym (length-map-range_with_len f 0 n)) h (sym (get_or-map-range_with_len f 0 n i i (f i) h (omega arith)))

pub rows_counted : (bytes : List ℕ) → length (rows_of bytes) ≡ (header_of bytes).rows
rows_counted bytes = length-map-range_with_len (row_in bytes) 0 (header_of bytes).rows

pub rows_fit : (bytes : List ℕ) → IsPage bytes → ROW_BYTES * length (rows_of bytes) ≤ PAGE_SIZE
rows_fit bytes page =
    let room = (IsPage-shape bytes page).room in
    omega (arith, rows_counted bytes)

pub row_at_number : (bytes : List ℕ) (i : ℕ) (row : Row) → i < length (rows_of bytes) → row ≡ row_in bytes i → slice_get (rows_of bytes) i ≡ Some row
row_at_number bytes i row h e = slice_get-range (row_in bytes) (header_of bytes).rows i (omega (arith, rows_counted bytes)) ∙ ap (λ (r : Row). Some r) (sym e)

-- where a cell ends
abbrev pub cell_stop : Cell → ℕ
cell_stop cell = cell.row.offset + length cell.bytes

cell_stops : (bytes : List ℕ) (i : ℕ) → IsPage bytes → i < length (rows_of bytes) → option_map cell_stop (slice_get (cells_of bytes) i) ≡ Some (stop_at (rows_in bytes) (end_in bytes) (offset_in bytes) i)
cell_stops bytes i page h =
    let shape = IsPage-shape bytes page in
    let below : i < rows_in bytes = omega (arith, rows_counted bytes) in
    let stop = stop_at (rows_in bytes) (end_in bytes) (offset_in bytes) i in
    let range = cell_range (rows_in bytes) (end_in bytes) (offset_in bytes) shape.offsets i below in
    let room = shape.room in
    let most = range.most in
    let some = range.some in
    let long = length-between (offset_in bytes i) stop bytes (omega (arith, shape.whole)) in
    let ends : offset_in bytes i + length (between (offset_in bytes i) stop bytes) ≡ stop = omega arith in
    ap (λ (cells : List Cell). option_map cell_stop (slice_get cells i)) (cells_are (rows_in bytes) (end_in bytes) bytes refl refl)
    ∙ ap (option_map cell_stop) (slice_get-range (cell_in (rows_in bytes) (end_in bytes) bytes (row_in bytes)) (rows_in bytes) i below)
    ∙ ap (λ (n : ℕ). Some n) ends

pub cell_stops_at_next : (bytes : List ℕ) (i : ℕ) (next : Row) → IsPage bytes → i + 1 < length (rows_of bytes) → next ≡ row_in bytes (i + 1) → option_map cell_stop (slice_get (cells_of bytes) i) ≡ Some next.offset
cell_stops_at_next bytes i next page h e =
    let below : i + 1 < rows_in bytes = omega (arith, rows_counted bytes) in
    cell_stops bytes i page (omega arith)
    ∙ ap (λ (n : ℕ). Some n) (stop_more (rows_in bytes) (end_in bytes) (offset_in bytes) i below ∙ ap (λ (row : Row). row.offset) (sym e))

pub cell_stops_at_end : (bytes : List ℕ) (i : ℕ) (header : PageHeader) → IsPage bytes → i < length (rows_of bytes) → length (rows_of bytes) ≤ i + 1 → header ≡ header_of bytes → option_map cell_stop (slice_get (cells_of bytes) i) ≡ Some header.end
cell_stops_at_end bytes i header page h last e =
    let behind : rows_in bytes ≤ i + 1 = omega (arith, rows_counted bytes) in
    cell_stops bytes i page h
    ∙ ap (λ (n : ℕ). Some n) (stop_last (rows_in bytes) (end_in bytes) (offset_in bytes) i behind ∙ ap (λ (known : PageHeader). known.end) (sym e))
