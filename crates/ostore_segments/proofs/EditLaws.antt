-- Bytes that lie beside all cells.
use Rattle.std.proofs.Common.{◌≡◌, ℕ, ◌+◌, ◌≤◌, List, [], length, sym, subst, ◌∙◌, arith, inl, inr}
use Rattle.std.specs.Prelude.{Option}
use Rattle.std.specs.List.{All}
use Rattle.byteorder.specs.Endian.{little_bytes}
use Rattle.byteorder.specs.Numbers.{length-bytes_low_first}
use Rattle.ostore_base.specs.Disk.{replaced}
use Rattle.ostore_page_tags.specs.Numbers.{with_number}
use Rattle.ostore_page_tags.specs.Header.{header_of}
use Rattle.ostore_page_tags.specs.Cells.{cells_of}
use Rattle.ostore_page_tags.specs.Rules.{IsPage}
use Rattle.ostore_page_tags.proofs.shape.PageShape.{rows_in, end_in, offset_in, IsPage-shape, end_above}
use Rattle.ostore_page_tags.proofs.parts.ApartLaws.{IsPage-AreApart}
use Rattle.ostore_segments.specs.Edits.{IsBesideCell, KeepsCells, PutsBesideCells}
use Rattle.ostore_segments.proofs.FieldLaws.{IsField, field_cells, kind_kept, rows_kept}
use Rattle.ostore_segments.proofs.SeenLaws.{no_cells}

-- a page without cells that gets none
pub puts_bare : (sizes : ℕ → Option ℕ) (at : ℕ) (bytes old : List ℕ) → (header_of old).rows ≡ 0 → at + length bytes ≤ 4096 → cells_of (replaced at bytes old) ≡ [] → PutsBesideCells sizes at bytes old
puts_bare sizes at bytes old none within bare =
    let empty : cells_of old ≡ [] = no_cells old none in
    record {
      rows = omega arith;
      beside = subst (All (IsBesideCell at (length bytes))) (sym empty) (λ k d below. absurd (omega arith));
      cells = inl (bare ∙ sym empty);
      kind = inr empty;
    }

-- the header of a page of objects
pub puts_header : (sizes : ℕ → Option ℕ) (at : ℕ) (bytes old : List ℕ) → IsPage old → at + length bytes ≤ 32 → KeepsCells sizes old (replaced at bytes old) → (header_of (replaced at bytes old)).kind ≡ (header_of old).kind → PutsBesideCells sizes at bytes old
puts_header sizes at bytes old good within cells kind =
    let shape = IsPage-shape old good in
    let room = shape.room in
    let above : 32 ≤ end_in old = end_above (rows_in old) (end_in old) (offset_in old) shape.offsets in
    let behind = (IsPage-AreApart old good).behind in
    record {
      rows = omega arith;
      beside = λ k d below. let low = behind k d below in inr (omega arith);
      cells = cells;
      kind = inl kind;
    }

-- a number in the header of a page without cells
pub puts_bare_field : (sizes : ℕ → Option ℕ) (at value : ℕ) (old : List ℕ) → (header_of old).rows ≡ 0 → IsField at value old → PutsBesideCells sizes at (little_bytes 4 value) old
puts_bare_field sizes at value old none field =
    let long : length (little_bytes 4 value) ≡ 4 = length-bytes_low_first 0 4 value in
    let high = field.high in
    puts_bare sizes at (little_bytes 4 value) old none (omega arith) (no_cells (with_number 4 at value old) (rows_kept at value old field ∙ none))

-- and in that of a page of objects
pub puts_field : (sizes : ℕ → Option ℕ) (at value : ℕ) (old : List ℕ) → IsPage old → IsField at value old → PutsBesideCells sizes at (little_bytes 4 value) old
puts_field sizes at value old good field =
    let long : length (little_bytes 4 value) ≡ 4 = length-bytes_low_first 0 4 value in
    let high = field.high in
    puts_header sizes at (little_bytes 4 value) old good (omega arith) (inl (field_cells at value old good field)) (kind_kept at value old field)
