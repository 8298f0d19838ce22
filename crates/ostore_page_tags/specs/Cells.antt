-- The cells of a page. They lie one after the other, in the order of their rows.
use Rattle.std.specs.Prelude.{◌≡◌, ◌≤◌, ℕ, ◌+◌, ◌-◌, ◌*◌, ◌%◌, List, [], ◌∷◌, ◌++◌, length, take, drop, replicate}
use Rattle.std.specs.List.{All, AllPairs, flat_map}
use Rattle.ostore_base.specs.declared.page.TheConstants.{PAGE_SIZE}
use Rattle.ostore_page_tags.specs.declared.layout.TheConstants.{HEADER_BYTES, ROW_BYTES, CELL_STEP}
use Rattle.ostore_page_tags.specs.declared.tag_rows.Row.{Row}
use Rattle.ostore_page_tags.specs.Header.{header_of}
use Rattle.ostore_page_tags.specs.Rows.{rows_of}

-- a row and its cell
pub record Cell : Type 0 where
  pub row : Row
  pub bytes : List ℕ

-- the bytes from one place up to another
abbrev pub between : ℕ → ℕ → List ℕ → List ℕ
between start stop bytes = take (stop - start) (drop start bytes)

abbrev pub cell_to : ℕ → List ℕ → Row → Cell
cell_to stop bytes row = record { row = row; bytes = between row.offset stop bytes }

-- a cell ends where the next row's begins, and the last one at the end of the cells
abbrev pub cells_from : ℕ → List ℕ → List Row → List Cell
cells_from end bytes [] = []
cells_from end bytes (row ∷ []) = cell_to end bytes row ∷ []
cells_from end bytes (row ∷ next ∷ rows) =
    cell_to next.offset bytes row ∷ cells_from end bytes (next ∷ rows)

-- the cells in the order of their rows: there is one for each row, and no other
abbrev pub cells_of : List ℕ → List Cell
cells_of bytes = cells_from (header_of bytes).end bytes (rows_of bytes)

-- how many bytes are free, between the cells and the rows
abbrev pub free_bytes : List ℕ → ℕ
free_bytes bytes = PAGE_SIZE - ROW_BYTES * (header_of bytes).rows - (header_of bytes).end

-- the cells lie from behind the header up to their end, begin and end at multiples of the step, and have bytes;
-- and of two cells, the one of the earlier row ends where the other begins or before
pub record AreApart (bytes : List ℕ) : Type 0 where
  pub behind : All (λ cell. HEADER_BYTES ≤ cell.row.offset) (cells_of bytes)
  pub within : All (λ cell. cell.row.offset + length cell.bytes ≤ (header_of bytes).end)
      (cells_of bytes)
  pub fours : All (λ cell. (cell.row.offset % CELL_STEP ≡ 0) × (length cell.bytes % CELL_STEP ≡ 0))
      (cells_of bytes)
  pub some : All (λ cell. CELL_STEP ≤ length cell.bytes) (cells_of bytes)
  pub apart : AllPairs (λ cell later. cell.row.offset + length cell.bytes ≤ later.row.offset)
      (cells_of bytes)

-- the header, the cells one after the other, the free bytes, which are zeros, and the rows
abbrev pub parts_of : List ℕ → List ℕ
parts_of bytes =
    take HEADER_BYTES bytes ++ flat_map (λ cell. cell.bytes) (cells_of bytes) ++ replicate (free_bytes bytes) 0
    ++ drop (PAGE_SIZE - ROW_BYTES * (header_of bytes).rows) bytes
