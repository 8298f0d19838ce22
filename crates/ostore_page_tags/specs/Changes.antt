-- What adding a cell and marking a row dead make of a page.
use Rattle.std.specs.Prelude.{◌≡◌, ◌≤◌, ◌<◌, ℕ, ◌+◌, ◌%◌, true, false, ◌==◌, if◌then◌else◌, IsTrue, List, [], ◌∷◌, ◌++◌, length, map, replicate}
use Rattle.ostore_page_tags.specs.declared.layout.TheConstants.{CELL_STEP}
use Rattle.ostore_page_tags.specs.declared.page_header.PageHeader.{PageHeader}
use Rattle.ostore_page_tags.specs.declared.tag_rows.Row.{Row}
use Rattle.ostore_page_tags.specs.Limits.{largest_cell}
use Rattle.ostore_page_tags.specs.Header.{header_of}
use Rattle.ostore_page_tags.specs.Cells.{Cell, cells_of}
use Rattle.ostore_page_tags.specs.Rules.{IsPage, is_tag}

-- what may be asked for: a size of a cell, and a code with the serial that suits it
pub record IsCellAsked (size code serial : ℕ) : Type 0 where
  pub some : 0 < size
  pub fours : size % CELL_STEP ≡ 0
  pub most : size ≤ largest_cell
  pub tag : IsTrue (is_tag code serial)

-- a live row at an offset
abbrev pub live_row : ℕ → ℕ → ℕ → Row
live_row offset code serial = record { offset = offset; code = code; live = true; serial = serial }

abbrev pub zeroed_cell : Row → ℕ → Cell
zeroed_cell row size = record { row = row; bytes = replicate size 0 }

-- the header with one row more, and so many bytes of cells more
abbrev pub grown : PageHeader → ℕ → PageHeader
grown header size = record {
  kind = header.kind;
  segment = header.segment;
  rows = header.rows + 1;
  end = header.end + size;
  next = header.next;
  last_serial = header.last_serial;
  last_page = header.last_page;
}

-- a cell of zeros was added behind the last one, with its row, and all else is as it was
pub record AddsCell (old new : List ℕ) (size code serial : ℕ) : Type 0 where
  pub header : header_of new ≡ grown (header_of old) size
  pub cells : cells_of new
      ≡ cells_of old ++ zeroed_cell (live_row (header_of old).end code serial) size ∷ []
  pub page : IsPage new

-- the row as a dead one
abbrev pub dead_row : Row → Row
dead_row row = record { offset = row.offset; code = row.code; live = false; serial = row.serial }

-- the cell at this offset as a dead one, and any other cell as it is
abbrev pub dead_at : ℕ → Cell → Cell
dead_at offset cell =
    if cell.row.offset == offset then zeroed_cell (dead_row cell.row) (length cell.bytes) else cell

-- the row of an offset is dead now and its cell is zeros, and all else is as it was
pub record MarksDead (old new : List ℕ) (offset : ℕ) : Type 0 where
  pub header : header_of new ≡ header_of old
  pub cells : cells_of new ≡ map (dead_at offset) (cells_of old)
  pub page : IsPage new

-- the cell at this offset with other bytes, and any other cell as it is
abbrev pub edited_at : ℕ → List ℕ → Cell → Cell
edited_at offset bytes cell =
    if cell.row.offset == offset then record { row = cell.row; bytes = bytes } else cell

-- the bytes of the cell at an offset are these now, and all else is as it was
pub record EditsCell (old new : List ℕ) (offset : ℕ) (bytes : List ℕ) : Type 0 where
  pub header : header_of new ≡ header_of old
  pub cells : cells_of new ≡ map (edited_at offset bytes) (cells_of old)
  pub page : IsPage new
