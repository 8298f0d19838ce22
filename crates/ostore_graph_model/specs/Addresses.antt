-- The cells of a list of pages by their addresses. An address is what a stored pointer names: the number of a
-- page times the bytes of a page, and the place in that page where a cell begins. The first ten pages have no cells.
use Rattle.std.specs.Prelude.{ℕ, ◌/◌, ◌%◌, Bool, ◌==◌, nat_le, if◌then◌else◌, List, Option, None}
use Rattle.std.specs.List.{find, slice_get}
use Rattle.std.specs.Option.{option_map, option_and_then}
use Rattle.ostore_base.specs.declared.page.PageImage.{PageImage}
use Rattle.ostore_base.specs.declared.page.TheConstants.{PAGE_SIZE}
use Rattle.ostore_page_tags.specs.declared.layout.TheConstants.{OBJECTS_KIND, FIRST_OPEN_PAGE}
use Rattle.ostore_page_tags.specs.Header.{header_of}
use Rattle.ostore_page_tags.specs.Cells.{Cell, cells_of}

-- a cell with what its row says, and with the segment of its page
pub record PlacedCell : Type 0 where
  pub segment : ℕ
  pub code : ℕ
  pub live : Bool
  pub serial : ℕ
  pub bytes : List ℕ

-- a cell of a page of a segment
abbrev pub placed : ℕ → Cell → PlacedCell
placed segment cell = record {
  segment = segment;
  code = cell.row.code;
  live = cell.row.live;
  serial = cell.row.serial;
  bytes = cell.bytes;
}

abbrev pub begins_at : ℕ → Cell → Bool
begins_at offset cell = cell.row.offset == offset

-- the cell that begins at a place of a page; only a data page has cells
unfoldable pub cell_in : List ℕ → ℕ → Option PlacedCell
cell_in bytes offset =
    if (header_of bytes).kind == OBJECTS_KIND then option_map (placed (header_of bytes).segment) (find (begins_at offset) (cells_of bytes)) else None

-- the image of a page that may have cells
abbrev pub page_of_cells : List PageImage → ℕ → Option PageImage
page_of_cells pages page = if nat_le FIRST_OPEN_PAGE page then slice_get pages page else None

-- the cell at an address, live or dead
unfoldable pub cell_at : List PageImage → ℕ → Option PlacedCell
cell_at pages address = option_and_then (λ image. cell_in image.bytes (address % PAGE_SIZE)) (page_of_cells pages (address / PAGE_SIZE))
