-- What code reads of pages that it holds, as laws: the cell at an address is what its page's image says, and what
-- the edits of one image make of its cells.
use Rattle.std.specs.Prelude.{◌≡◌, ◌≢◌, ◌<◌, ◌≤◌, ℕ, ◌+◌, ◌*◌, ◌/◌, true, false, IsTrue, All, List, length, replicate, Some, None}
use Rattle.std.specs.List.{slice_get}
use Rattle.std.specs.Option.{option_map}
use Rattle.ostore_base.specs.declared.page.PageImage.{PageImage}
use Rattle.ostore_base.specs.declared.page.TheConstants.{PAGE_SIZE}
use Rattle.ostore_page_tags.specs.declared.layout.TheConstants.{OBJECTS_KIND, FIRST_OPEN_PAGE}
use Rattle.ostore_page_tags.specs.Header.{header_of}
use Rattle.ostore_page_tags.specs.Rules.{IsPage}
use Rattle.ostore_page_tags.specs.Changes.{AddsCell, EditsCell, MarksDead}
use Rattle.ostore_schema_layout.specs.declared.schema.Schema.{Schema}
use Rattle.ostore_schema_layout.specs.Cells.{pointers_of}
use Rattle.ostore_graph_model.specs.Addresses.{PlacedCell, cell_in, cell_at}
use Rattle.ostore_graph_model.specs.FixedPages.{roots_of}
use Rattle.ostore_graph_model.specs.Chunks.{pointer_at}
use Rattle.ostore_graph_model.specs.Records.{is_sized}
use Rattle.ostore_graph_model.specs.Valid.{HasGoodPages, HasGoodCells}

-- the image of a page in a list tells all cells of that page
abbrev pub LawOfHeldImages : Type 0
LawOfHeldImages =
    (pages : List PageImage) (page offset : ℕ) (image : PageImage) → slice_get pages page ≡ Some image → FIRST_OPEN_PAGE ≤ page → offset < PAGE_SIZE
    → cell_at pages (page * PAGE_SIZE + offset) ≡ cell_in image.bytes offset

-- ---- what relocation asks

-- a pointer is 0, or an address in a page that may have cells
abbrev pub LeadsToPage : List PageImage → ℕ → Type 0
LeadsToPage pages pointer = pointer ≢ 0 → (FIRST_OPEN_PAGE ≤ pointer / PAGE_SIZE) × (pointer / PAGE_SIZE < length pages)

-- Each pointer of a live cell leads to a page, used or not, and so does each root's.
abbrev pub LawOfPointers : Type 0
LawOfPointers =
    (schema : Schema) (pages : List PageImage) → HasGoodPages schema pages → HasGoodCells schema pages
    → ((address : ℕ) (cell : PlacedCell) → cell_at pages address ≡ Some cell → cell.live ≡ true → All (λ place. LeadsToPage pages (pointer_at place cell.bytes)) (pointers_of schema cell.code))
    × All (λ row. LeadsToPage pages row.pointer) (roots_of pages)

-- a cell, live or dead, has the size of its code, which is a type's or a chunk's
abbrev pub LawOfSizes : Type 0
LawOfSizes = (schema : Schema) (pages : List PageImage) (address : ℕ) (cell : PlacedCell) → HasGoodCells schema pages → cell_at pages address ≡ Some cell → IsTrue (is_sized schema cell.code cell.bytes)

-- ---- what edits of an image make of its cells

abbrev pub with_bytes : List ℕ → PlacedCell → PlacedCell
with_bytes bytes cell = record cell { bytes = bytes }

-- an edit gives one cell these bytes, and leaves the others
abbrev pub LawOfEditedCells : Type 0
LawOfEditedCells =
    (old new : List ℕ) (offset : ℕ) (bytes : List ℕ) → EditsCell old new offset bytes
    → (cell_in new offset ≡ option_map (with_bytes bytes) (cell_in old offset)) × ((other : ℕ) → other ≢ offset → cell_in new other ≡ cell_in old other)

-- the cell that is added, of zeros
abbrev pub added_cell : ℕ → ℕ → ℕ → ℕ → PlacedCell
added_cell segment size code serial = record { segment = segment; code = code; live = true; serial = serial; bytes = replicate size 0 }

-- a cell that is added stands where none was, and leaves the others
pub record AddsOneCell (old new : List ℕ) (size code serial : ℕ) : Type 0 where
  pub free : cell_in old (header_of old).end ≡ None
  pub there : cell_in new (header_of old).end ≡ Some (added_cell (header_of old).segment size code serial)
  pub others : (other : ℕ) → other ≢ (header_of old).end → cell_in new other ≡ cell_in old other

abbrev pub LawOfAddedCells : Type 0
LawOfAddedCells = (old new : List ℕ) (size code serial : ℕ) → AddsCell old new size code serial → IsPage old → (header_of old).kind ≡ OBJECTS_KIND → AddsOneCell old new size code serial

-- a dead cell keeps its row, and its bytes are zeros
abbrev pub as_dead : PlacedCell → PlacedCell
as_dead cell = record cell { live = false; bytes = replicate (length cell.bytes) 0 }

-- a row that is marked dead has a dead cell, and the others stay
abbrev pub LawOfDeadCells : Type 0
LawOfDeadCells =
    (old new : List ℕ) (offset : ℕ) → MarksDead old new offset
    → (cell_in new offset ≡ option_map as_dead (cell_in old offset)) × ((other : ℕ) → other ≢ offset → cell_in new other ≡ cell_in old other)
