-- What may be written into a page: bytes that leave its cells and rows, and add one cell at most; a pointer; or
-- the row of a root.
use Rattle.std.specs.Prelude.{◌≡◌, ◌≢◌, ℕ, ◌+◌, ◌-◌, ◌*◌, ◌<◌, ◌≤◌, ◌⊎◌, true, List, [], ◌∷◌, ◌++◌, length, replicate, Option, None, Some}
use Rattle.std.specs.List.{All, AllByRecursion, Contains}
use Rattle.ostore_base.specs.Disk.{replaced}
use Rattle.ostore_base.specs.declared.page.PageImage.{PageImage}
use Rattle.ostore_base.specs.declared.page.TheConstants.{PAGE_SIZE}
use Rattle.byteorder.specs.Endian.{little_bytes}
use Rattle.ostore_page_tags.specs.declared.layout.TheConstants.{ROW_BYTES, ROOTS_PAGE, ROOT_BYTES, NAME_IN_ROOT, POINTER_IN_ROOT, ZEROS_IN_ROOT}
use Rattle.ostore_page_tags.specs.Header.{header_of}
use Rattle.ostore_page_tags.specs.Cells.{Cell, cells_of, AreApart}
use Rattle.ostore_page_tags.specs.Rules.{IsPage}
use Rattle.ostore_page_tags.specs.PageLists.{bytes_at, with_bytes}
use Rattle.ostore_page_tags.specs.PageChains.{IsOpen}
use Rattle.ostore_page_tags.specs.PagePointers.{IsBeside, IsOneOf, page_pointers, root_place}
use Rattle.ostore_segments.specs.Holdings.{PagesTold}

-- ---- bytes

-- the n bytes from a place on are none of a cell's
abbrev pub IsBesideCell : ℕ → ℕ → Cell → Type 0
IsBesideCell at n cell = (cell.row.offset + length cell.bytes ≤ at) ⊎ (at + n ≤ cell.row.offset)

-- a cell of zeros was added behind the cells, of a code whose size is told, and it lies apart from all else
pub record AddsOne (sizes : ℕ → Option ℕ) (old new : List ℕ) (cell : Cell) : Type 0 where
  pub cells : cells_of new ≡ cells_of old ++ cell ∷ []
  pub size : sizes cell.row.code ≡ Some (length cell.bytes)
  pub zeros : cell.bytes ≡ replicate (length cell.bytes) 0
  pub apart : AreApart new
  pub room : (header_of new).end + ROW_BYTES * (header_of new).rows ≤ PAGE_SIZE

-- the page has the cells that it had, or one more
abbrev pub KeepsCells : (ℕ → Option ℕ) → List ℕ → List ℕ → Type 0
KeepsCells sizes old new =
    (cells_of new ≡ cells_of old) ⊎ ((cell : Cell) × AddsOne sizes old new cell)

-- the page is of the kind that it was, where it has cells
abbrev pub KeepsKind : List ℕ → List ℕ → Type 0
KeepsKind old new = ((header_of new).kind ≡ (header_of old).kind) ⊎ (cells_of old ≡ [])

-- bytes are put beside all cells and tag rows that the page has
pub record PutsBesideCells (sizes : ℕ → Option ℕ) (at : ℕ) (bytes old : List ℕ) : Type 0 where
  pub rows : at + length bytes ≤ PAGE_SIZE - ROW_BYTES * (header_of old).rows
  pub beside : All (IsBesideCell at (length bytes)) (cells_of old)
  pub cells : KeepsCells sizes old (replaced at bytes old)
  pub kind : KeepsKind old (replaced at bytes old)

-- bytes may be put into a page of the list
pub record CanPut (told : PagesTold) (page at : ℕ) (bytes : List ℕ) (list : List PageImage)
    : Type 0 where
  pub there : page < length list
  pub no_roots : page ≢ ROOTS_PAGE
  pub puts : PutsBesideCells told.sizes at bytes (bytes_at list page)

-- ---- bytes of a cell

-- A live cell begins at an offset of a page of objects, with the size that is told of its code. The n bytes from a
-- place of the cell on lie in it, and are none of its pointers'.
pub record HasBytesInCell (told : PagesTold) (page offset at n : ℕ) (list : List PageImage)
    : Type 0 where
  pub lies : IsOpen (length list) page
  pub good : IsPage (bytes_at list page)
  pub cell : Cell
  pub there : Contains (cells_of (bytes_at list page)) cell
  pub begins : cell.row.offset ≡ offset
  pub live : cell.row.live ≡ true
  pub sized : told.sizes cell.row.code ≡ Some (length cell.bytes)
  pub within : at + n ≤ length cell.bytes
  pub beside : AllByRecursion (IsBeside at n) (told.pointers cell.row.code)

-- ---- pointers

-- how many bytes the name of a root has at most
abbrev pub longest_name : ℕ
longest_name = POINTER_IN_ROOT - NAME_IN_ROOT

-- a stored pointer, 0 where there is none
abbrev pub stored_or_null : Option ℕ → ℕ
stored_or_null None = 0
stored_or_null (Some stored) = stored

-- a page of the list has a pointer at a place
pub record HasPointer (told : PagesTold) (page at : ℕ) (list : List PageImage) : Type 0 where
  pub there : page < length list
  pub within : at + 4 ≤ PAGE_SIZE
  pub pointer : IsOneOf at (page_pointers told.pointers page (bytes_at list page))

-- the list with a pointer at a place of a page
abbrev pub with_pointer_at : ℕ → ℕ → ℕ → List PageImage → List PageImage
with_pointer_at pointer page at list = with_bytes list page at (little_bytes 4 pointer)

-- ---- rows of roots

-- what may stand in a row: a name and a pointer, or neither
pub record IsRootAsked (name : List ℕ) (pointer : ℕ) : Type 0 where
  pub short : length name ≤ longest_name
  pub free : length name ≡ 0 → pointer ≡ 0

-- a row: the name's length, the name, zeros, the pointer, and zeros
abbrev pub root_row : List ℕ → ℕ → List ℕ
root_row name pointer =
    length name ∷ name ++ replicate (longest_name - length name) 0 ++ little_bytes 4 pointer
    ++ replicate (ROOT_BYTES - ZEROS_IN_ROOT) 0

-- the list with a row of the page of roots
abbrev pub with_root : ℕ → List ℕ → ℕ → List PageImage → List PageImage
with_root i name pointer list = with_bytes list ROOTS_PAGE (root_place i) (root_row name pointer)
