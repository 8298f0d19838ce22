-- What is done to a list of pages, one small edit at a time. The edits of one page's cells are those of the
-- page's own layer; here they are said of addresses.
use Rattle.std.specs.Prelude.{◌≡◌, ◌≢◌, ◌↔◌, ◌⊎◌, ◌<◌, ◌≤◌, ℕ, ◌+◌, ◌-◌, ◌*◌, ◌^◌, ℤ, true, List, [], ◌∷◌, ◌++◌, FitsSigned, IsTrue, length, replicate, Some, slice_set}
use Rattle.std.specs.Int.{w64}
use Rattle.std.specs.List.{slice_get, Contains}
use Rattle.std.specs.Str.{is_utf8}
use Rattle.ostore_base.specs.Disk.{replaced}
use Rattle.ostore_base.specs.declared.page.PageImage.{PageImage}
use Rattle.ostore_base.specs.declared.page.TheConstants.{PAGE_SIZE}
use Rattle.ostore_page_tags.specs.declared.layout.TheConstants.{OBJECTS_KIND, FIRST_SCHEMA_PAGE, ROOTS_PAGE, FIRST_OPEN_PAGE}
use Rattle.ostore_page_tags.specs.Numbers.{with_int, with_number}
use Rattle.ostore_page_tags.specs.Header.{header_of}
use Rattle.ostore_page_tags.specs.Cells.{cells_of}
use Rattle.ostore_page_tags.specs.Rules.{is_type_code}
use Rattle.ostore_page_tags.specs.Changes.{EditsCell, AddsCell}
use Rattle.ostore_page_tags.specs.PageLists.{bytes_at, header_at, first_of}
use Rattle.ostore_page_tags.specs.PageChains.{IsSegment, IsChain}
use Rattle.ostore_page_tags.specs.Allocated.{IsAllocated}
use Rattle.ostore_schema_layout.specs.declared.schema.Schema.{Schema}
use Rattle.ostore_schema_layout.specs.declared.schema.TypeNo.{TypeNo}
use Rattle.ostore_schema_layout.specs.declared.schema.MemberDef.{MemberDef}
use Rattle.ostore_schema_layout.specs.declared.schema.MemberKind.TheVariants as kinds
use Rattle.ostore_schema_layout.specs.declared.layouts.Place.{Place}
use Rattle.ostore_schema_layout.specs.Cells.{ArePairwise, in_fours, places_from}
use Rattle.ostore_schema_layout.specs.Numbers.{members_of}
use Rattle.ostore_graph_model.specs.declared.values.Name.{Name}
use Rattle.ostore_graph_model.specs.Orders.{TypeMember}
use Rattle.ostore_graph_model.specs.Addresses.{PlacedCell, cell_at}
use Rattle.ostore_graph_model.specs.FixedPages.{RootRow, first_page, roots_of, serial_of}

-- ---- one page

-- the image of one page is another, and the rest of the list is as it was
pub record PutsPage (old new : List PageImage) (page : ℕ) (was image : PageImage) : Type 0 where
  pub there : slice_get old page ≡ Some was
  pub put : new ≡ slice_set old page image

-- the bytes of the cell at an address are these now
pub record EditsAt (old new : List PageImage) (address : ℕ) (bytes : List ℕ) : Type 0 where
  pub page : ℕ
  pub offset : ℕ
  pub at : address ≡ page * PAGE_SIZE + offset
  pub low : offset < PAGE_SIZE
  pub was : PageImage
  pub image : PageImage
  pub puts : PutsPage old new page was image
  pub edit : EditsCell was.bytes image.bytes offset bytes

-- a cell of zeros is added at an address, on a page of a segment
pub record AddsAt (old new : List PageImage) (address segment size code serial : ℕ) : Type 0 where
  pub page : ℕ
  pub was : PageImage
  pub image : PageImage
  pub puts : PutsPage old new page was image
  pub at : address ≡ page * PAGE_SIZE + (header_of was.bytes).end
  pub high : FIRST_OPEN_PAGE ≤ page
  pub low : (header_of was.bytes).end < PAGE_SIZE
  pub kind : (header_of was.bytes).kind ≡ OBJECTS_KIND
  pub segment_is : (header_of was.bytes).segment ≡ segment
  pub adds : AddsCell was.bytes image.bytes size code serial

-- a segment draws its next serial: the counter in its first page is raised
pub record Draws (old new : List PageImage) (segment : ℕ) : Type 0 where
  pub page : ℕ
  pub was : PageImage
  pub image : PageImage
  pub puts : PutsPage old new page was image
  pub first : first_page old segment ≡ page
  pub some : page ≢ 0
  pub header : header_of image.bytes ≡ record (header_of was.bytes) { last_serial = serial_of old segment + 1 }
  pub cells : cells_of image.bytes ≡ cells_of was.bytes
  pub allocated : IsAllocated new

-- ---- a member of an object

-- a live object's cell is at an address, and its member of a number lies there in it
pub record HasPlace (schema : Schema) (pages : List PageImage) (address member : ℕ) (cell : PlacedCell) (place : Place) : Type 0 where
  pub there : cell_at pages address ≡ Some cell
  pub live : cell.live ≡ true
  pub typed : is_type_code cell.code ≡ true
  pub lies : slice_get (places_from 0 (members_of schema cell.code)) member ≡ Some place

abbrev pub name_of : PlacedCell → Name
name_of cell = record { segment = cell.segment; serial = cell.serial }

abbrev pub member_of : PlacedCell → ℕ → TypeMember
member_of cell member = record { ty = record { 0 = cell.code }; member = record { 0 = member } }

pub record WritesInt (schema : Schema) (old new : List PageImage) (address member : ℕ) (cell : PlacedCell) (place : Place) (value : ℤ) : Type 0 where
  pub has : HasPlace schema old address member cell place
  pub kind : place.kind ≡ kinds.Int
  pub fits : FitsSigned w64 value
  pub edits : EditsAt old new address (with_int place.offset value cell.bytes)

-- a text as it is stored in room for as many as max bytes: its length, its bytes, and zeros
abbrev pub stored_text : ℕ → List ℕ → List ℕ
stored_text max text = length text ∷ text ++ replicate (in_fours (1 + max) - 1 - length text) 0

pub record WritesText (schema : Schema) (old new : List PageImage) (address member : ℕ) (cell : PlacedCell) (place : Place) (max : ℕ) (text : List ℕ) : Type 0 where
  pub has : HasPlace schema old address member cell place
  pub kind : place.kind ≡ kinds.Text max
  pub room : max < 256
  pub short : length text ≤ max
  pub utf8 : IsTrue (is_utf8 text)
  pub edits : EditsAt old new address (replaced place.offset (stored_text max text) cell.bytes)

-- a reference is another pointer
pub record WritesRef (schema : Schema) (old new : List PageImage) (address member : ℕ) (cell : PlacedCell) (place : Place) (target : TypeNo) (pointer : ℕ) : Type 0 where
  pub has : HasPlace schema old address member cell place
  pub kind : place.kind ≡ kinds.Ref target
  pub def : MemberDef
  pub defined : slice_get (members_of schema cell.code) member ≡ Some def
  pub fits : pointer < 256 ^ 4
  pub edits : EditsAt old new address (with_number 4 place.offset pointer cell.bytes)

-- ---- the lists of pages

-- the last serial that a segment has drawn, as the first page of its chain says
abbrev pub counter_of : List PageImage → ℕ → ℕ
counter_of pages segment = (header_at pages (first_of pages segment)).last_serial

-- the pages of a segment, in order
abbrev pub HasChain : List PageImage → ℕ → List ℕ → Type 0
HasChain pages segment chain = IsChain (length pages) (header_at pages) (first_of pages segment) segment chain

-- a page is at the end of a segment's chain now, and all else of the graph's pages stays
pub record TakesPage (old new : List PageImage) (segment page : ℕ) : Type 0 where
  pub count : length new ≡ length old
  pub fixed : (other : ℕ) → FIRST_SCHEMA_PAGE ≤ other → other ≤ ROOTS_PAGE → bytes_at new other ≡ bytes_at old other
  pub chain : (chain : List ℕ) × HasChain old segment chain × HasChain new segment (chain ++ page ∷ [])
  pub others : (other : ℕ) (chain : List ℕ) → IsSegment other → other ≢ segment → HasChain old other chain → HasChain new other chain
  pub counters : (other : ℕ) → IsSegment other → counter_of new other ≡ counter_of old other
  pub cells : (other : ℕ) → cells_of (bytes_at new other) ≡ cells_of (bytes_at old other)
  pub allocated : IsAllocated new

-- the same cells, roots and counters are read
pub record ReadsSame (old new : List PageImage) : Type 0 where
  pub cells : (address : ℕ) → cell_at new address ≡ cell_at old address
  pub roots : roots_of new ≡ roots_of old
  pub serials : serial_of new ≡ serial_of old

-- ---- roots

-- The page of roots binds a root to a pointer now, in a row of its own; the rows of other names, and all else, are as they were.
pub record BindsRoot (old new : List PageImage) (name : List ℕ) (pointer : ℕ) : Type 0 where
  pub cells : (address : ℕ) → cell_at new address ≡ cell_at old address
  pub serials : serial_of new ≡ serial_of old
  pub rows : (row : RootRow) → Contains (roots_of new) row ↔ ((row ≡ record { name = name; pointer = pointer }) ⊎ (Contains (roots_of old) row × (row.name ≢ name)))
  pub once : ArePairwise (λ earlier later. earlier.name ≢ later.name) (roots_of new)

-- The page of roots has no row of this name now; the rows of other names, and all else, are as they were.
pub record UnbindsRoot (old new : List PageImage) (name : List ℕ) : Type 0 where
  pub cells : (address : ℕ) → cell_at new address ≡ cell_at old address
  pub serials : serial_of new ≡ serial_of old
  pub rows : (row : RootRow) → Contains (roots_of new) row ↔ (Contains (roots_of old) row × (row.name ≢ name))
  pub once : ArePairwise (λ earlier later. earlier.name ≢ later.name) (roots_of new)
