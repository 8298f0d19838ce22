-- Headers with one field changed, and a page that was taken off the free list.
use Rattle.std.specs.Prelude.{◌≡◌, ◌≢◌, ◌⊎◌, ℕ, List, [], ◌∷◌, ◌++◌, length}
use Rattle.byteorder.specs.Endian.{little_bytes}
use Rattle.ostore_base.specs.declared.page.PageImage.{PageImage}
use Rattle.ostore_base.specs.declared.page.TheConstants.{PAGE_SIZE}
use Rattle.ostore_page_tags.specs.declared.layout.TheConstants.{FRONT_PAGE, HEADER_BYTES, LIVE_STATE, OBJECTS_KIND}
use Rattle.ostore_page_tags.specs.declared.page_header.PageHeader.{PageHeader}
use Rattle.ostore_page_tags.specs.Cells.{cells_of}
use Rattle.ostore_page_tags.specs.Rules.{IsPage}
use Rattle.ostore_page_tags.specs.PageLists.{bytes_at, header_at, first_of}
use Rattle.ostore_page_tags.specs.PageChains.{IsSegment, HasHeader}
use Rattle.ostore_page_tags.specs.Allocated.{IsAllocated, IsFront}

abbrev pub header_made : (kind segment rows end next last_serial last_page : ℕ) → PageHeader
header_made kind segment rows end next last_serial last_page = record {
  kind = kind;
  segment = segment;
  rows = rows;
  end = end;
  next = next;
  last_serial = last_serial;
  last_page = last_page;
}

abbrev pub with_next : PageHeader → ℕ → PageHeader
with_next h value = header_made h.kind h.segment h.rows h.end value h.last_serial h.last_page

abbrev pub with_last : PageHeader → ℕ → PageHeader
with_last h value = header_made h.kind h.segment h.rows h.end h.next h.last_serial value

-- the page of an allocated list has a header
pub record HasHeaderAt (list : List PageImage) (page : ℕ) : Type 0 where
  pub allocated : IsAllocated list
  pub headed : HasHeader (length list) page

-- the free list of an allocated list begins with this page
pub record BeginsWith (list : List PageImage) (page : ℕ) : Type 0 where
  pub allocated : IsAllocated list
  pub at : (header_at list FRONT_PAGE).next ≡ page
  pub some : page ≢ 0

-- and this is the first page of a segment, 0 for none
pub record BeginsBeside (list : List PageImage) (segment page first : ℕ) : Type 0 where
  pub begins : BeginsWith list page
  pub first_is : first_of list segment ≡ first

-- the head of the free list was taken off it; it is an empty page of a segment, in no chain yet
pub record Takes (old new : List PageImage) (segment page : ℕ) : Type 0 where
  pub count : length new ≡ length old
  pub others : (other : ℕ) → other ≢ FRONT_PAGE → other ≢ page
      → bytes_at new other ≡ bytes_at old other
  pub front_header : header_at new FRONT_PAGE
      ≡ with_next (header_at old FRONT_PAGE) (header_at old page).next
  pub front : IsFront (bytes_at new FRONT_PAGE)
  pub front_whole : length (bytes_at new FRONT_PAGE) ≡ PAGE_SIZE
  pub firsts : (other : ℕ) → IsSegment other → first_of new other ≡ first_of old other
  pub header : header_at new page ≡ header_made OBJECTS_KIND segment 0 HEADER_BYTES 0 0 0
  pub good : IsPage (bytes_at new page)
  pub empty : cells_of (bytes_at new page) ≡ []

-- the bytes of a live row
abbrev pub row_of_live : ℕ → ℕ → ℕ → List ℕ
row_of_live offset code serial =
    little_bytes 2 offset ++ code ∷ LIVE_STATE ∷ [] ++ little_bytes 4 serial

-- page 0, or this page
abbrev pub IsFrontOr : ℕ → ℕ → Type 0
IsFrontOr page named = (named ≡ FRONT_PAGE) ⊎ (named ≡ page)
