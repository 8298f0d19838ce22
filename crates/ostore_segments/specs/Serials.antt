-- The serials of a segment, and what a list of pages keeps beside a change.
use Rattle.std.specs.Prelude.{◌≡◌, ◌≢◌, ℕ, ◌+◌, ◌-◌, ◌^◌, ◌<◌, ◌≤◌, List, length}
use Rattle.ostore_base.specs.declared.page.PageImage.{PageImage}
use Rattle.ostore_page_tags.specs.declared.layout.TheConstants.{FIRST_SCHEMA_PAGE, ROOTS_PAGE}
use Rattle.ostore_page_tags.specs.declared.page_header.PageHeader.{PageHeader}
use Rattle.ostore_page_tags.specs.Cells.{cells_of, free_bytes}
use Rattle.ostore_page_tags.specs.PageLists.{bytes_at, header_at, first_of}
use Rattle.ostore_page_tags.specs.PageChains.{IsSegment}
use Rattle.ostore_page_tags.specs.Allocated.{IsAllocated, HasFree, HasChain}

-- the last serial that a segment has drawn, 0 where it has no page
abbrev pub counter_of : List PageImage → ℕ → ℕ
counter_of list segment = (header_at list (first_of list segment)).last_serial

-- how many serials a segment draws at most
abbrev pub most_serials : ℕ
most_serials = 2 ^ 32 - 1

-- the segment has a page, and has drawn every serial
pub record AreSpent (list : List PageImage) (segment : ℕ) : Type 0 where
  pub some : first_of list segment ≢ 0
  pub all : most_serials ≤ counter_of list segment

-- the segment has a page, and has serials left
pub record AreLeft (list : List PageImage) (segment : ℕ) : Type 0 where
  pub some : first_of list segment ≢ 0
  pub left : counter_of list segment < most_serials

-- the schema's text, the roots and the number of pages stay
pub record SameElsewhere (old new : List PageImage) : Type 0 where
  pub count : length new ≡ length old
  pub fixed : (page : ℕ) → FIRST_SCHEMA_PAGE ≤ page → page ≤ ROOTS_PAGE
      → bytes_at new page ≡ bytes_at old page

-- the free list and the chains stay
pub record SameLists (old new : List PageImage) : Type 0 where
  pub free : (free : List ℕ) → HasFree old free → HasFree new free
  pub chains : (segment : ℕ) (chain : List ℕ) → IsSegment segment
      → HasChain old segment chain → HasChain new segment chain

-- the header with another last serial
abbrev pub with_serial : PageHeader → ℕ → PageHeader
with_serial header serial = record {
  kind = header.kind;
  segment = header.segment;
  rows = header.rows;
  end = header.end;
  next = header.next;
  last_serial = serial;
  last_page = header.last_page;
}

-- the next serial of a segment is drawn: its first page has another last serial, and all else stays
pub record Draws (old new : List PageImage) (segment serial : ℕ) : Type 0 where
  pub next : serial ≡ counter_of old segment + 1
  pub drawn : counter_of new segment ≡ serial
  pub some : first_of old segment ≢ 0
  pub header : header_at new (first_of old segment)
      ≡ with_serial (header_at old (first_of old segment)) serial
  pub apart : (page : ℕ) → page ≢ first_of old segment → bytes_at new page ≡ bytes_at old page
  pub others : (other : ℕ) → IsSegment other → other ≢ segment
      → counter_of new other ≡ counter_of old other
  pub cells : (page : ℕ) → cells_of (bytes_at new page) ≡ cells_of (bytes_at old page)
  pub room : (page : ℕ) → free_bytes (bytes_at new page) ≡ free_bytes (bytes_at old page)
  pub elsewhere : SameElsewhere old new
  pub lists : SameLists old new
  pub allocated : IsAllocated new

-- no segment's counter has fallen
abbrev pub KeepsCounters : List PageImage → List PageImage → Type 0
KeepsCounters old new =
    (segment : ℕ) → IsSegment segment → counter_of old segment ≤ counter_of new segment
