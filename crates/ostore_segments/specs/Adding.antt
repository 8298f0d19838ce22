-- A cell that is added to a page of a list.
use Rattle.std.specs.Prelude.{◌≡◌, ◌≢◌, ℕ, List, length}
use Rattle.ostore_base.specs.declared.page.PageImage.{PageImage}
use Rattle.ostore_page_tags.specs.Changes.{AddsCell}
use Rattle.ostore_page_tags.specs.PageLists.{bytes_at}
use Rattle.ostore_page_tags.specs.PageChains.{IsSegment}
use Rattle.ostore_page_tags.specs.Allocated.{IsAllocated}
use Rattle.ostore_segments.specs.Serials.{counter_of, SameLists}

-- a page has one cell more, of zeros and with a live row, and all else stays
pub record Adds (old new : List PageImage) (page size code serial : ℕ) : Type 0 where
  pub cell : AddsCell (bytes_at old page) (bytes_at new page) size code serial
  pub others : (other : ℕ) → other ≢ page → bytes_at new other ≡ bytes_at old other
  pub count : length new ≡ length old
  pub lists : SameLists old new
  pub counters : (segment : ℕ) → IsSegment segment → counter_of new segment ≡ counter_of old segment
  pub allocated : IsAllocated new
