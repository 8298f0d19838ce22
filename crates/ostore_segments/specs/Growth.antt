-- A page that goes from the free list to a segment.
use Rattle.std.specs.Prelude.{◌≡◌, ◌≢◌, ℕ, ◌-◌, List, [], ◌∷◌, ◌++◌}
use Rattle.ostore_base.specs.declared.page.PageImage.{PageImage}
use Rattle.ostore_base.specs.declared.page.TheConstants.{PAGE_SIZE}
use Rattle.ostore_page_tags.specs.declared.layout.TheConstants.{HEADER_BYTES}
use Rattle.ostore_page_tags.specs.Cells.{cells_of, free_bytes}
use Rattle.ostore_page_tags.specs.PageLists.{bytes_at}
use Rattle.ostore_page_tags.specs.PageChains.{IsSegment}
use Rattle.ostore_page_tags.specs.Allocated.{IsAllocated, HasFree, HasChain}
use Rattle.ostore_segments.specs.Serials.{counter_of, SameElsewhere}

-- the head of the free list is now at the end of the segment's chain, an empty page, and all else stays
pub record Grows (old new : List PageImage) (segment page : ℕ) : Type 0 where
  pub free : (rest : List ℕ) × HasFree old (page ∷ rest) × HasFree new rest
  pub chain : (chain : List ℕ) × HasChain old segment chain
      × HasChain new segment (chain ++ page ∷ [])
  pub others : (other : ℕ) (chain : List ℕ) → IsSegment other → other ≢ segment
      → HasChain old other chain → HasChain new other chain
  pub counters : (other : ℕ) → IsSegment other → counter_of new other ≡ counter_of old other
  pub cells : (other : ℕ) → cells_of (bytes_at new other) ≡ cells_of (bytes_at old other)
  pub room : free_bytes (bytes_at new page) ≡ PAGE_SIZE - HEADER_BYTES
  pub rooms : (other : ℕ) → other ≢ page
      → free_bytes (bytes_at new other) ≡ free_bytes (bytes_at old other)
  pub elsewhere : SameElsewhere old new
  pub allocated : IsAllocated new
