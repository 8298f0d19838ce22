-- Which page a cell goes to.
use Rattle.std.specs.Prelude.{◌≡◌, ℕ, List, []}
use Rattle.ostore_base.specs.declared.page.PageImage.{PageImage}
use Rattle.ostore_page_tags.specs.Allocated.{HasFree}
use Rattle.ostore_segments.specs.Room.{EndsWithRoom, EndsFull, IsFirstWithRoom, IsFull}
use Rattle.ostore_segments.specs.Growth.{Grows}

-- the segment's last page where that has room, else a page that the segment gets from the free list, else,
-- where no page is free, the first one of its chain with room
pub data Places (old new : List PageImage) (segment need page : ℕ) : Type 0 where
  last : EndsWithRoom old segment need page → new ≡ old → Places old new segment need page
  grown : EndsFull old segment need → Grows old new segment page → Places old new segment need page
  early : EndsFull old segment need → HasFree old [] → IsFirstWithRoom old segment need page
      → new ≡ old → Places old new segment need page

-- there is no such page, and the list stays
pub record FindsNone (old new : List PageImage) (segment need : ℕ) : Type 0 where
  pub same : new ≡ old
  pub full : IsFull old segment need
