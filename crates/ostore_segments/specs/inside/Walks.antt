-- Walks over the chain of a segment.
use Rattle.std.specs.Prelude.{◌≡◌, ℕ, List, ◌++◌, length}
use Rattle.std.specs.List.{All}
use Rattle.ostore_base.specs.declared.page.PageImage.{PageImage}
use Rattle.ostore_page_tags.specs.PageLists.{header_at}
use Rattle.ostore_page_tags.specs.PageChains.{IsWalk}
use Rattle.ostore_page_tags.specs.Allocated.{HasChain}
use Rattle.ostore_segments.specs.Room.{LacksRoom}

-- a walk over the segment's chain stands before a page, 0 at the end; the pages behind it lack room
pub record HasWalked (list : List PageImage) (segment need count at : ℕ) : Type 0 where
  pub front : List ℕ
  pub behind : List ℕ
  pub has : HasChain list segment (front ++ behind)
  pub walk : IsWalk (header_at list) at behind
  pub lacks : All (LacksRoom list need) front
  pub counted : length front ≡ count

-- a walk over the segment's chain stands before a page, 0 at the end, and these pages are behind it
pub record HasListed (list : List PageImage) (segment count at : ℕ) (listed : List ℕ) : Type 0 where
  pub left : List ℕ
  pub has : HasChain list segment (listed ++ left)
  pub walk : IsWalk (header_at list) at left
  pub counted : length listed ≡ count
