-- The room on the pages of a segment.
use Rattle.std.specs.Prelude.{◌≡◌, ◌≢◌, ℕ, ◌<◌, ◌≤◌, List, [], ◌∷◌, ◌++◌, length}
use Rattle.std.specs.List.{All, Contains}
use Rattle.ostore_base.specs.declared.page.PageImage.{PageImage}
use Rattle.ostore_page_tags.specs.declared.layout.TheConstants.{OBJECTS_KIND}
use Rattle.ostore_page_tags.specs.Cells.{free_bytes}
use Rattle.ostore_page_tags.specs.PageLists.{bytes_at, header_at}
use Rattle.ostore_page_tags.specs.PageChains.{IsOpen, last_of}
use Rattle.ostore_page_tags.specs.Allocated.{IsAllocated, HasFree, HasChain}

-- a page has so many free bytes, or fewer
abbrev pub HasRoom : List PageImage → ℕ → ℕ → Type 0
HasRoom list need page = need ≤ free_bytes (bytes_at list page)

abbrev pub LacksRoom : List PageImage → ℕ → ℕ → Type 0
LacksRoom list need page = free_bytes (bytes_at list page) < need

-- the segment's last page has room
pub record EndsWithRoom (list : List PageImage) (segment need page : ℕ) : Type 0 where
  pub chain : List ℕ
  pub has : HasChain list segment chain
  pub some : chain ≢ []
  pub last : page ≡ last_of chain
  pub room : HasRoom list need page

-- the segment has no page, or its last page lacks room
pub record EndsFull (list : List PageImage) (segment need : ℕ) : Type 0 where
  pub chain : List ℕ
  pub has : HasChain list segment chain
  pub lacks : chain ≢ [] → LacksRoom list need (last_of chain)

-- the first page of the segment's chain with room
pub record IsFirstWithRoom (list : List PageImage) (segment need page : ℕ) : Type 0 where
  pub front : List ℕ
  pub behind : List ℕ
  pub has : HasChain list segment (front ++ page ∷ behind)
  pub before : All (LacksRoom list need) front
  pub room : HasRoom list need page

-- no page of the segment has room
pub record LacksRoomAll (list : List PageImage) (segment need : ℕ) : Type 0 where
  pub chain : List ℕ
  pub has : HasChain list segment chain
  pub lacks : All (LacksRoom list need) chain

-- no page of the segment has room, and no page is free
pub record IsFull (list : List PageImage) (segment need : ℕ) : Type 0 where
  pub none_free : HasFree list []
  pub none_with_room : LacksRoomAll list segment need

-- a page of objects of an allocated list has so many free bytes
pub record HasRoomOn (list : List PageImage) (need page : ℕ) : Type 0 where
  pub allocated : IsAllocated list
  pub there : IsOpen (length list) page
  pub kind : (header_at list page).kind ≡ OBJECTS_KIND
  pub room : HasRoom list need page

-- a page of the segment has so many free bytes
pub record IsPlaced (list : List PageImage) (segment need page : ℕ) : Type 0 where
  pub allocated : IsAllocated list
  pub chain : List ℕ
  pub has : HasChain list segment chain
  pub there : Contains chain page
  pub room : HasRoom list need page
