-- Which pages come into view where the cell of a segment is placed.
use Rattle.std.specs.Prelude.{◌≡◌, ◌⊎◌, ℕ, List, ◌∷◌}
use Rattle.std.specs.List.{Contains}
use Rattle.ostore_base.specs.declared.page.PageImage.{PageImage}
use Rattle.ostore_page_tags.specs.declared.layout.TheConstants.{FRONT_PAGE}
use Rattle.ostore_page_tags.specs.Allocated.{HasFree, HasChain}

-- a page of the segment's chain
pub record IsPageOf (list : List PageImage) (segment page : ℕ) : Type 0 where
  pub chain : List ℕ
  pub has : HasChain list segment chain
  pub there : Contains chain page

-- page 0, or a page of the segment
abbrev pub IsNamedIn : List PageImage → ℕ → ℕ → Type 0
IsNamedIn list segment page = (page ≡ FRONT_PAGE) ⊎ IsPageOf list segment page

-- the head of the free list
abbrev pub IsFirstFree : List PageImage → ℕ → Type 0
IsFirstFree list page = (rest : List ℕ) × HasFree list (page ∷ rest)

-- page 0, a page of the segment, or the head of the free list, which the segment was to get
abbrev pub IsWantedIn : List PageImage → ℕ → ℕ → Type 0
IsWantedIn list segment page = IsNamedIn list segment page ⊎ IsFirstFree list page
