-- The free list and the chains of the segments' pages, by the headers of the pages: `header` gives the header of
-- a page, and `first` the first page of a segment, 0 for none. n is the number of pages.
use Rattle.std.specs.Prelude.{◌≡◌, ◌≢◌, ℕ, ◌<◌, ◌≤◌, ◌⊎◌, List, [], ◌∷◌}
use Rattle.std.specs.List.{All, AllPairs, Contains}
use Rattle.ostore_page_tags.specs.declared.layout.TheConstants.{FREE_KIND, OBJECTS_KIND, FRONT_PAGE, ROOTS_PAGE, FIRST_OPEN_PAGE}
use Rattle.ostore_page_tags.specs.declared.page_header.PageHeader.{PageHeader}
use Rattle.ostore_page_tags.specs.Limits.{most_segments}

-- from a page on, these are the pages that the `next` fields lead to, up to a 0
abbrev pub IsWalk : (ℕ → PageHeader) → ℕ → List ℕ → Type 0
IsWalk header from [] = from ≡ 0
IsWalk header from (page ∷ pages) = (from ≡ page) × IsWalk header (header page).next pages

-- the last of the pages, 0 where there is none
abbrev pub last_of : List ℕ → ℕ
last_of [] = 0
last_of (page ∷ []) = page
last_of (page ∷ next ∷ pages) = last_of (next ∷ pages)

abbrev pub IsSegment : ℕ → Type 0
IsSegment segment = (1 ≤ segment) × (segment ≤ most_segments)

-- a page that is free or belongs to a segment
abbrev pub IsOpen : ℕ → ℕ → Type 0
IsOpen n page = (FIRST_OPEN_PAGE ≤ page) × (page < n)

-- a page with a header: the pages of the schema's text have none
abbrev pub HasHeader : ℕ → ℕ → Type 0
HasHeader n page = (page ≡ FRONT_PAGE) ⊎ ((ROOTS_PAGE ≤ page) × (page < n))

-- the page is no segment's first one
abbrev pub IsNoFirst : (ℕ → ℕ) → ℕ → Type 0
IsNoFirst first page = (segment : ℕ) → IsSegment segment → first segment ≡ page → page ≡ 0

-- the free pages in order
pub record IsFreeList (n : ℕ) (header : ℕ → PageHeader) (free : List ℕ) : Type 0 where
  pub walk : IsWalk header (header FRONT_PAGE).next free
  pub pages : All (IsOpen n) free
  pub kinds : All (λ page. (header page).kind ≡ FREE_KIND) free
  pub once : AllPairs (λ page later. page ≢ later) free

-- the pages of a segment in order, of which the first one names the last one
pub record IsChain (n : ℕ) (header : ℕ → PageHeader) (first segment : ℕ) (chain : List ℕ) : Type 0 where
  pub walk : IsWalk header first chain
  pub pages : All (IsOpen n) chain
  pub kinds : All (λ page. (header page).kind ≡ OBJECTS_KIND) chain
  pub owner : All (λ page. (header page).segment ≡ segment) chain
  pub once : AllPairs (λ page later. page ≢ later) chain
  pub last : (header first).last_page ≡ last_of chain

-- a page is in the free list or in the chain of a segment
abbrev pub IsReached : List ℕ → (ℕ → List ℕ) → ℕ → Type 0
IsReached free chain page =
    Contains free page ⊎ ((segment : ℕ) × IsSegment segment × Contains (chain segment) page)

-- rule 6: the lists are the free list and the segments' chains; every open page is in one of them; and only
-- the first page of a segment has a last page and a last serial
pub record AreChained (n : ℕ) (header : ℕ → PageHeader) (first : ℕ → ℕ) (free : List ℕ) (chain : ℕ → List ℕ)
    : Type 0 where
  pub free_list : IsFreeList n header free
  pub chains : (segment : ℕ) → IsSegment segment
      → IsChain n header (first segment) segment (chain segment)
  pub reached : (page : ℕ) → IsOpen n page → IsReached free chain page
  pub last_pages : (page : ℕ) → HasHeader n page → IsNoFirst first page → (header page).last_page ≡ 0
  pub counters : (page : ℕ) → HasHeader n page → IsNoFirst first page → (header page).last_serial ≡ 0
