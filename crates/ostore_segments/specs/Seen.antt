-- Images as their holder sees them: where a pointer stands, it may be a resident one.
use Rattle.std.specs.Prelude.{◌≡◌, ℕ, ◌<◌, List, length, slice_index_or, Option, Some}
use Rattle.std.specs.List.{AllByRecursion}
use Rattle.ostore_base.specs.declared.page.PageImage.{PageImage}
use Rattle.ostore_page_tags.specs.Numbers.{number_at}
use Rattle.ostore_page_tags.specs.PageLists.{bytes_at}
use Rattle.ostore_page_tags.specs.PagePointers.{IsOutside, page_pointers}
use Rattle.ostore_segments.specs.Holdings.{PagesTold, PagesHeld}

-- the image is the page of the list, but for its pointers, and each of those leads to where the page's leads
pub record IsSeenAs (pointers : ℕ → List ℕ) (home : ℕ → Option ℕ) (page : ℕ) (image held : List ℕ)
    : Type 0 where
  pub long : length image ≡ length held
  pub same : (k : ℕ) → AllByRecursion (IsOutside k) (page_pointers pointers page held)
      → slice_index_or image k 0 ≡ slice_index_or held k 0
  pub leads : AllByRecursion (λ at. home (number_at 4 at image) ≡ Some (number_at 4 at held))
      (page_pointers pointers page held)

-- an image shows a page of each list for which the holder may stand
abbrev pub Shows : PagesTold → PagesHeld → ℕ → List ℕ → Type 0
Shows told holding page image =
    (begun list : List PageImage) → holding.may_be begun list → page < length list
    → IsSeenAs told.pointers holding.home page image (bytes_at list page)
