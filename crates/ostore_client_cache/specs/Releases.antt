-- What becomes of the order of a client's pages when its transaction ends.
use Rattle.std.specs.Prelude.{ℕ, Bool, nat_eq, List, [], ◌∷◌, ◌++◌, map, reverse}
use Rattle.std.specs.List.{filter, flat_map}
use Rattle.std.specs.Map.{remove_entry}
use Rattle.ostore_base.specs.declared.numbers.PageNo.{PageNo}
use Rattle.ostore_client_cache.specs.declared.entries.CachedPage.{CachedPage}
use Rattle.ostore_client_cache.specs.declared.entries.Hold.TheVariants.{Retained}
use Rattle.ostore_client_cache.specs.Entries.{entry_as}

abbrev pub numbers_of : List PageNo → List ℕ
numbers_of pages = map (λ page. page.0) pages

abbrev pub without : List ℕ → List (ℕ × CachedPage) → List (ℕ × CachedPage)
without [] entries = entries
without (page ∷ pages) entries = without pages (remove_entry (nat_eq page) entries)

-- pages were given back: those that are kept are retained and the most recently used ones, the last of
-- them the most recently, and the others are gone
abbrev pub released_all : List (ℕ × CachedPage) → (ℕ → Bool) → List ℕ → List (ℕ × CachedPage)
released_all entries kept pages =
    flat_map (entry_as Retained entries) (reverse (filter kept pages)) ++ without pages entries
