-- A client's cache.
use Rattle.std.specs.Prelude.{ℕ, nat_eq, nat_le, if◌then◌else◌, List, length, replicate, Option, Some, None}
use Rattle.std.specs.Option.{option_map}
use Rattle.std.specs.Map.{remove_entry}
use Rattle.lru.specs.LruCache.{last_entry}
use Rattle.ostore_base.specs.declared.numbers.PageNo.{PageNo}
use Rattle.std.specs.List.{filter}
use Rattle.ostore_client_cache.specs.declared.entries.CachedPage.{CachedPage}
use Rattle.ostore_client_cache.specs.declared.entries.Hold.TheVariants.{Retained}
use Rattle.ostore_client_cache.specs.Entries.{is_used}

-- the pages, the one that was used last first, and how many there may be
pub record Cached : Type 0 where
  pub pages : List (ℕ × CachedPage)
  pub most : ℕ

abbrev pub cached : List (ℕ × CachedPage) → ℕ → Cached
cached pages most = record { pages = pages; most = most }

-- those of them that are in use
abbrev pub used_pages : List (ℕ × CachedPage) → List (ℕ × CachedPage)
used_pages pages = filter (λ page. is_used page.1.hold) pages

-- the page that was used least recently
abbrev pub oldest : List (ℕ × CachedPage) → Option PageNo
oldest pages = option_map (λ page. record { 0 = page.0 }) (last_entry pages)

-- that page, where there are more than there may be
abbrev pub surplus : List (ℕ × CachedPage) → ℕ → Option PageNo
surplus pages most = if nat_le (length pages) most then None else oldest pages

abbrev pub without_one : Option PageNo → List (ℕ × CachedPage) → List (ℕ × CachedPage)
without_one None pages = pages
without_one (Some page) pages = remove_entry (nat_eq page.0) pages

-- a page that has no bytes yet
unfoldable pub fresh : CachedPage
fresh = record { image = record { bytes = replicate 4096 0 }; hold = Retained }
