-- What a cache keeps beside its entries.
use Rattle.std.specs.Prelude.{◌≡◌, ◌≤◌, ℕ, ◌+◌, length}
use Rattle.lru.specs.LruCache.{LruCache}
use Rattle.ostore_base.specs.Limits.{most_pages}
use Rattle.ostore_client_cache.specs.declared.entries.CachedPage.{CachedPage}
use Rattle.ostore_client_cache.specs.Caches.{used_pages}

-- there is room for one page more than there may be, and the pages in use are counted
pub record IsCache (cache : LruCache ℕ CachedPage) (used most : ℕ) : Type 0 where
  pub room : cache.cap ≡ most + 1
  pub few : most ≤ most_pages
  pub short : length cache.entries ≤ most + 1
  pub counted : used ≡ length (used_pages cache.entries)
