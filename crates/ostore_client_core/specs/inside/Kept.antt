-- What a client keeps of its pages in use.
use Rattle.std.specs.Prelude.{◌≡◌, ◌≤◌, ◌↔◌, ℕ, true, nat_eq, List, length}
use Rattle.std.specs.List.{Contains, IsDistinct}
use Rattle.std.specs.Map.{lookup}
use Rattle.ostore_base.specs.declared.numbers.PageNo.{PageNo}
use Rattle.ostore_schema_layout.specs.declared.schema.Schema.{Schema}
use Rattle.ostore_schema_layout.specs.Lawful.{IsLawful}
use Rattle.ostore_client_cache.specs.declared.entries.CachedPage.{CachedPage}
use Rattle.ostore_client_cache.specs.Entries.{is_in_use}
use Rattle.ostore_client_cache.specs.Caches.{used_pages}
use Rattle.ostore_client_cache.specs.Releases.{numbers_of}

-- these are the pages in use
pub record AreListed (pages : List (ℕ × CachedPage)) (used : List PageNo) : Type 0 where
  pub all : (page : ℕ) → Contains (numbers_of used) page ↔ (is_in_use (lookup (nat_eq page) pages) ≡ true)
  pub differ : IsDistinct nat_eq (numbers_of used)
  pub count : length used ≡ length (used_pages pages)

-- the schema is lawful, the pages in use are listed, and there is room to list as many as there may be
pub record IsClient (schema : Schema) (pages : List (ℕ × CachedPage)) (used : List PageNo) (room most : ℕ) : Type 0 where
  pub lawful : IsLawful schema
  pub listed : AreListed pages used
  pub spare : most ≤ room
