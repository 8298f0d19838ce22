-- What becomes of a client's pages where one comes into use, and where the cache is full.
use Rattle.std.specs.Prelude.{◌≡◌, ◌≢◌, ◌⊎◌, ℕ, false, nat_eq, List, ◌∷◌, length, Option, Some, None}
use Rattle.std.specs.Map.{remove_entry}
use Rattle.ostore_base.specs.declared.numbers.PageNo.{PageNo}
use Rattle.ostore_client_cache.specs.declared.entries.CachedPage.{CachedPage}
use Rattle.ostore_client_cache.specs.Caches.{fresh, surplus, used_pages, without_one}
use Rattle.ostore_client_cache.specs.Entries.{is_in_use}
use Rattle.ostore_client_core.specs.declared.fault.AttemptFault.{AttemptFault}
use Rattle.ostore_client_core.specs.declared.fault.AttemptFault.TheVariants.{Busy, NoSpace, CacheFull, SpaceFull, Commit, OutOfMemory}
use Rattle.ostore_client_core.specs.Clients.{ClientView, entry_of, is_page_used}
use Rattle.ostore_client_core.specs.Calls.{one_more}

-- ---- a full cache

-- as many pages are in use as there may be, and one more is needed: this one, which isn't in use
pub record NeedsOneMore (client : ClientView) (page : ℕ) : Type 0 where
  pub unused : is_in_use (entry_of client page) ≡ false
  pub full : length (used_pages client.pages) ≡ client.most

-- the fault that comes then
abbrev pub cache_full : ClientView → AttemptFault
cache_full client = CacheFull client.most client.most

-- ---- a page that comes into use

-- the page that makes way for one more, where there would be too many: the one that was used least recently
abbrev pub making_way : ClientView → ℕ → Option PageNo
making_way client page = surplus ((page, fresh) ∷ client.pages) client.most

-- the other pages that stay: all of them, but for the one that makes way where the client hadn't this page
abbrev pub staying : Option CachedPage → ClientView → ℕ → List (ℕ × CachedPage)
staying None client page = without_one (making_way client page) client.pages
staying (Some entry) client page = remove_entry (nat_eq page) client.pages

-- a page that the client hadn't was fetched; one that was retained may have been
abbrev pub Counts : Option CachedPage → ClientView → ClientView → Type 0
Counts None old new = new.fetches ≡ one_more old.fetches
Counts (Some entry) old new = (new.fetches ≡ old.fetches) ⊎ (new.fetches ≡ one_more old.fetches)

-- the page came into use, as the most recently used one
pub record ComesFirst (old new : ClientView) (page : ℕ) : Type 0 where
  pub entry : CachedPage
  pub pages : new.pages ≡ (page, entry) ∷ staying (entry_of old page) old page
  pub counts : Counts (entry_of old page) old new

-- a page that was in use already is so still, and nothing is otherwise
pub record Arrives (old new : ClientView) (page : ℕ) : Type 0 where
  pub there : is_page_used old page → new ≡ old
  pub first : is_in_use (entry_of old page) ≡ false → ComesFirst old new page

-- where there was no frame, the pages are those that stay after an Ok; every other fault leaves the client as it was
abbrev pub LeavesOthers : AttemptFault → ClientView → ClientView → ℕ → Type 0
LeavesOthers (SpaceFull frames) old new page = new.pages ≡ staying (entry_of old page) old page
LeavesOthers (Busy busy) old new page = Unit {0}
LeavesOthers (NoSpace segment need) old new page = Unit {0}
LeavesOthers (CacheFull used capacity) old new page = Unit {0}
LeavesOthers (Commit fault) old new page = Unit {0}
LeavesOthers OutOfMemory old new page = Unit {0}

-- another page, which doesn't make way for this one
pub record StaysBeside (client : ClientView) (page other : ℕ) : Type 0 where
  pub apart : other ≢ page
  pub stays : entry_of client page ≡ None → making_way client page ≢ Some (record { 0 = other })
