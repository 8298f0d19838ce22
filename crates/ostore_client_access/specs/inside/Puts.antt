-- Bytes that are put into a page of a client.
use Rattle.std.specs.Prelude.{◌≡◌, ◌⊎◌, ℕ, true, nat_eq, List, Some}
use Rattle.std.specs.Map.{set_value}
use Rattle.ostore_page_service.specs.Told.{Told}
use Rattle.ostore_graph_model.specs.declared.commands.Script.{Script}
use Rattle.ostore_graph_model.specs.declared.history.Entry.{Entry}
use Rattle.ostore_client_cache.specs.declared.entries.CachedPage.{CachedPage}
use Rattle.ostore_client_cache.specs.Entries.{is_owner, is_owned, with_bytes}
use Rattle.ostore_client_core.specs.Clients.{ClientView, entry_of, with_pages}
use Rattle.ostore_client_core.specs.Attempts.{Narrows}
use Rattle.ostore_client_core.specs.Calls.{BringsPage}

-- each page that is owned was owned before, or is this one
pub record OwnsOne (old new : ClientView) (page : ℕ) : Type 0 where
  pub owns : (other : ℕ) → is_owned (entry_of new other) ≡ true
      → (is_owned (entry_of old other) ≡ true) ⊎ (other ≡ page)

-- the page came into use and was owned, and then bytes were stored into its image
pub record PutsInto (serves later : Script → Type 0) (told now : Told Entry) (old new : ClientView) (page at : ℕ)
    (bytes : List ℕ) : Type 0 where
  pub owned : ClientView
  pub narrows : Narrows serves later told now old owned
  pub brings : BringsPage old owned page
  pub owns : OwnsOne old owned page
  pub entry : CachedPage
  pub there : entry_of owned page ≡ Some entry
  pub owner : is_owner entry.hold ≡ true
  pub client : new ≡ with_pages (set_value (nat_eq page) owned.pages (with_bytes entry at bytes)) owned

-- the client, and what the service tells, are as they were
pub record AreAsBefore (told now : Told Entry) (old new : ClientView) : Type 0 where
  pub client : new ≡ old
  pub service : now ≡ told
