-- A commit: what an attempt writes, and when its entry fits.
use Rattle.std.specs.Prelude.{◌≡◌, ◌<◌, ℕ, true, false, if◌then◌else◌, List, [], ◌∷◌, ◌++◌, Option, Some, None, All}
use Rattle.std.specs.Option.{option_map}
use Rattle.ostore_base.specs.declared.page.PageImage.{PageImage}
use Rattle.ostore_redo_journal.specs.Drafts.{Writes}
use Rattle.ostore_page_service.specs.History.{written}
use Rattle.ostore_page_service.specs.Told.{Told, Numbers, Fails, SameService, NoBusy}
use Rattle.ostore_graph_model.specs.declared.commands.Txn.{Txn}
use Rattle.ostore_graph_model.specs.declared.commands.Script.{Script}
use Rattle.ostore_graph_model.specs.declared.history.Entry.{Entry}
use Rattle.ostore_client_cache.specs.declared.entries.CachedPage.{CachedPage}
use Rattle.ostore_client_cache.specs.Entries.{is_owner, is_owned}
use Rattle.ostore_client_core.specs.declared.fault.AttemptFault.{AttemptFault}
use Rattle.ostore_client_core.specs.declared.fault.AttemptFault.TheVariants.{Busy, NoSpace, CacheFull, SpaceFull, Commit, OutOfMemory}
use Rattle.ostore_client_core.specs.Kinds.{Names, HasReplies, Follows}
use Rattle.ostore_client_core.specs.Clients.{ClientView, entry_of, stored_image}
use Rattle.ostore_client_core.specs.Attempts.{MayBe}

-- what an attempt writes to a page: the stored form of one that it owns
abbrev pub written_by : ClientView → ℕ → Option CachedPage → Option PageImage
written_by client page None = None
written_by client page (Some entry) = if is_owner entry.hold then Some (stored_image client page entry.image) else None

-- the writes are those of the attempt
abbrev pub WritesOwned : ClientView → Writes → Type 0
WritesOwned client writes = (page : ℕ) → written writes page ≡ written_by client page (entry_of client page)

-- The entry fits the pages that the client holds, for this script: whatever list the attempt may have begun on, the
-- replies are the transaction's on it, and the list that the attempt has made of it follows. A read owns no page.
pub record FitsFor (serves : Script → Type 0) (told : Told Entry) (client : ClientView) (script : Script)
    (entry : Entry) : Type 0 where
  pub mine : entry.client.0 ≡ told.client
  pub named : (txn : Txn) × Names script entry txn
  pub rises : All (λ (earlier : Entry × ℕ). earlier.0.ordinal < entry.ordinal) told.mine.records
  pub reads : entry.update ≡ false → (page : ℕ) → is_owned (entry_of client page) ≡ false
  pub right : (base list : List PageImage) → MayBe serves told client base list → HasReplies script entry base
  pub next : entry.update ≡ true → (base list : List PageImage) → MayBe serves told client base list
      → Follows script entry base list

pub record FitsClient (serves : Script → Type 0) (told : Told Entry) (client : ClientView) (entry : Entry)
    : Type 0 where
  pub script : Script
  pub served : serves script
  pub schema : script.schema ≡ client.schema
  pub fits : FitsFor serves told client script entry

-- ---- what a commit leaves

-- The entry was committed with its number: it is the last record, with what the attempt owned written, and nothing
-- else of the service is otherwise.
pub record Finishes (told now : Told Entry) (client : ClientView) (entry : Entry) (number : ℕ) : Type 0 where
  pub service : SameService told now
  pub records : now.mine.records ≡ told.mine.records ++ (entry, number) ∷ []
  pub numbers : Numbers entry.update told now number
  pub calm : NoBusy told now
  pub faults : now.faults ≡ told.faults
  pub disk_faults : now.disk_faults ≡ told.disk_faults
  pub writes : Writes
  pub owned : WritesOwned client writes
  pub told_writes : now.writes ≡ option_map (λ earlier. earlier ++ writes ∷ []) told.writes

-- Why an entry wasn't committed. The client is as it was; only an update meets a fault of the commit.
abbrev pub FailsToCommit : AttemptFault → Told Entry → Told Entry → Entry → Type 0
FailsToCommit (Commit fault) told now entry = (entry.update ≡ true) × Fails told now fault
FailsToCommit OutOfMemory told now entry = now ≡ told
FailsToCommit (Busy busy) told now entry = ⊥
FailsToCommit (NoSpace segment need) told now entry = ⊥
FailsToCommit (CacheFull used capacity) told now entry = ⊥
FailsToCommit (SpaceFull frames) told now entry = ⊥

-- a script for which the entry fits is still served
abbrev pub ServesStill : (Script → Type 0) → (Script → Type 0) → Told Entry → ClientView → Entry → Type 0
ServesStill serves later told client entry =
    (script : Script) → serves script → script.schema ≡ client.schema → FitsFor serves told client script entry
    → later script
