-- What becomes of a client's pages, and of the copies that the service keeps of them, where an attempt ends.
use Rattle.std.specs.Prelude.{◌≡◌, ℕ, false, [], length}
use Rattle.ostore_address_space.specs.Frames.{free_frames}
use Rattle.ostore_page_service.specs.declared.answers.Released.{Released}
use Rattle.ostore_page_service.specs.Told.{Told}
use Rattle.ostore_graph_model.specs.declared.commands.Txn.{Txn}
use Rattle.ostore_graph_model.specs.declared.history.Entry.{Entry}
use Rattle.ostore_client_cache.specs.Caches.{used_pages}
use Rattle.ostore_client_cache.specs.Entries.{is_in_use}
use Rattle.ostore_client_core.specs.declared.fault.AttemptFault.{AttemptFault}
use Rattle.ostore_client_core.specs.declared.fault.AttemptFault.TheVariants.{Busy, NoSpace, CacheFull, SpaceFull, Commit, OutOfMemory}
use Rattle.ostore_client_core.specs.declared.release.Ending.{Ending}
use Rattle.ostore_client_core.specs.declared.release.Ending.TheVariants as endings
use Rattle.ostore_client_core.specs.Clients.{ClientView, entry_of, is_page_used}
use Rattle.ostore_client_core.specs.Calls.{Releases, SameClient, is_void}
use Rattle.ostore_client_core.specs.Retaining.{IsReleased, KeepsCopies}
use Rattle.ostore_transactions.specs.declared.line.Line.{Line}
use Rattle.ostore_transactions.specs.declared.line.Line.TheVariants.{Going, Committed, Aborted}
use Rattle.ostore_transactions.specs.Causes.{IsCommandLine}

-- of the pages that weren't in use the service keeps what it kept
abbrev pub KeepsOthers : Told Entry → Told Entry → ClientView → Type 0
KeepsOthers told now client = KeepsCopies (λ page. is_in_use (entry_of client page) ≡ false) told.mine now.mine

-- The client as it was when a fault came: where the cache was full, it had so many pages in use; where the frames were, none
-- of its frames was free.
abbrev pub IsMetBy : AttemptFault → ClientView → Type 0
IsMetBy (CacheFull used capacity) met = used ≡ length (used_pages met.pages)
IsMetBy (SpaceFull frames) met = free_frames met.frames.pages ≡ []
IsMetBy (Busy busy) met = Unit {0}
IsMetBy (NoSpace segment need) met = Unit {0}
IsMetBy (Commit fault) met = Unit {0}
IsMetBy OutOfMemory met = Unit {0}

module _ {T : Type 0} (releases : T → ℕ → Released → T → Type 0) (told now : Told Entry) (old : ClientView) where
  -- Of each page that was in use the service keeps the client's copy exactly where it answered to the page's release that
  -- it may be kept, and the copy isn't void; and of every other page what it kept.
  pub record Retains (ending : Ending) : Type 0 where
    pub answered : (page : ℕ) → is_page_used old page
        → IsReleased releases (is_void ending (entry_of old page)) now.mine page
    pub others : KeepsOthers told now old

  -- a line that ended the attempt gave up no copy of its own accord
  abbrev pub RetainsBy : Line → Type 0
  RetainsBy Going = Unit {0}
  RetainsBy (Committed number replies) = Retains endings.Committed
  RetainsBy Aborted = Retains endings.Aborted

  -- A line failed: from the client as it was when the fault came, all pages in use were given back, those that it owned void,
  -- and each copy was kept exactly where the service allows it. Only a command's line changes the client before it fails, or
  -- gives up a copy of another page.
  pub record WasAborted (new : ClientView) (txn : Txn) (line : ℕ) (fault : AttemptFault) : Type 0 where
    pub met : ClientView
    pub same : SameClient old met
    pub is : IsMetBy fault met
    pub others : (IsCommandLine txn line → ⊥) → (met ≡ old) × KeepsOthers told now old
    pub released : Releases endings.Aborted met new now.mine
    pub answered : (page : ℕ) → is_page_used met page
        → IsReleased releases (is_void endings.Aborted (entry_of met page)) now.mine page
