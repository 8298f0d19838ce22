-- What the lines of an attempt leave that went on.
use Rattle.std.specs.Prelude.{◌≡◌, ◌≤◌, ℕ}
use Rattle.ostore_page_service.specs.Told.{Told, SameRecords, StillServes, NoBusy}
use Rattle.ostore_graph_model.specs.declared.commands.Txn.{Txn}
use Rattle.ostore_graph_model.specs.declared.commands.Script.{Script}
use Rattle.ostore_graph_model.specs.declared.history.Entry.{Entry}
use Rattle.ostore_client_core.specs.Clients.{ClientView, IsOwn}
use Rattle.ostore_client_core.specs.Calls.{SameClient}
use Rattle.ostore_transactions.specs.declared.attempt.Attempt.{Attempt}
use Rattle.ostore_transactions.specs.Attempts.{last_line, line_at, IsAt}

-- the service has the records that it had, and met no other client
pub record GoesOn (serves later : Script → Type 0) (told now : Told Entry) (old new : ClientView) : Type 0 where
  pub same : SameRecords told now
  pub served : StillServes serves later
  pub calm : NoBusy told now
  pub client : SameClient old new

-- so many lines went on, and the attempt stands at the next one
pub record HasGone (serves later : Script → Type 0) (told now : Told Entry) (old new : ClientView) (txn : Txn)
    (attempt : Attempt) (lines : ℕ) : Type 0 where
  pub goes : GoesOn serves later told now old new
  pub own : IsOwn later now new
  pub at : IsAt later now new txn attempt
  pub next : line_at attempt ≡ lines
  pub left : lines ≤ last_line txn
