-- Clients at a server, by whatever reference it is reached.
use Rattle.std.specs.Prelude.{◌≡◌, ◌≤◌, ℕ, List, length, Option, Some, None, Result}
use Rattle.std.specs.List.{slice_get}
use Rattle.std.specs.Borrow.{GName}
use Rattle.ostore_schema_layout.specs.declared.schema.Schema.{Schema}
use Rattle.ostore_page_service.specs.declared.kind.Kind as kind
use Rattle.ostore_page_service.specs.declared.server.SeqServer.{SeqServer}
use Rattle.ostore_page_service.specs.Servers.{journal_of, told_of, Serves}
use Rattle.ostore_graph_model.specs.declared.commands.Script.{Script}
use Rattle.ostore_graph_model.specs.declared.commands.Txn.{Txn}
use Rattle.ostore_graph_model.specs.declared.history.Entry.{Entry}
use Rattle.ostore_job_text.specs.declared.job.Job.{Job}
use Rattle.ostore_job_text.specs.declared.job.JobClient.{JobClient}
use Rattle.ostore_client_core.specs.declared.fault.AttemptFault.{AttemptFault}
use Rattle.ostore_client_core.specs.Clients.{ClientView, IsOwn}
use Rattle.ostore_transactions.specs.declared.line.Line.{Line}
use Rattle.ostore_turns.specs.declared.attempts.Gave.{Gave}
use Rattle.ostore_turns.specs.Places.{Moment}
use Rattle.ostore_client_turns.specs.inside.Stores.{IsFreshSeat, IsReady, SeatView, moment_in}
use Rattle.ostore_client_turns.specs.inside.Turning.{Executes, MayExecute, TakesTurn}

module _ {K D : Type 0} {g : kind.Ghosts K Entry Script} (disk_faults : D → ℕ) (server : SeqServer K D Entry Script g) where
  abbrev pub IsOwnAt : ℕ → ClientView → Type 0
  IsOwnAt number client = (behind : GName) → IsOwn (Serves server) (told_of behind disk_faults number server) client

  abbrev pub IsFreshAt : ℕ → Schema → JobClient → SeatView → Type 0
  IsFreshAt number schema client seat =
      (behind : GName) → IsFreshSeat (Serves server) (told_of behind disk_faults number server) schema client seat

  -- each client has its seat, and no other number has one
  pub record AreAllFreshAt (schema : Schema) (clients : List JobClient) (seats : ℕ → Option SeatView) : Type 0 where
    pub each : (number : ℕ) (client : JobClient) → slice_get clients number ≡ Some client
        → (seat : SeatView) × (seats number ≡ Some seat) × IsFreshAt number schema client seat
    pub none : (number : ℕ) → length clients ≤ number → seats number ≡ None

  abbrev pub MayExecuteAt : ℕ → Schema → Txn → ℕ → SeatView → Type 0
  MayExecuteAt number schema txn ordinal seat =
      (behind : GName) → MayExecute (Serves server) (told_of behind disk_faults number server) schema txn ordinal seat.client seat.attempt

  abbrev pub IsReadyAt : Schema → Job → (ℕ → Option SeatView) → Type 0
  IsReadyAt schema job seats =
      (behind : GName) → IsReady (Serves server) (λ number. told_of behind disk_faults number server) schema job seats

  abbrev pub moment_at : GName → (ℕ → Option SeatView) → Moment
  moment_at behind seats = moment_in (λ number. told_of behind disk_faults number server) (journal_of server).number seats

  module _ (after : SeqServer K D Entry Script g) where
    abbrev pub ExecutesAt : ℕ → Txn → ℕ → SeatView → SeatView → Result Line AttemptFault → Type 0
    ExecutesAt number txn ordinal old new result =
        (behind : GName) × Executes (Serves server) (Serves after) (told_of behind disk_faults number server)
        (told_of behind disk_faults number after) txn ordinal old.client new.client old.attempt new.attempt result

    abbrev pub TakesTurnAt : ℕ → ℕ → Txn → SeatView → SeatView → Gave → Type 0
    TakesTurnAt number tries txn old new gave =
        (behind : GName) × TakesTurn (Serves server) (Serves after) (told_of behind disk_faults number server)
        (told_of behind disk_faults number after) tries txn old new gave
