-- A line of a client, as a turn.
use Rattle.std.specs.Prelude.{◌≡◌, ◌+◌, ℕ, Result, Ok, Err, Option, Some}
use Rattle.std.specs.Option.{option_map}
use Rattle.std.specs.List.{AllByRecursion}
use Rattle.ostore_schema_layout.specs.declared.schema.Schema.{Schema}
use Rattle.ostore_schema_layout.specs.Lawful.{IsLawful}
use Rattle.ostore_page_service.specs.Told.{Told}
use Rattle.ostore_graph_model.specs.declared.commands.Script.{Script}
use Rattle.ostore_graph_model.specs.declared.commands.Txn.{Txn}
use Rattle.ostore_graph_model.specs.declared.history.Entry.{Entry}
use Rattle.ostore_object_ops.specs.Suits.{IsOfInts, IsBuilt}
use Rattle.ostore_client_core.specs.declared.fault.AttemptFault.{AttemptFault}
use Rattle.ostore_client_core.specs.Clients.{ClientView, IsOwn}
use Rattle.ostore_client_core.specs.Calls.{SameClient}
use Rattle.ostore_transactions.specs.declared.attempt.Attempt.{Attempt}
use Rattle.ostore_transactions.specs.declared.line.Line.{Line}
use Rattle.ostore_transactions.specs.declared.line.Line.TheVariants as lines
use Rattle.ostore_transactions.specs.Attempts.{line_at, HasTxn, IsAt}
use Rattle.ostore_transactions.specs.Lines.{HasFailed, IsLine}
use Rattle.ostore_turns.specs.declared.attempts.Gave.{Gave}
use Rattle.ostore_turns.specs.declared.attempts.Gave.TheVariants.{Going, Committed, Aborted, Failed}
use Rattle.ostore_turns.specs.Places.{moved}
use Rattle.ostore_client_turns.specs.Causes.{cause_of}
use Rattle.ostore_client_turns.specs.inside.Stores.{SeatView}

-- what a line gave, and none where it wanted memory
abbrev pub gave_of : Result Line AttemptFault → Option Gave
gave_of (Ok lines.Going) = Some Going
gave_of (Ok (lines.Committed number replies)) = Some (Committed number replies)
gave_of (Ok lines.Aborted) = Some Aborted
gave_of (Err fault) = option_map Failed (cause_of fault)

-- ---- a line

-- the transaction's commands run on pages of the schema
pub record CanRunOn (schema : Schema) (txn : Txn) : Type 0 where
  pub lawful : IsLawful schema
  pub ints : IsOfInts schema
  pub built : AllByRecursion IsBuilt txn.commands

-- the client is at a line of the transaction, which it has with this ordinal
pub record MayExecute (serves : Script → Type 0) (told : Told Entry) (schema : Schema) (txn : Txn) (ordinal : ℕ)
    (client : ClientView) (attempt : Attempt) : Type 0 where
  pub own : IsOwn serves told client
  pub at : IsAt serves told client txn attempt
  pub named : HasTxn serves told client txn ordinal
  pub of_schema : client.schema ≡ schema
  pub runs : CanRunOn schema txn

-- what a line has done that was executed, or failed
abbrev pub GivesLine : (serves later : Script → Type 0) (told now : Told Entry) (old new : ClientView) (txn : Txn)
    (before : ℕ) (after : Attempt) (ordinal : ℕ) → Result Line AttemptFault → Type 0
GivesLine serves later told now old new txn before after ordinal (Ok line) =
    IsLine serves later told now old new txn before after ordinal line
GivesLine serves later told now old new txn before after ordinal (Err fault) =
    HasFailed serves later told now old new txn before after fault

pub record Executes (serves later : Script → Type 0) (told now : Told Entry) (txn : Txn) (ordinal : ℕ)
    (old new : ClientView) (before after : Attempt) (result : Result Line AttemptFault) : Type 0 where
  pub gives : GivesLine serves later told now old new txn (line_at before) after ordinal result
  pub own : IsOwn later now new
  pub at : IsAt later now new txn after
  pub client : SameClient old new

-- ---- a turn

-- the client's line was executed and gave this, and the client has moved on
pub record TakesTurn (serves later : Script → Type 0) (told now : Told Entry) (tries : ℕ) (txn : Txn) (old new : SeatView)
    (gave : Gave) : Type 0 where
  pub result : Result Line AttemptFault
  pub executes : Executes serves later told now txn (old.place.txn + 1) old.client new.client old.attempt new.attempt result
  pub gives : gave_of result ≡ Some gave
  pub place : new.place ≡ moved tries old.place gave
