-- Where an attempt at a transaction is: before its first line, or behind one of its lines.
use Rattle.std.specs.Prelude.{◌≡◌, ◌+◌, ◌<◌, ℕ, List, [], length, Option, Some, None, All}
use Rattle.ostore_page_service.specs.Told.{Told}
use Rattle.ostore_graph_model.specs.declared.values.Reply.{Reply}
use Rattle.ostore_graph_model.specs.declared.commands.Txn.{Txn}
use Rattle.ostore_graph_model.specs.declared.commands.Script.{Script}
use Rattle.ostore_graph_model.specs.declared.history.Entry.{Entry}
use Rattle.ostore_graph_model.specs.History.{txn_at}
use Rattle.ostore_client_core.specs.Clients.{ClientView, IsIdle}
use Rattle.ostore_client_access.specs.Attempts.{HasRunLines}
use Rattle.ostore_object_ops.specs.declared.progress.Progress.{Progress}
use Rattle.ostore_object_ops.specs.Progresses.{replies_of}
use Rattle.ostore_transactions.specs.declared.attempt.Attempt.{Attempt}

-- ---- the transaction

-- A script that is served has the client's schema, and this transaction as the client's with this ordinal, which is above
-- those of the client's records.
pub record HasTxn (serves : Script → Type 0) (told : Told Entry) (client : ClientView) (txn : Txn) (ordinal : ℕ)
    : Type 0 where
  pub script : Script
  pub served : serves script
  pub schema : script.schema ≡ client.schema
  pub named : txn_at script told.client ordinal ≡ Some txn
  pub rises : All (λ (earlier : Entry × ℕ). earlier.0.ordinal < ordinal) told.mine.records

-- ---- its lines, counted from 0: one that begins it, its commands, and one that ends it

abbrev pub last_line : Txn → ℕ
last_line txn = length txn.commands + 1

-- the line that is executed next
abbrev pub line_in : Option Progress → ℕ
line_in None = 0
line_in (Some progress) = length (replies_of progress) + 1

abbrev pub line_at : Attempt → ℕ
line_at attempt = line_in attempt.progress

-- the replies so far
abbrev pub replies_in : Option Progress → List Reply
replies_in None = []
replies_in (Some progress) = replies_of progress

-- ---- how far it has come

-- An attempt has begun, and those of its lines that have a reply have run; before the first command no page is in use.
-- There is room for its entry.
pub record IsAlong (serves : Script → Type 0) (told : Told Entry) (client : ClientView) (txn : Txn) (progress : Progress)
    : Type 0 where
  pub lines : HasRunLines serves told client txn progress
  pub first : replies_of progress ≡ [] → IsIdle client
  pub room : 0 < told.mine.room

abbrev pub IsWith : (Script → Type 0) → Told Entry → ClientView → Txn → Option Progress → Type 0
IsWith serves told client txn None = IsIdle client
IsWith serves told client txn (Some progress) = IsAlong serves told client txn progress

-- before its first line an attempt hasn't begun, and no page is in use; from then on it is along
abbrev pub IsAt : (Script → Type 0) → Told Entry → ClientView → Txn → Attempt → Type 0
IsAt serves told client txn attempt = IsWith serves told client txn attempt.progress

-- it has ended, or hasn't begun
pub record IsOver (client : ClientView) (attempt : Attempt) : Type 0 where
  pub idle : IsIdle client
  pub first : attempt.progress ≡ None
