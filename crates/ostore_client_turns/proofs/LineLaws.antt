-- A line that was executed at a client's service.
use Rattle.std.proofs.Common.{◌≡◌, ℕ, Result, Ok, Err, subst}
use Rattle.std.specs.Prelude.{IfOk, IfErr}
use Rattle.std.specs.Borrow.{GName}
use Rattle.ostore_page_service.specs.declared.kind.Kind as kind
use Rattle.ostore_page_service.specs.declared.server.SeqServer.{SeqServer}
use Rattle.ostore_page_service.specs.Servers.{first_of, opened_of, told_of, Serves}
use Rattle.ostore_page_service.specs.Told.{Told}
use Rattle.ostore_graph_model.specs.declared.commands.Script.{Script}
use Rattle.ostore_graph_model.specs.declared.commands.Txn.{Txn}
use Rattle.ostore_graph_model.specs.declared.history.Entry.{Entry}
use Rattle.ostore_client_core.specs.declared.fault.AttemptFault.{AttemptFault}
use Rattle.ostore_client_core.specs.Clients.{ClientView, IsOwn}
use Rattle.ostore_client_core.specs.Calls.{SameClient}
use Rattle.ostore_transactions.specs.declared.attempt.Attempt.{Attempt}
use Rattle.ostore_transactions.specs.declared.line.Line.{Line}
use Rattle.ostore_transactions.specs.Attempts.{IsAt, line_at}
use Rattle.ostore_transactions.specs.Lines.{HasFailed, IsLine}
use Rattle.ostore_client_turns.specs.inside.AtServer.{ExecutesAt}
use Rattle.ostore_client_turns.specs.inside.Stores.{SeatView}
use Rattle.ostore_client_turns.specs.inside.Turning.{Executes, GivesLine}
use Rattle.ostore_client_turns.proofs.TurnLaws.{service_same}

pub gives_line : (serves later : Script → Type 0) (told now : Told Entry) (old new : ClientView) (txn : Txn) (before : ℕ) (after : Attempt) (ordinal : ℕ) (result : Result Line AttemptFault)
    → IfOk result (IsLine serves later told now old new txn before after ordinal) → IfErr result (HasFailed serves later told now old new txn before after)
    → GivesLine serves later told now old new txn before after ordinal result
gives_line serves later told now old new txn before after ordinal (Ok line) ok err = ok
gives_line serves later told now old new txn before after ordinal (Err fault) ok err = err

module _ {K D : Type 0} {g : kind.Ghosts K Entry Script} (disk_faults : D → ℕ) (server after : SeqServer K D Entry Script g) (behind name : GName) (number then : ℕ)
    (txn : Txn) (ordinal : ℕ) (old new : SeatView) (result : Result Line AttemptFault)
    (gives : GivesLine (Serves server) (Serves after) (told_of behind disk_faults number server) (told_of name disk_faults then after) old.client new.client txn (line_at old.attempt) new.attempt ordinal result) where
  pub name_kept : name ≡ behind
  name_kept = (service_same (Serves server) (Serves after) (told_of behind disk_faults number server) (told_of name disk_faults then after) old.client new.client txn (line_at old.attempt) new.attempt ordinal result gives).behind

  pub first_kept : first_of after ≡ first_of server
  first_kept = (service_same (Serves server) (Serves after) (told_of behind disk_faults number server) (told_of name disk_faults then after) old.client new.client txn (line_at old.attempt) new.attempt ordinal result gives).first

  pub opened_kept : opened_of after ≡ opened_of server
  opened_kept = (service_same (Serves server) (Serves after) (told_of behind disk_faults number server) (told_of name disk_faults then after) old.client new.client txn (line_at old.attempt) new.attempt ordinal result gives).opened

  client_kept : then ≡ number
  client_kept = (service_same (Serves server) (Serves after) (told_of behind disk_faults number server) (told_of name disk_faults then after) old.client new.client txn (line_at old.attempt) new.attempt ordinal result gives).client

  pub executed_there : IsOwn (Serves after) (told_of name disk_faults then after) new.client → IsAt (Serves after) (told_of name disk_faults then after) new.client txn new.attempt → SameClient old.client new.client
      → ExecutesAt disk_faults server after number txn ordinal old new result
  executed_there own at client =
      let all : Executes (Serves server) (Serves after) (told_of behind disk_faults number server) (told_of name disk_faults then after) txn ordinal old.client new.client old.attempt new.attempt result =
      record { gives = gives; own = own; at = at; client = client } in (
        behind,
        subst (λ (n : ℕ). Executes (Serves server) (Serves after) (told_of behind disk_faults number server) (told_of behind disk_faults n after) txn ordinal old.client new.client old.attempt new.attempt result) client_kept
            (subst (λ (b : GName). Executes (Serves server) (Serves after) (told_of behind disk_faults number server) (told_of b disk_faults then after) txn ordinal old.client new.client old.attempt new.attempt result) name_kept all),
      )
