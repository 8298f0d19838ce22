-- What calls for other clients leave of an attempt: they change nothing that its service holds for its client, but that some
-- of the copies which it keeps may be gone.
use Rattle.std.proofs.Common.{ℕ, ◌<◌, Option, None, Some, sym, subst}
use Rattle.ostore_page_service.specs.Told.{Told}
use Rattle.ostore_graph_model.specs.declared.commands.Txn.{Txn}
use Rattle.ostore_graph_model.specs.declared.commands.Script.{Script}
use Rattle.ostore_graph_model.specs.declared.history.Entry.{Entry}
use Rattle.ostore_client_core.specs.Clients.{ClientView}
use Rattle.ostore_client_core.proofs.StayLaws.{Stays, ServesOne, stays_running, stood_before}
use Rattle.ostore_client_access.specs.Attempts.{HasRunLines}
use Rattle.ostore_object_ops.specs.declared.progress.Progress.{Progress}
use Rattle.ostore_transactions.specs.Attempts.{IsWith}

lines_still : (serves later : Script → Type 0) (told now : Told Entry) (client : ClientView) (txn : Txn) (progress : Progress) → Stays told now → ServesOne later client.schema → HasRunLines serves told client txn progress
    → HasRunLines later now client txn progress
lines_still serves later told now client txn progress stays one lines = record {
  runs = stays_running serves later told now client stays one lines.runs;
  ran = λ base list may. lines.ran base list (stood_before serves later told now client stays one lines.runs base list may);
  reads = lines.reads;
  sees = λ base list may. lines.sees base list (stood_before serves later told now client stays one lines.runs base list may);
}

-- an attempt that has begun, or that hasn't, is where it was
pub stays_with : (serves later : Script → Type 0) (told now : Told Entry) (client : ClientView) (txn : Txn) (progress : Option Progress) → Stays told now → ServesOne later client.schema → IsWith serves told client txn progress
    → IsWith later now client txn progress
stays_with serves later told now client txn None stays one idle = idle
stays_with serves later told now client txn (Some progress) stays one along = record {
  lines = lines_still serves later told now client txn progress stays one along.lines;
  first = along.first;
  room = subst (λ (n : ℕ). 0 < n) (sym stays.mine.room) along.room;
}
