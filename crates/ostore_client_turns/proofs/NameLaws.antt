-- What is said of clients at a server holds by whatever reference it is reached.
use Rattle.std.proofs.Common.{◌≡◌, ℕ, List, Option, refl, subst}
use Rattle.std.specs.Borrow.{GName}
use Rattle.ostore_page_service.specs.declared.kind.Kind as kind
use Rattle.ostore_page_service.specs.declared.server.SeqServer.{SeqServer}
use Rattle.ostore_page_service.specs.Servers.{journal_of, opened_of, told_of, Serves}
use Rattle.ostore_page_service.specs.Told.{Side, Undisturbed}
use Rattle.ostore_base.specs.declared.page.PageImage.{PageImage}
use Rattle.ostore_schema_layout.specs.declared.schema.Schema.{Schema}
use Rattle.ostore_graph_model.specs.declared.commands.Script.{Script}
use Rattle.ostore_graph_model.specs.declared.history.Entry.{Entry}
use Rattle.ostore_job_text.specs.declared.job.Job.{Job}
use Rattle.ostore_client_core.specs.Clients.{ClientView, IsOwn}
use Rattle.ostore_client_turns.specs.Runs.{script_of}
use Rattle.ostore_client_turns.specs.inside.AtServer.{IsOwnAt, IsReadyAt}
use Rattle.ostore_client_turns.specs.inside.Stores.{AreTold, IsReady, SeatView}
use Rattle.ostore_client_core.proofs.StayLaws.{Stays, stays_own}
use Rattle.ostore_client_turns.proofs.StayLaws.{stays_seated, stays_vacant}

undisturbed : (side : Side Entry) → Undisturbed side side
undisturbed side = record {
  held = λ page. refl;
  owned = λ page. refl;
  kept = λ page image kept. kept;
  droppable = λ page. refl;
  records = refl;
  room = refl;
}

module _ {K D : Type 0} {g : kind.Ghosts K Entry Script} (disk_faults : D → ℕ) (server : SeqServer K D Entry Script g) where
  stays : (behind other : GName) (number : ℕ) → Stays (told_of behind disk_faults number server) (told_of other disk_faults number server)
  stays behind other number = record { client = refl; opened = refl; mine = undisturbed (told_of behind disk_faults number server).mine }

  pub own_renamed : (behind : GName) (number : ℕ) (client : ClientView) → IsOwn (Serves server) (told_of behind disk_faults number server) client → IsOwnAt disk_faults server number client
  own_renamed behind number client own other =
      stays_own (Serves server) (Serves server) (told_of behind disk_faults number server) (told_of other disk_faults number server) client (stays behind other number) own.script own

  pub ready_renamed : (behind : GName) (schema : Schema) (job : Job) (seats : ℕ → Option SeatView) → IsReady (Serves server) (λ number. told_of behind disk_faults number server) schema job seats → IsReadyAt disk_faults server schema job seats
  ready_renamed behind schema job seats ready other = record {
    executable = ready.executable;
    served = ready.served;
    seated = record {
      each = λ number client there. (let found = ready.seated.each number client there in (
        found.0,
        found.1,
        stays_seated (Serves server) (Serves server) (told_of behind disk_faults number server) (told_of other disk_faults number server) schema client found.0 (stays behind other number)
            (script_of schema job, ready.served, refl) found.2,
      ));
      vacant = λ number high low. stays_vacant (told_of behind disk_faults number server) (told_of other disk_faults number server) (stays behind other number) (ready.seated.vacant number high low);
    };
  }

  -- what a server tells of all its clients
  pub all_told : (behind : GName) → AreTold (λ number. told_of behind disk_faults number server) (opened_of server) (journal_of server).number
  all_told behind = record {
    client = λ number. refl;
    opens = λ number. refl;
    tells = λ number. refl;
    others = λ number other. refl;
    reached = λ number. refl;
    sound = λ number. refl;
  }

  pub all_told_as : (behind : GName) (opened : List PageImage) → opened_of server ≡ opened → AreTold (λ number. told_of behind disk_faults number server) opened (journal_of server).number
  all_told_as behind opened is = subst (λ (pages : List PageImage). AreTold (λ number. told_of behind disk_faults number server) pages (journal_of server).number) is (all_told behind)
