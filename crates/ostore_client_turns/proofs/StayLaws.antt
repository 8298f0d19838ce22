-- What a call for one client leaves of the seats of the others.
use Rattle.std.proofs.Common.{◌<◌, ◌+◌, ℕ, sym, subst, ◌∙◌}
use Rattle.std.specs.Prelude.{All}
use Rattle.ostore_schema_layout.specs.declared.schema.Schema.{Schema}
use Rattle.ostore_page_service.specs.Told.{Told}
use Rattle.ostore_graph_model.specs.declared.commands.Script.{Script}
use Rattle.ostore_graph_model.specs.declared.history.Entry.{Entry}
use Rattle.ostore_job_text.specs.declared.job.JobClient.{JobClient}
use Rattle.ostore_client_core.proofs.StayLaws.{Stays, ServesOne, stays_own}
use Rattle.ostore_transactions.proofs.OtherLaws.{stays_with}
use Rattle.ostore_client_turns.specs.inside.Stores.{IsSeated, IsVacant, SeatView}

pub stays_seated : (serves later : Script → Type 0) (told now : Told Entry) (schema : Schema) (client : JobClient) (seat : SeatView) → Stays told now → ServesOne later schema → IsSeated serves told schema client seat
    → IsSeated later now schema client seat
stays_seated serves later told now schema client seat stays one seated =
    let mine : ServesOne later seat.client.schema = (one.0, one.1, one.2 ∙ sym seated.of_schema) in
    record {
      own = stays_own serves later told now seat.client stays mine seated.own;
      of_schema = seated.of_schema;
      most = seated.most;
      frames = seated.frames;
      line = seated.line;
      at = λ txn there. stays_with serves later told now seat.client txn seat.attempt.progress stays mine (seated.at txn there);
      over = seated.over;
      earlier = subst (All (λ (earlier : Entry × ℕ). earlier.0.ordinal < seat.place.txn + 1)) (sym stays.mine.records) seated.earlier;
    }

pub stays_vacant : (told now : Told Entry) → Stays told now → IsVacant told → IsVacant now
stays_vacant told now stays vacant = record {
  held = λ page. stays.mine.held page ∙ vacant.held page;
  owned = λ page. stays.mine.owned page ∙ vacant.owned page;
}
