-- What a run gives.
use Rattle.std.proofs.Common.{◌≡◌, ◌<◌, ◌≤◌, ℕ, Bool, true, false, cond, List, [], length, map, Option, Result, Ok, Err, refl, sym, ap, subst, ◌∙◌, arith}
use Rattle.std.specs.Prelude.{IfOk}
use Rattle.std.proofs.lemmas.Bool.{lt-ltb}
use Rattle.std.proofs.lemmas.List.{length-map}
use Rattle.std.proofs.lemmas.Option.{slice_get_within}
use Rattle.ostore_base.specs.Limits.{most_clients}
use Rattle.ostore_base.specs.declared.page.PageImage.{PageImage}
use Rattle.ostore_schema_layout.specs.declared.schema.Schema.{Schema}
use Rattle.ostore_page_service.specs.declared.kind.Kind as kind
use Rattle.ostore_page_service.specs.declared.server.SeqServer.{SeqServer}
use Rattle.ostore_page_service.specs.History.{IsServed}
use Rattle.ostore_page_service.specs.Told.{Told}
use Rattle.ostore_graph_model.specs.declared.commands.Script.{Script}
use Rattle.ostore_graph_model.specs.declared.history.Entry.{Entry}
use Rattle.ostore_job_text.specs.declared.job.Job.{Job}
use Rattle.ostore_job_text.specs.declared.job.JobClient.{JobClient}
use Rattle.ostore_run_report.specs.declared.results.Tail.{Tail}
use Rattle.ostore_client_core.specs.Kinds.{graph_meaning}
use Rattle.ostore_turns.specs.declared.running.TurnsRun.{TurnsRun}
use Rattle.ostore_turns.specs.Places.{Moment}
use Rattle.ostore_turns.specs.Runs.{IsFirst, IsRunBy}
use Rattle.ostore_turns.specs.Bounds.{AreBounded}
use Rattle.ostore_turns.specs.RightResults.{ResultsAreRecords}
use Rattle.ostore_graph_history.specs.Histories.{AreResultsOf, LawOfCommittedHistories, committed_entry}
use Rattle.ostore_client_turns.specs.Runs.{IsRunOf, IsTailOf, bounds_of, first_moment, script_of}
use Rattle.ostore_client_turns.specs.inside.AtServer.{IsReadyAt}
use Rattle.ostore_client_turns.specs.inside.Stores.{SeatView, recorded}

is_false : (b : Bool) → (b ≡ true → ⊥) → b ≡ false
is_false true not = absurd (not refl)
is_false false not = refl

recorded_low : (told : ℕ → Told Entry) (client : ℕ) → client < most_clients → map committed_entry (told client).mine.records ≡ recorded told client
recorded_low told client low = sym (ap (λ (b : Bool). cond b (map committed_entry (told client).mine.records) []) (lt-ltb client most_clients low))

module _ (law : LawOfCommittedHistories) (records_law : ResultsAreRecords) (schema : Schema) (job : Job) (first : ℕ) (opened last : List PageImage) (before after : Moment) (ran : TurnsRun) (told : ℕ → Told Entry) where
  pub run_of : length job.clients ≤ most_clients → before ≡ first_moment first → IsRunBy job before after ran → (ran.disk_failed ≡ true → ⊥) → AreBounded (bounds_of (script_of schema job) opened) job.clients ran.results
      → ((client : ℕ) → after.records client ≡ recorded told client) → IsServed graph_meaning (script_of schema job) first opened (λ client. (told client).mine.records) after.commits last
      → (tail : Tail) → IsTailOf after.commits tail → IsRunOf schema job first opened last (record { results = ran.results; tail = tail })
  run_of few begins by sound bounded records served tail tail_of =
      let none : IsFirst (first_moment first) = λ client. (refl, refl) in
      let run_by : IsRunBy job (first_moment first) after (record { results = ran.results; disk_failed = false }) =
      subst (λ (failed : Bool). IsRunBy job (first_moment first) after (record { results = ran.results; disk_failed = failed })) (is_false ran.disk_failed sound)
      (subst (λ (moment : Moment). IsRunBy job moment after ran) begins by) in
      let are = records_law job (first_moment first) after (record { results = ran.results; disk_failed = false }) none run_by in
      let results : AreResultsOf (script_of schema job) (λ client. (told client).mine.records) ran.results = record {
        few = (let same = length-map job.clients (λ (client : JobClient). client.txns) in omega arith);
        of_each = are.of_each ∙ sym (length-map job.clients (λ (client : JobClient). client.txns));
        committed = λ client mine there.
            (let within = slice_get_within ran.results client mine there in
            let all = are.of_each in
            recorded_low told client (omega arith) ∙ sym (records client) ∙ are.committed client mine there);
      } in
      let history = law (script_of schema job) first after.commits opened last (λ client. (told client).mine.records) served ran.results results in
      record {
        after = after;
        turns = run_by;
        history = history.0;
        bounded = bounded;
        number = history.1;
        tail = tail_of;
      }

-- ready, for the schema and the job as they were
pub ready_alone : {K D T E : Type 0} {g : kind.Ghosts K Entry Script} (disk_faults : D → ℕ) (server : SeqServer K D Entry Script g) (seats : ℕ → Option SeatView) (count : ℕ) (result : Result T E) (schema its_schema : Schema)
    (job its_job : Job) → its_schema ≡ schema → its_job ≡ job → IfOk result (λ done. IsReadyAt disk_faults server its_schema its_job seats × (count ≡ length its_job.clients)) → IfOk result (λ done. IsReadyAt disk_faults server schema job seats)
ready_alone disk_faults server seats count (Ok done) schema its_schema job its_job schemas jobs ready =
    subst (λ (s : Schema). IsReadyAt disk_faults server s job seats) schemas (subst (λ (j : Job). IsReadyAt disk_faults server its_schema j seats) jobs ready.0)
ready_alone disk_faults server seats count (Err fault) schema its_schema job its_job schemas jobs ready = tt
