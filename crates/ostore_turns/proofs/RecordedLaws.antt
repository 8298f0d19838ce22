-- At the end of a run by turns each client's records are what its results tell.
use Rattle.std.proofs.Common.{◌≡◌, ◌≢◌, ◌+◌, ◌-◌, inl, inr, ℕ, zero, suc, Bool, true, false, cond, List, [], ◌∷◌, ◌++◌, length, replicate, append-nil, append_assoc, refl, sym, ap, ◌∙◌, arith, Option, Some, None}
use Rattle.std.specs.List.{slice_get, cons_option}
use Rattle.std.proofs.lemmas.Bool.{cases_eq, eq-eqb}
use Rattle.std.proofs.lemmas.Bool.Decides.{eqb_tells}
use Rattle.std.proofs.lemmas.Option.{none-some, same_Some}
use Rattle.ostore_graph_model.specs.declared.history.Committed.{Committed as Recorded}
use Rattle.ostore_graph_model.specs.declared.values.Reply.{Reply}
use Rattle.ostore_job_text.specs.declared.job.Job.{Job}
use Rattle.ostore_job_text.specs.declared.job.JobClient.{JobClient}
use Rattle.ostore_run_report.specs.declared.results.Cause.{Cause}
use Rattle.ostore_run_report.specs.declared.results.TxnResult.{TxnResult}
use Rattle.ostore_run_report.specs.declared.results.TxnResult.TheVariants.{Commit, Read, Abort, GaveUp, NotRun}
use Rattle.ostore_run_report.specs.Results.{committed_from, committed_as as recorded_as}
use Rattle.ostore_turns.specs.declared.attempts.Gave.{Gave}
use Rattle.ostore_turns.specs.declared.attempts.Gave.TheVariants.{Going, Committed, Aborted, Failed}
use Rattle.ostore_turns.specs.declared.place.Place.{Place}
use Rattle.ostore_turns.specs.declared.running.TurnsRun.{TurnsRun}
use Rattle.ostore_turns.specs.Places.{Moment, is_retried, moved, next_attempt, next_txn}
use Rattle.ostore_turns.specs.LawfulTurns.{records_then, recorded_one}
use Rattle.ostore_turns.specs.Schedules.{Turn, Takes}
use Rattle.ostore_turns.specs.TurnResults.{committed_as, result_by, result_at, ended_by, results_of, results_from}
use Rattle.ostore_turns.specs.Runs.{IsFirst, IsRunBy}
use Rattle.ostore_turns.specs.RightResults.{AreRecords}
use Rattle.ostore_turns.proofs.TakeLaws.{result_mine, result_other}
use Rattle.ostore_turns.proofs.WalkLaws.{mine, other}

-- ---- one turn

pub recorded_here : (number : ℕ) (at : Place) (update : Bool) (gave : Gave) (records : ℕ → List Recorded) → recorded_one number at update gave records number ≡ records_then number at update gave (records number)
recorded_here number at update gave records = ap (λ (b : Bool). cond b (records_then number at update gave (records number)) (records number)) (eq-eqb number number refl)

pub recorded_other : (number : ℕ) (at : Place) (update : Bool) (gave : Gave) (records : ℕ → List Recorded) (i : ℕ) → i ≢ number → recorded_one number at update gave records i ≡ records i
recorded_other number at update gave records i apart = elim (eqb_tells i number) [
  | inl same ↦ absurd (apart same.1)
  | inr differs ↦ ap (λ (b : Bool). cond b (records_then number at update gave (records i)) (records i)) differs.0
]

failed_records : (number : ℕ) (at : Place) (cause : Cause) (retried : Bool) (rest : List TxnResult)
    → committed_from number ((cond retried (next_attempt at) (next_txn at)).txn + 1) rest ≡ committed_from number (at.txn + 1) (cons_option (cond retried None (Some (GaveUp (at.failed + 1) cause))) rest)
failed_records number at cause true rest = refl
failed_records number at cause false rest = refl

committed_records : (number : ℕ) (at : Place) (update : Bool) (commit : ℕ) (replies : List Reply) (rest : List TxnResult) (records : List Recorded)
    → (records ++ recorded_as number (at.txn + 1) update commit replies ∷ []) ++ committed_from number (at.txn + 1 + 1) rest ≡ records ++ committed_from number (at.txn + 1) (committed_as update commit (at.failed + 1) replies ∷ rest)
committed_records number at true commit replies rest records = append_assoc records (recorded_as number (at.txn + 1) true commit replies ∷ []) (committed_from number (at.txn + 1 + 1) rest)
committed_records number at false commit replies rest records = append_assoc records (recorded_as number (at.txn + 1) false commit replies ∷ []) (committed_from number (at.txn + 1 + 1) rest)

-- what a line adds to the records is what its result tells
line_records : (number tries : ℕ) (at : Place) (update : Bool) (gave : Gave) (rest : List TxnResult) (records : List Recorded)
    → records_then number at update gave records ++ committed_from number ((moved tries at gave).txn + 1) rest ≡ records ++ committed_from number (at.txn + 1) (cons_option (result_by update tries at gave) rest)
line_records number tries at update Going rest records = refl
line_records number tries at update (Committed commit replies) rest records = committed_records number at update commit replies rest records
line_records number tries at update Aborted rest records = refl
line_records number tries at update (Failed cause) rest records = ap (λ (l : List Recorded). records ++ l) (failed_records number at cause (is_retried tries at cause) rest)

-- ---- all turns

pub records_from : (job : Job) (i : ℕ) (client : JobClient) → slice_get job.clients i ≡ Some client → (turns : List Turn) (before after : Moment) (from to : ℕ) → Takes job before from turns after to
    → after.records i ≡ before.records i ++ committed_from i ((before.places i).txn + 1) (ended_by i client turns)
records_from job i client there [] before after from to takes = ap (λ (m : Moment). m.records i) (sym takes.0) ∙ sym (append-nil (before.records i))
records_from job i client there (turn ∷ turns) before after from to takes =
    let now : Moment = takes.1 in
    let given = takes.3 in
    let rest : List TxnResult = ended_by i client turns in
    let later : after.records i ≡ now.records i ++ committed_from i ((now.places i).txn + 1) rest = records_from job i client there turns now after (takes.0 + 1) to takes.5 in
    elim (cases_eq turn.client i) [
      | inl same ↦
          (let here : slice_get job.clients turn.client ≡ Some client = ap (slice_get job.clients) same ∙ there in
          let own = mine job.clients before now turn.client turn.gave client given here in
          let at : turn.at ≡ before.places turn.client = takes.2.place in
          let read : slice_get client.txns turn.at.txn ≡ Some given.txn = ap (λ (p : Place). slice_get client.txns p.txn) at ∙ own.there in
          let result : result_at i client turn ≡ result_by given.txn.update client.tries (before.places turn.client) turn.gave = result_mine i client given.txn turn same read ∙ ap (λ (p : Place). result_by given.txn.update client.tries p turn.gave) at in
          let added : now.records turn.client ≡ records_then turn.client (before.places turn.client) given.txn.update turn.gave (before.records turn.client) = given.records turn.client ∙ recorded_here turn.client (before.places turn.client) given.txn.update turn.gave before.records in
          later
          ∙ ap (λ (k : ℕ). now.records k ++ committed_from k ((now.places k).txn + 1) rest) (sym same)
          ∙ ap (λ (p : Place). now.records turn.client ++ committed_from turn.client (p.txn + 1) rest) own.place
          ∙ ap (λ (l : List Recorded). l ++ committed_from turn.client ((moved client.tries (before.places turn.client) turn.gave).txn + 1) rest) added
          ∙ line_records turn.client client.tries (before.places turn.client) given.txn.update turn.gave rest (before.records turn.client)
          ∙ ap (λ (r : Option TxnResult). before.records turn.client ++ committed_from turn.client ((before.places turn.client).txn + 1) (cons_option r rest)) (sym result)
          ∙ ap (λ (k : ℕ). before.records k ++ committed_from k ((before.places k).txn + 1) (ended_by i client (turn ∷ turns))) same)
      | inr apart ↦
          (let differs : i ≢ turn.client = λ e. apart (sym e) in
          later
          ∙ ap (λ (p : Place). now.records i ++ committed_from i (p.txn + 1) rest) (other job.clients before now turn.client turn.gave given i differs)
          ∙ ap (λ (l : List Recorded). l ++ committed_from i ((before.places i).txn + 1) rest) (given.records i ∙ recorded_other turn.client (before.places turn.client) given.txn.update turn.gave before.records i differs)
          ∙ ap (λ (r : Option TxnResult). before.records i ++ committed_from i ((before.places i).txn + 1) (cons_option r rest)) (sym (result_other i client turn apart)))
    ]

-- ---- all results

not_run_records : (client ordinal count : ℕ) → committed_from client ordinal (replicate count NotRun) ≡ []
not_run_records client ordinal zero = refl
not_run_records client ordinal (suc count) = not_run_records client (ordinal + 1) count

-- transactions that have not run add nothing
and_not_run : (client ordinal count : ℕ) (results : List TxnResult) → committed_from client ordinal (results ++ replicate count NotRun) ≡ committed_from client ordinal results
and_not_run client ordinal count [] = not_run_records client ordinal count
and_not_run client ordinal count (Commit number tries replies ∷ results) = ap (λ (l : List Recorded). recorded_as client ordinal true number replies ∷ l) (and_not_run client (ordinal + 1) count results)
and_not_run client ordinal count (Read number tries replies ∷ results) = ap (λ (l : List Recorded). recorded_as client ordinal false number replies ∷ l) (and_not_run client (ordinal + 1) count results)
and_not_run client ordinal count (Abort tries ∷ results) = and_not_run client (ordinal + 1) count results
and_not_run client ordinal count (GaveUp tries cause ∷ results) = and_not_run client (ordinal + 1) count results
and_not_run client ordinal count (NotRun ∷ results) = and_not_run client (ordinal + 1) count results

-- the records of a client at the end of a run
pub records_of : (job : Job) (first after : Moment) (run : TurnsRun) → IsFirst first → (by : IsRunBy job first after run) → (i : ℕ) (client : JobClient) → slice_get job.clients i ≡ Some client
    → after.records i ≡ committed_from i 1 (results_of i client by.turns)
records_of job first after run is_first by i client there =
    let ended : List TxnResult = ended_by i client by.turns in
    records_from job i client there by.turns first after 0 by.end by.taken
    ∙ ap (λ (p : Place). first.records i ++ committed_from i (p.txn + 1) ended) (is_first i).0
    ∙ ap (λ (l : List Recorded). l ++ committed_from i 1 ended) (is_first i).1
    ∙ sym (and_not_run i 1 (length client.txns - length ended) ended)

results_long : (number : ℕ) (clients : List JobClient) (turns : List Turn) → length (results_from number clients turns) ≡ length clients
results_long number [] turns = refl
results_long number (client ∷ clients) turns = ap suc (results_long (number + 1) clients turns)

-- the results of a client, by its number
result_there : (number : ℕ) (clients : List JobClient) (turns : List Turn) (i : ℕ) (mine : List TxnResult) → slice_get (results_from number clients turns) i ≡ Some mine
    → (client : JobClient) × (slice_get clients i ≡ Some client) × (mine ≡ results_of (number + i) client turns)
result_there number [] turns i mine there = absurd (none-some mine there)
result_there number (client ∷ clients) turns zero mine there = (client, refl, sym (same_Some (results_of number client turns) mine there) ∙ ap (λ (n : ℕ). results_of n client turns) (let e : number ≡ number + 0 = omega arith in e))
result_there number (client ∷ clients) turns (suc i) mine there =
    let found = result_there (number + 1) clients turns i mine there in
    (found.0, found.1, found.2 ∙ ap (λ (n : ℕ). results_of n found.0 turns) (let e : number + 1 + i ≡ number + suc i = omega arith in e))

pub are_records : (job : Job) (first after : Moment) (run : TurnsRun) → IsFirst first → IsRunBy job first after run → AreRecords job after run.results
are_records job first after run is_first by = record {
  of_each = ap length by.are ∙ results_long 0 job.clients by.turns;
  committed = λ i mine there.
      (let found = result_there 0 job.clients by.turns i mine (ap (λ (l : List (List TxnResult)). slice_get l i) (sym by.are) ∙ there) in
      records_of job first after run is_first by i found.0 found.1
      ∙ ap (committed_from i 1) (ap (λ (n : ℕ). results_of n found.0 by.turns) (let e : i ≡ 0 + i = omega arith in e) ∙ sym found.2));
}
