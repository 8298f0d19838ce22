-- Clients that run one after the other commit one after the other.
use Rattle.std.proofs.Common.{◌≡◌, ◌≢◌, ◌+◌, ◌-◌, ◌<◌, ◌≤◌, ◌==◌, inl, inr, ℕ, zero, suc, Bool, true, false, cond, List, [], ◌∷◌, ◌++◌, length, get_or, replicate, append-nil, append_assoc, refl, sym, ap, subst, ◌∙◌, arith, Option, Some, None}
use Rattle.std.specs.List.{slice_get, cons_option, AllByRecursion}
use Rattle.std.specs.Option.{option_and_then}
use Rattle.std.proofs.lemmas.Bool.{cases_eq}
use Rattle.std.proofs.lemmas.List.Quantifiers.{all_pairs_push}
use Rattle.std.proofs.lemmas.Option.{slice_get-get_or, slice_get_within}
use Rattle.ostore_graph_model.proofs.Kept.Parts.{all_append, all_map}
use Rattle.ostore_graph_model.specs.declared.commands.Txn.{Txn}
use Rattle.ostore_graph_model.specs.declared.history.Committed.{Committed as Recorded}
use Rattle.ostore_graph_model.specs.declared.values.Reply.{Reply}
use Rattle.ostore_graph_model.specs.History.{number_before, BeganAfter, IsSerial}
use Rattle.ostore_job_text.proofs.OptionTaken.{all_join}
use Rattle.ostore_job_text.proofs.TurnAgain.{at_place}
use Rattle.ostore_job_text.specs.declared.job.Job.{Job}
use Rattle.ostore_job_text.specs.declared.job.JobClient.{JobClient}
use Rattle.ostore_job_text.specs.RunnableJobs.{CanRun, IsWithinLimits}
use Rattle.ostore_run_report.specs.declared.results.TxnResult.{TxnResult}
use Rattle.ostore_run_report.specs.declared.results.TxnResult.TheVariants.{GaveUp, NotRun}
use Rattle.ostore_run_report.specs.Results.{committed_from, committed_by, committed_of, committed_as as recorded_as}
use Rattle.ostore_turns.specs.declared.attempts.Gave.{Gave}
use Rattle.ostore_turns.specs.declared.attempts.Gave.TheVariants.{Going, Committed, Aborted, Failed}
use Rattle.ostore_turns.specs.declared.place.Place.{Place}
use Rattle.ostore_turns.specs.declared.running.TurnsRun.{TurnsRun}
use Rattle.ostore_turns.specs.Places.{Moment}
use Rattle.ostore_turns.specs.LawfulTurns.{Turns, number_of, records_then}
use Rattle.ostore_turns.specs.Schedules.{Turn, Takes, scheduled}
use Rattle.ostore_turns.specs.TurnResults.{committed_as, result_by, ended_by, results_of, results_from}
use Rattle.ostore_turns.specs.Alone.{AreOneAfterTheOther, WasAlone, HasRunAlone}
use Rattle.ostore_turns.specs.Runs.{IsFirst, IsRunBy}
use Rattle.ostore_turns.proofs.AloneLaws.{comes_before, AloneAt, first_alone, skipped, at_own, MeetsNone, gave_alone, not_retried, turn_alone}
use Rattle.ostore_turns.proofs.RecordedLaws.{recorded_here, recorded_other, records_of}

-- ---- the records of clients, one after the other

-- of so many clients, of which the first has this number
abbrev pub joined_from : ℕ → ℕ → (ℕ → List Recorded) → List Recorded
joined_from number zero records = []
joined_from number (suc count) records = records number ++ joined_from (number + 1) count records

joined_same : (number count : ℕ) (old new : ℕ → List Recorded) → ((i : ℕ) → new i ≡ old i) → joined_from number count new ≡ joined_from number count old
joined_same number zero old new same = refl
joined_same number (suc count) old new same =
    ap (λ (l : List Recorded). l ++ joined_from (number + 1) count new) (same number) ∙ ap (λ (l : List Recorded). old number ++ l) (joined_same (number + 1) count old new same)

joined_none : (number count : ℕ) (records : ℕ → List Recorded) → ((i : ℕ) → number ≤ i → records i ≡ []) → joined_from number count records ≡ []
joined_none number zero records none = refl
joined_none number (suc count) records none =
    ap (λ (l : List Recorded). l ++ joined_from (number + 1) count records) (none number (omega arith)) ∙ joined_none (number + 1) count records (λ i low. none i (omega (arith, low)))

-- one more of a client stands at the end, where those behind have none
joined_more : (number count j : ℕ) (old new : ℕ → List Recorded) (one : Recorded) → number ≤ j → j < number + count → ((i : ℕ) → i ≢ j → new i ≡ old i) → new j ≡ old j ++ one ∷ []
    → ((i : ℕ) → j < i → old i ≡ []) → joined_from number count new ≡ joined_from number count old ++ one ∷ []
joined_more number zero j old new one from to same more none = absurd (omega (arith, from, to))
joined_more number (suc count) j old new one from to same more none = elim (cases_eq number j) [
  | inl here ↦
      (let later : (i : ℕ) → number + 1 ≤ i → old i ≡ [] = λ i low. none i (omega (arith, low, here)) in
      let fresh : (i : ℕ) → number + 1 ≤ i → new i ≡ [] = λ i low. same i (λ e. absurd (omega (arith, low, here, e))) ∙ later i low in
      let mine : new number ≡ old number ++ one ∷ [] = ap new here ∙ more ∙ ap (λ (k : ℕ). old k ++ one ∷ []) (sym here) in
      ap (λ (l : List Recorded). l ++ joined_from (number + 1) count new) mine
      ∙ ap (λ (l : List Recorded). (old number ++ one ∷ []) ++ l) (joined_none (number + 1) count new fresh)
      ∙ append-nil (old number ++ one ∷ [])
      ∙ ap (λ (l : List Recorded). l ++ one ∷ []) (sym (append-nil (old number)) ∙ ap (λ (l : List Recorded). old number ++ l) (sym (joined_none (number + 1) count old later))))
  | inr apart ↦
      (let below : number + 1 ≤ j = grind (arith, from, apart) in
      ap (λ (l : List Recorded). l ++ joined_from (number + 1) count new) (same number apart)
      ∙ ap (λ (l : List Recorded). old number ++ l) (joined_more (number + 1) count j old new one below (omega (arith, to)) same more none)
      ∙ sym (append_assoc (old number) (joined_from (number + 1) count old) (one ∷ [])))
]

-- ---- one after the other

record SerialAt (count : ℕ) (now : Moment) : Type 0 where
  serial : IsSerial (joined_from 0 count now.records)
  low : AllByRecursion (λ one. one.number ≤ now.commits) (joined_from 0 count now.records)

began_after : (update : Bool) (commits commit earlier : ℕ) → commit ≡ number_of update commits → earlier ≤ commits → earlier ≤ number_before update commit
began_after true commits commit earlier is low = omega (arith, is, low)
began_after false commits commit earlier is low = omega (arith, is, low)

not_lower : (update : Bool) (commits commit : ℕ) → commit ≡ number_of update commits → commits ≤ commit
not_lower true commits commit is = omega (arith, is)
not_lower false commits commit is = omega (arith, is)

serial_push : (records : List Recorded) (commits : ℕ) (one : Recorded) → one.number ≡ number_of one.entry.update commits → IsSerial records → AllByRecursion (λ one. one.number ≤ commits) records → IsSerial (records ++ one ∷ [])
serial_push records commits one is serial low =
    all_pairs_push BeganAfter records one serial
    (λ k d within. began_after one.entry.update commits one.number (get_or records k d).number is
    (at_place (λ (r : Recorded). r.number ≤ commits) records k (get_or records k d) low (slice_get-get_or records k d within)))

serial_same : (count : ℕ) (now after : Moment) → ((i : ℕ) → after.records i ≡ now.records i) → after.commits ≡ now.commits → SerialAt count now → SerialAt count after
serial_same count now after records commits at =
    let same : joined_from 0 count after.records ≡ joined_from 0 count now.records = joined_same 0 count now.records after.records records in
    record {
      serial = subst IsSerial (sym same) at.serial;
      low = subst (λ (n : ℕ). AllByRecursion (λ one. one.number ≤ n) (joined_from 0 count after.records)) (sym commits)
          (subst (AllByRecursion (λ one. one.number ≤ now.commits)) (sym same) at.low);
    }

serial_more : (count : ℕ) (now after : Moment) (one : Recorded) → joined_from 0 count after.records ≡ joined_from 0 count now.records ++ one ∷ [] → one.number ≡ number_of one.entry.update now.commits → after.commits ≡ one.number
    → SerialAt count now → SerialAt count after
serial_more count now after one more is commits at =
    let all : List Recorded = joined_from 0 count now.records in
    let higher = not_lower one.entry.update now.commits one.number is in
    record {
      serial = subst IsSerial (sym more) (serial_push all now.commits one is at.serial at.low);
      low = subst (AllByRecursion (λ one. one.number ≤ after.commits)) (sym more)
          (all_append (λ (r : Recorded). r.number ≤ after.commits) all one
          (all_map (λ (r : Recorded). r.number ≤ now.commits) (λ (r : Recorded). r.number ≤ after.commits) (λ r low. omega (arith, low, higher, commits)) all at.low)
          (omega (arith, commits)));
    }

-- a line that commits nothing leaves the records
records_same : (clients : List JobClient) (now after : Moment) (number : ℕ) (gave : Gave) (turns : Turns clients now number gave after)
    → ((records : List Recorded) → records_then number (now.places number) turns.txn.update gave records ≡ records) → (i : ℕ) → after.records i ≡ now.records i
records_same clients now after number gave turns none i = elim (cases_eq i number) [
  | inl same ↦ ap after.records same ∙ turns.records number ∙ recorded_here number (now.places number) turns.txn.update gave now.records ∙ none (now.records number) ∙ ap now.records (sym same)
  | inr apart ↦ turns.records i ∙ recorded_other number (now.places number) turns.txn.update gave now.records i apart
]

turn_serial : (job : Job) (n : ℕ) (now after : Moment) (number : ℕ) (gave : Gave) → AreOneAfterTheOther job.clients job.turns → AloneAt job n now → scheduled job n ≡ number → Turns job.clients now number gave after
    → SerialAt (length job.clients) now → SerialAt (length job.clients) after
turn_serial job n now after number Going alone at whose turns serial = serial_same (length job.clients) now after (records_same job.clients now after number Going turns (λ records. refl)) turns.commits serial
turn_serial job n now after number Aborted alone at whose turns serial = serial_same (length job.clients) now after (records_same job.clients now after number Aborted turns (λ records. refl)) turns.commits serial
turn_serial job n now after number (Failed cause) alone at whose turns serial = serial_same (length job.clients) now after (records_same job.clients now after number (Failed cause) turns (λ records. refl)) turns.commits serial
turn_serial job n now after number (Committed commit replies) alone at whose turns serial =
    let gave : Gave = Committed commit replies in
    let update : Bool = turns.txn.update in
    let one : Recorded = recorded_as number ((now.places number).txn + 1) update commit replies in
    let own = at_own job n now number turns.txn alone at whose turns.is_in in
    let to = own.to in
    serial_more (length job.clients) now after one
    (joined_more 0 (length job.clients) number now.records after.records one (omega arith) (let low = slice_get_within job.clients number turns.is_in.client own.there in omega (arith, low))
    (λ i apart. turns.records i ∙ recorded_other number (now.places number) update gave now.records i apart)
    (turns.records number ∙ recorded_here number (now.places number) update gave now.records)
    (λ i later. (let before = comes_before job.clients number i turns.is_in.client own.there later in (at.ahead i (omega (arith, before, to))).1)))
    turns.may.2 turns.commits serial

-- ---- all turns

-- a turn met no other client, and no attempt at its transaction had ended
abbrev pub IsTurnAlone : Turn → Type 0
IsTurnAlone turn = (turn.at.failed ≡ 0) × MeetsNone turn.gave

record WalksAlone (job : Job) (turns : List Turn) (after : Moment) : Type 0 where
  alone : AllByRecursion IsTurnAlone turns
  serial : SerialAt (length job.clients) after

walk_alone : (job : Job) → AllByRecursion IsWithinLimits job.clients → AreOneAfterTheOther job.clients job.turns → (turns : List Turn) (before after : Moment) (from to : ℕ) → Takes job before from turns after to
    → AloneAt job from before → SerialAt (length job.clients) before → WalksAlone job turns after
walk_alone job limits alone [] before after from to takes at serial = record { alone = tt; serial = subst (SerialAt (length job.clients)) takes.0 serial }
walk_alone job limits alone (turn ∷ turns) before after from to takes at serial =
    let now : Moment = takes.1 in
    let next = takes.2 in
    let given = takes.3 in
    let here : AloneAt job takes.0 before = skipped job from takes.0 before alone next.later next.passed at in
    let whose : scheduled job takes.0 ≡ turn.client = sym next.whose in
    let rest = walk_alone job limits alone turns now after (takes.0 + 1) to takes.5 (turn_alone job takes.0 before now turn.client turn.gave limits alone here whose given) (turn_serial job takes.0 before now turn.client turn.gave alone here whose given serial) in
    record {
      alone = ((ap (λ (p : Place). p.failed) next.place ∙ here.once turn.client given.is_in.client given.is_in.there, gave_alone job takes.0 before turn.client given.txn turn.gave alone here whose given.may), rest.alone);
      serial = rest.serial;
    }

-- ---- results

committed_alone : (update : Bool) (number tries : ℕ) (replies : List Reply) → tries ≡ 1 → WasAlone (committed_as update number tries replies)
committed_alone true number tries replies once = once
committed_alone false number tries replies once = once

line_alone : (update : Bool) (tries : ℕ) (at : Place) (gave : Gave) (rest : List TxnResult) → at.failed + 1 ≡ 1 → MeetsNone gave → AllByRecursion WasAlone rest → AllByRecursion WasAlone (cons_option (result_by update tries at gave) rest)
line_alone update tries at Going rest once none alone = alone
line_alone update tries at (Committed commit replies) rest once none alone = (committed_alone update commit (at.failed + 1) replies once, alone)
line_alone update tries at Aborted rest once none alone = (once, alone)
line_alone update tries at (Failed cause) rest once none alone =
    subst (λ (b : Bool). AllByRecursion WasAlone (cons_option (cond b None (Some (GaveUp (at.failed + 1) cause))) rest)) (sym (not_retried tries at cause none)) ((once, none), alone)

turn_result : (mine : Bool) (txn : Option Txn) (tries : ℕ) (turn : Turn) (rest : List TxnResult) → IsTurnAlone turn → AllByRecursion WasAlone rest
    → AllByRecursion WasAlone (cons_option (cond mine (option_and_then (λ (txn : Txn). result_by txn.update tries turn.at turn.gave) txn) None) rest)
turn_result false txn tries turn rest one alone = alone
turn_result true None tries turn rest one alone = alone
turn_result true (Some txn) tries turn rest one alone = line_alone txn.update tries turn.at turn.gave rest (let once = one.0 in omega (arith, once)) one.1 alone

ended_alone : (number : ℕ) (client : JobClient) (turns : List Turn) → AllByRecursion IsTurnAlone turns → AllByRecursion WasAlone (ended_by number client turns)
ended_alone number client [] alone = tt
ended_alone number client (turn ∷ turns) alone = turn_result (turn.client == number) (slice_get client.txns turn.at.txn) client.tries turn (ended_by number client turns) alone.0 (ended_alone number client turns alone.1)

not_run_alone : (count : ℕ) → AllByRecursion WasAlone (replicate count NotRun)
not_run_alone zero = tt
not_run_alone (suc count) = (tt, not_run_alone count)

all_alone : (number : ℕ) (clients : List JobClient) (turns : List Turn) → AllByRecursion IsTurnAlone turns → AllByRecursion (AllByRecursion WasAlone) (results_from number clients turns)
all_alone number [] turns alone = tt
all_alone number (client ∷ clients) turns alone = (
  all_join WasAlone (ended_by number client turns) (replicate (length client.txns - length (ended_by number client turns)) NotRun) (ended_alone number client turns alone) (not_run_alone (length client.txns - length (ended_by number client turns))),
  all_alone (number + 1) clients turns alone,
)

all_joined : (number : ℕ) (clients : List JobClient) (turns : List Turn) (records : ℕ → List Recorded)
    → ((i : ℕ) (client : JobClient) → slice_get clients i ≡ Some client → records (number + i) ≡ committed_from (number + i) 1 (results_of (number + i) client turns))
    → joined_from number (length clients) records ≡ committed_by number (results_from number clients turns)
all_joined number [] turns records are = refl
all_joined number (client ∷ clients) turns records are =
    let mine : records number ≡ committed_from number 1 (results_of number client turns) = subst (λ (n : ℕ). records n ≡ committed_from n 1 (results_of n client turns)) (let e : number + 0 ≡ number = omega arith in e) (are 0 client refl) in
    ap (λ (l : List Recorded). l ++ joined_from (number + 1) (length clients) records) mine
    ∙ ap (λ (l : List Recorded). committed_from number 1 (results_of number client turns) ++ l)
    (all_joined (number + 1) clients turns records
    (λ i c there. subst (λ (n : ℕ). records n ≡ committed_from n 1 (results_of n c turns)) (let e : number + suc i ≡ number + 1 + i = omega arith in e) (are (suc i) c there)))

-- ---- a run

first_serial : (count : ℕ) (now : Moment) → IsFirst now → SerialAt count now
first_serial count now first =
    let none : joined_from 0 count now.records ≡ [] = joined_none 0 count now.records (λ i low. (first i).1) in
    record {
      serial = subst IsSerial (sym none) (λ i j d before within. absurd (omega (arith, within)));
      low = subst (AllByRecursion (λ one. one.number ≤ now.commits)) (sym none) tt;
    }

pub run_alone : (job : Job) (first after : Moment) (run : TurnsRun) → CanRun job → AreOneAfterTheOther job.clients job.turns → IsFirst first → IsRunBy job first after run → HasRunAlone run
run_alone job first after run can alone is_first by =
    let walk = walk_alone job can.clients alone by.turns first after 0 by.end by.taken (first_alone job first can.clients is_first) (first_serial (length job.clients) first is_first) in
    let joined : joined_from 0 (length job.clients) after.records ≡ committed_of run.results =
    all_joined 0 job.clients by.turns after.records (λ i client there. (let e : i ≡ 0 + i = omega arith in subst (λ (n : ℕ). after.records n ≡ committed_from n 1 (results_of n client by.turns)) e (records_of job first after run is_first by i client there)))
    ∙ ap committed_of (sym by.are) in
    record {
      alone = subst (AllByRecursion (AllByRecursion WasAlone)) (sym by.are) (all_alone 0 job.clients by.turns walk.alone);
      serial = subst IsSerial joined walk.serial.serial;
    }
