-- Each result of a run by turns is right.
use Rattle.std.proofs.Common.{◌≡◌, ◌+◌, ◌-◌, ◌≤◌, inl, inr, ℕ, suc, Bool, true, false, cond, List, [], ◌∷◌, ◌++◌, length, drop, replicate, refl, sym, ap, subst, ◌∙◌, arith, Option, Some, None}
use Rattle.std.specs.List.{slice_get, cons_option, AllByRecursion}
use Rattle.std.proofs.lemmas.Bool.{cases_eq, ltb-false, false≢true}
use Rattle.ostore_graph_model.specs.declared.commands.Txn.{Txn}
use Rattle.ostore_graph_model.specs.declared.values.Reply.{Reply}
use Rattle.ostore_job_text.specs.declared.job.Job.{Job}
use Rattle.ostore_job_text.specs.declared.job.JobClient.{JobClient}
use Rattle.ostore_job_text.specs.RunnableJobs.{CanRun, IsWithinLimits}
use Rattle.ostore_run_report.specs.declared.results.Cause.{Cause}
use Rattle.ostore_run_report.specs.declared.results.Cause.TheVariants.{Busy, NoSpace, CacheFull, SpaceFull, Disk, Stopped}
use Rattle.ostore_run_report.specs.declared.results.TxnResult.{TxnResult}
use Rattle.ostore_run_report.specs.declared.results.TxnResult.TheVariants.{GaveUp, NotRun}
use Rattle.ostore_turns.specs.declared.attempts.Gave.{Gave}
use Rattle.ostore_turns.specs.declared.attempts.Gave.TheVariants.{Going, Committed, Aborted, Failed}
use Rattle.ostore_turns.specs.declared.place.Place.{Place}
use Rattle.ostore_turns.specs.declared.running.TurnsRun.{TurnsRun}
use Rattle.ostore_turns.specs.Places.{Moment, HasLine, is_retried, moved, next_attempt, next_txn}
use Rattle.ostore_turns.specs.LawfulTurns.{IsCauseAt, IsCommandLine, MayGive, StopsRun}
use Rattle.ostore_turns.specs.Schedules.{Turn, Takes}
use Rattle.ostore_turns.specs.TurnResults.{committed_as, result_by, result_at, ended_by, with_not_run, results_from, AllByClient, AllByTxn}
use Rattle.ostore_turns.specs.Runs.{HasEnded, IsFirst, IsRunBy}
use Rattle.ostore_turns.specs.RightResults.{HasCommand, IsTried, MayGiveUp, IsRightResult, AreRight}
use Rattle.ostore_turns.specs.inside.Steps.{IsFitPlace}
use Rattle.ostore_turns.proofs.TakeLaws.{result_mine, result_other}
use Rattle.ostore_turns.proofs.WalkLaws.{AreFit, first_fit, turn_fits, mine, other, all_ended, drop_there, drop_past}

-- ---- one line

-- a line moves on to the next transaction exactly where it ends one, whose result is right
abbrev pub Ends : Bool → JobClient → Txn → Place → Place → Option TxnResult → Type 0
Ends failed client txn at next None = next.txn ≡ at.txn
Ends failed client txn at next (Some result) = (next.txn ≡ at.txn + 1) × IsRightResult failed client txn result

tried : (client : JobClient) (at : Place) → IsFitPlace client at → IsTried client (at.failed + 1)
tried client at fits = let low = fits.tries in (omega arith, omega arith)

committed_right : (failed : Bool) (client : JobClient) (txn : Txn) (update : Bool) (number tries : ℕ) (replies : List Reply) → txn.update ≡ update → txn.aborts ≡ false → IsTried client tries
    → IsRightResult failed client txn (committed_as update number tries replies)
committed_right failed client txn true number tries replies kind kept tried = (kept, kind, tried)
committed_right failed client txn false number tries replies kind kept tried = (kept, kind, tried)

has_command : (txn : Txn) (at : Place) → IsCommandLine txn at → HasCommand txn
has_command txn at command = let low = command.0 in let high = command.1 in omega (arith, low, high)

may_give_up : (failed : Bool) (clients : List JobClient) (before : Moment) (number : ℕ) (client : JobClient) (txn : Txn) (at : Place) (cause : Cause) → IsFitPlace client at → IsCauseAt clients before number txn cause
    → (StopsRun (Failed cause) → failed ≡ true) → is_retried client.tries at cause ≡ false → MayGiveUp failed client txn (at.failed + 1) cause
may_give_up failed clients before number client txn at (Busy page seen found) fits cause stops last =
    let most = ltb-false (at.failed + 1) client.tries last in
    let low = fits.tries in
    (omega (arith, most, low), has_command txn (before.places number) cause.0)
may_give_up failed clients before number client txn at (NoSpace segment need) fits cause stops last = cause.1
may_give_up failed clients before number client txn at (CacheFull used capacity) fits cause stops last = has_command txn (before.places number) cause
may_give_up failed clients before number client txn at (SpaceFull frames) fits cause stops last = has_command txn (before.places number) cause
may_give_up failed clients before number client txn at Disk fits cause stops last = (stops tt, cause.1, cause.2)
may_give_up failed clients before number client txn at (Stopped after) fits cause stops last = absurd cause

failed_ends : (failed : Bool) (client : JobClient) (txn : Txn) (at : Place) (cause : Cause) (retried : Bool) → IsFitPlace client at → (retried ≡ false → MayGiveUp failed client txn (at.failed + 1) cause)
    → Ends failed client txn at (cond retried (next_attempt at) (next_txn at)) (cond retried None (Some (GaveUp (at.failed + 1) cause)))
failed_ends failed client txn at cause true fits may = refl
failed_ends failed client txn at cause false fits may = (refl, (tried client at fits, may refl))

line_ends : (failed : Bool) (clients : List JobClient) (before : Moment) (number : ℕ) (client : JobClient) (txn : Txn) (at : Place) (gave : Gave) → IsFitPlace client at → MayGive clients before number txn gave
    → (StopsRun gave → failed ≡ true) → Ends failed client txn at (moved client.tries at gave) (result_by txn.update client.tries at gave)
line_ends failed clients before number client txn at Going fits may stops = refl
line_ends failed clients before number client txn at (Committed commit replies) fits may stops = (refl, committed_right failed client txn txn.update commit (at.failed + 1) replies refl may.1 (tried client at fits))
line_ends failed clients before number client txn at Aborted fits may stops = (refl, (may.1, tried client at fits))
line_ends failed clients before number client txn at (Failed cause) fits may stops =
    failed_ends failed client txn at cause (is_retried client.tries at cause) fits (may_give_up failed clients before number client txn at cause fits may stops)

-- ---- the transactions of one client, from one on

-- what turns ended of them is right, and the rest has not run
abbrev pub AreRightFrom : Bool → JobClient → ℕ → List TxnResult → Type 0
AreRightFrom failed client k ended = AllByTxn (IsRightResult failed client) (drop k client.txns) (with_not_run (length (drop k client.txns)) ended)

one_more : (failed : Bool) (client : JobClient) (k : ℕ) (txn : Txn) (result : TxnResult) (ended : List TxnResult) → slice_get client.txns k ≡ Some txn → IsRightResult failed client txn result
    → AreRightFrom failed client (k + 1) ended → AreRightFrom failed client k (result ∷ ended)
one_more failed client k txn result ended there right rest =
    let behind : List Txn = drop (k + 1) client.txns in
    let count : length behind - length ended ≡ length (txn ∷ behind) - length (result ∷ ended) = omega arith in
    subst (λ (txns : List Txn). AllByTxn (IsRightResult failed client) txns (with_not_run (length txns) (result ∷ ended))) (sym (drop_there client.txns k txn there))
    (right, subst (λ (n : ℕ). AllByTxn (IsRightResult failed client) behind (ended ++ replicate n NotRun)) count rest)

none_run : (failed : Bool) (client : JobClient) (txns : List Txn) → failed ≡ true → AllByTxn (IsRightResult failed client) txns (replicate (length txns) NotRun)
none_run failed client [] stopped = tt
none_run failed client (txn ∷ txns) stopped = (stopped, none_run failed client txns stopped)

at_end : (failed : Bool) (client : JobClient) (k : ℕ) → (failed ≡ false → length client.txns ≤ k) → AreRightFrom failed client k []
at_end true client k ended =
    (let rest : List Txn = drop k client.txns in
    let e : length rest ≡ length rest - 0 = omega arith in
    subst (λ (n : ℕ). AllByTxn (IsRightResult true client) rest (replicate n NotRun)) e (none_run true client rest refl))
at_end false client k ended = subst (λ (txns : List Txn). AllByTxn (IsRightResult false client) txns (with_not_run (length txns) [])) (sym (drop_past client.txns k (ended refl))) tt

-- by one turn of the client
ends_more : (failed : Bool) (client : JobClient) (txn : Txn) (at next : Place) (ended : Option TxnResult) (rest : List TxnResult) → slice_get client.txns at.txn ≡ Some txn → Ends failed client txn at next ended
    → AreRightFrom failed client next.txn rest → AreRightFrom failed client at.txn (cons_option ended rest)
ends_more failed client txn at next None rest there ends right = subst (λ (k : ℕ). AreRightFrom failed client k rest) ends right
ends_more failed client txn at next (Some result) rest there ends right = one_more failed client at.txn txn result rest there ends.1 (subst (λ (k : ℕ). AreRightFrom failed client k rest) ends.0 right)

pub right_from : (job : Job) (failed : Bool) (i : ℕ) (client : JobClient) → AllByRecursion IsWithinLimits job.clients → slice_get job.clients i ≡ Some client
    → (turns : List Turn) (before after : Moment) (from to : ℕ) → Takes job before from turns after to → AreFit job.clients before → AllByRecursion (λ turn. StopsRun turn.gave → failed ≡ true) turns
    → (failed ≡ false → HasLine job.clients after i → ⊥) → AreRightFrom failed client (before.places i).txn (ended_by i client turns)
right_from job failed i client limits there [] before after from to takes fit stops ended =
    at_end failed client (before.places i).txn (λ goes. all_ended job.clients before i client there (fit i client there) (subst (λ (now : Moment). HasLine job.clients now i → ⊥) (sym takes.0) (ended goes)))
right_from job failed i client limits there (turn ∷ turns) before after from to takes fit stops ended =
    let now : Moment = takes.1 in
    let given = takes.3 in
    let rest = right_from job failed i client limits there turns now after (takes.0 + 1) to takes.5 (turn_fits job.clients before now turn.client turn.gave limits given fit) stops.1 ended in
    elim (cases_eq turn.client i) [
      | inl same ↦
          (let here : slice_get job.clients turn.client ≡ Some client = ap (slice_get job.clients) same ∙ there in
          let own = mine job.clients before now turn.client turn.gave client given here in
          let at : turn.at ≡ before.places turn.client = takes.2.place in
          let read : slice_get client.txns turn.at.txn ≡ Some given.txn = ap (λ (p : Place). slice_get client.txns p.txn) at ∙ own.there in
          let ends = line_ends failed job.clients before turn.client client given.txn (before.places turn.client) turn.gave (fit turn.client client here) given.may stops.0 in
          let result : result_at i client turn ≡ result_by given.txn.update client.tries (before.places turn.client) turn.gave = result_mine i client given.txn turn same read ∙ ap (λ (p : Place). result_by given.txn.update client.tries p turn.gave) at in
          subst (λ (k : ℕ). AreRightFrom failed client (before.places k).txn (ended_by i client (turn ∷ turns))) same
          (subst (λ (r : Option TxnResult). AreRightFrom failed client (before.places turn.client).txn (cons_option r (ended_by i client turns))) (sym result)
          (ends_more failed client given.txn (before.places turn.client) (moved client.tries (before.places turn.client) turn.gave) (result_by given.txn.update client.tries (before.places turn.client) turn.gave) (ended_by i client turns) own.there ends
          (subst (λ (p : Place). AreRightFrom failed client p.txn (ended_by i client turns)) (ap now.places (sym same) ∙ own.place) rest))))
      | inr apart ↦
          subst (λ (r : Option TxnResult). AreRightFrom failed client (before.places i).txn (cons_option r (ended_by i client turns))) (sym (result_other i client turn apart))
          (subst (λ (p : Place). AreRightFrom failed client p.txn (ended_by i client turns)) (other job.clients before now turn.client turn.gave given i (λ e. apart (sym e))) rest)
    ]

-- ---- all clients

right_all : (failed : Bool) (number : ℕ) (clients : List JobClient) (turns : List Turn) → ((i : ℕ) (client : JobClient) → slice_get clients i ≡ Some client → AreRightFrom failed client 0 (ended_by (number + i) client turns))
    → AllByClient (λ client mine. AllByTxn (IsRightResult failed client) client.txns mine) clients (results_from number clients turns)
right_all failed number [] turns right = tt
right_all failed number (client ∷ clients) turns right = (
  subst (λ (n : ℕ). AreRightFrom failed client 0 (ended_by n client turns)) (let e : number + 0 ≡ number = omega arith in e) (right 0 client refl),
  right_all failed (number + 1) clients turns (λ i c there. subst (λ (n : ℕ). AreRightFrom failed c 0 (ended_by n c turns)) (let e : number + suc i ≡ number + 1 + i = omega arith in e) (right (suc i) c there)),
)

all_true : (turns : List Turn) → AllByRecursion (λ turn. StopsRun turn.gave → true ≡ true) turns
all_true [] = tt
all_true (turn ∷ turns) = ((λ stops. refl), all_true turns)

none_stops : (turns : List Turn) → AllByRecursion (λ turn. StopsRun turn.gave → ⊥) turns → AllByRecursion (λ turn. StopsRun turn.gave → false ≡ true) turns
none_stops [] goes = tt
none_stops (turn ∷ turns) goes = ((λ stops. absurd (goes.0 stops)), none_stops turns goes.1)

-- no turn stops a run but one at which a disk call fails, and else no client has a line left
record Ended (job : Job) (failed : Bool) (turns : List Turn) (after : Moment) : Type 0 where
  stops : AllByRecursion (λ turn. StopsRun turn.gave → failed ≡ true) turns
  none : (i : ℕ) → failed ≡ false → HasLine job.clients after i → ⊥

ended_so : (job : Job) (failed : Bool) (turns : List Turn) (after : Moment) → HasEnded job failed turns after → Ended job failed turns after
ended_so job true turns after ended = record { stops = all_true turns; none = λ i goes. absurd (false≢true (sym goes)) }
ended_so job false turns after ended = record { stops = none_stops turns ended.0; none = λ i goes. ended.1 i }

pub are_right : (job : Job) (first after : Moment) (run : TurnsRun) → CanRun job → IsFirst first → IsRunBy job first after run → AreRight job run
are_right job first after run can is_first by =
    let failed : Bool = run.disk_failed in
    let ended = ended_so job failed by.turns after by.ended in
    subst (AllByClient (λ client mine. AllByTxn (IsRightResult failed client) client.txns mine) job.clients) (sym by.are)
    (right_all failed 0 job.clients by.turns (λ i client there.
    (let e : i ≡ 0 + i = omega arith in
    subst (λ (n : ℕ). AreRightFrom failed client 0 (ended_by n client by.turns)) e
    (subst (λ (p : Place). AreRightFrom failed client p.txn (ended_by i client by.turns)) (is_first i).0
    (right_from job failed i client can.clients there by.turns first after 0 by.end by.taken (first_fit job.clients first is_first can.clients) ended.stops (ended.none i))))))
