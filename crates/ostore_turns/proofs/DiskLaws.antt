-- A disk call that failed is told by exactly one result.
use Rattle.std.proofs.Common.{◌≡◌, ◌≢◌, ◌+◌, ◌-◌, ◌<◌, ◌==◌, ℕ, zero, suc, Bool, true, false, cond, List, [], ◌∷◌, ◌++◌, length, replicate, append_assoc, refl, ap, subst, ◌∙◌, arith, Option, Some, None}
use Rattle.std.specs.Prelude.{filter}
use Rattle.std.specs.List.{slice_get, cons_option, AllByRecursion}
use Rattle.std.specs.Option.{option_and_then}
use Rattle.std.proofs.lemmas.Bool.{false≢true}
use Rattle.std.proofs.lemmas.List.{length-append}
use Rattle.std.proofs.lemmas.List.Elements.{filter-append}
use Rattle.std.proofs.lemmas.List.Sums.{sum_by-cons}
use Rattle.std.proofs.lemmas.Option.{none-some, same_Some}
use Rattle.ostore_graph_model.specs.declared.commands.Txn.{Txn}
use Rattle.ostore_graph_model.specs.declared.values.Reply.{Reply}
use Rattle.ostore_job_text.proofs.OptionAgain.{all_middle}
use Rattle.ostore_job_text.specs.declared.job.Job.{Job}
use Rattle.ostore_job_text.specs.declared.job.JobClient.{JobClient}
use Rattle.ostore_run_report.specs.declared.results.Cause.{Cause}
use Rattle.ostore_run_report.specs.declared.results.Cause.TheVariants.{Busy, NoSpace, CacheFull, SpaceFull, Disk, Stopped}
use Rattle.ostore_run_report.specs.declared.results.TxnResult.{TxnResult}
use Rattle.ostore_run_report.specs.declared.results.TxnResult.TheVariants.{GaveUp, NotRun}
use Rattle.ostore_turns.specs.declared.attempts.Gave.{Gave}
use Rattle.ostore_turns.specs.declared.attempts.Gave.TheVariants.{Going, Committed, Aborted, Failed}
use Rattle.ostore_turns.specs.declared.place.Place.{Place}
use Rattle.ostore_turns.specs.declared.running.TurnsRun.{TurnsRun}
use Rattle.ostore_turns.specs.Bounds.{Bounds, IsResultWithin, AreBounded}
use Rattle.ostore_turns.specs.Places.{Moment, is_retried}
use Rattle.ostore_turns.specs.LawfulTurns.{StopsRun}
use Rattle.ostore_turns.specs.Schedules.{Turn, Takes}
use Rattle.ostore_turns.specs.TurnResults.{committed_as, result_by, ended_by, results_of, results_from}
use Rattle.ostore_turns.specs.Runs.{HasEnded, IsRunBy}
use Rattle.ostore_turns.specs.RightResults.{is_disk_fault, disk_faults}
use Rattle.ostore_turns.specs.inside.Steps.{and_maybe}
use Rattle.ostore_turns.proofs.TakeLaws.{ended_more, result_mine, result_other}
use Rattle.ostore_turns.proofs.WalkLaws.{mine}

-- ---- turns in a list

-- a turn is one of a client at a transaction of its script
record IsPlaced (clients : List JobClient) (turn : Turn) : Type 0 where
  client : JobClient
  there : slice_get clients turn.client ≡ Some client
  txn : Txn
  at : slice_get client.txns turn.at.txn ≡ Some txn

-- only the last turn may stop the run
record IsLast (clients : List JobClient) (earlier : List Turn) (last : Turn) : Type 0 where
  goes : AllByRecursion (λ turn. StopsRun turn.gave → ⊥) earlier
  placed : IsPlaced clients last

not_nil : {X : Type 0} (x : X) (earlier : List X) → earlier ++ x ∷ [] ≡ [] → ⊥
not_nil {X = X} x earlier none = (let long = length-append earlier (x ∷ []) in let short : length (earlier ++ x ∷ []) ≡ 0 = ap length none in absurd (omega (arith, long, short)))

is_last : (job : Job) (earlier : List Turn) (last : Turn) (before after : Moment) (from to : ℕ) → Takes job before from (earlier ++ last ∷ []) after to → IsLast job.clients earlier last
is_last job [] last before after from to takes =
    let given = takes.3 in
    let own = mine job.clients before takes.1 last.client last.gave given.is_in.client given given.is_in.there in
    record {
      goes = tt;
      placed = record { client = given.is_in.client; there = given.is_in.there; txn = given.txn; at = ap (λ (p : Place). slice_get given.is_in.client.txns p.txn) takes.2.place ∙ own.there };
    }
is_last job (turn ∷ earlier) last before after from to takes =
    let rest = is_last job earlier last takes.1 after (takes.0 + 1) to takes.5 in
    record { goes = ((λ stops. not_nil last earlier (takes.4 stops)), rest.goes); placed = rest.placed }

-- ---- results

kept_on : (update : Bool) (number tries : ℕ) (replies : List Reply) → is_disk_fault (committed_as update number tries replies) ≡ false
kept_on true number tries replies = refl
kept_on false number tries replies = refl

gave_up_on : (tries : ℕ) (cause : Cause) → (StopsRun (Failed cause) → ⊥) → is_disk_fault (GaveUp tries cause) ≡ false
gave_up_on tries (Busy page seen found) goes = refl
gave_up_on tries (NoSpace segment need) goes = refl
gave_up_on tries (CacheFull used capacity) goes = refl
gave_up_on tries (SpaceFull frames) goes = refl
gave_up_on tries Disk goes = absurd (goes tt)
gave_up_on tries (Stopped after) goes = refl

-- a disk fault or none
abbrev faults_in : List TxnResult → ℕ
faults_in results = length (filter is_disk_fault results)

fault_first : (result : TxnResult) (rest : List TxnResult) → is_disk_fault result ≡ false → faults_in (result ∷ rest) ≡ faults_in rest
fault_first result rest none = ap (λ (b : Bool). length (cond b (result ∷ filter is_disk_fault rest) (filter is_disk_fault rest))) none

failed_first : (tries : ℕ) (cause : Cause) (retried : Bool) (rest : List TxnResult) → (StopsRun (Failed cause) → ⊥) → faults_in (cons_option (cond retried None (Some (GaveUp tries cause))) rest) ≡ faults_in rest
failed_first tries cause true rest goes = refl
failed_first tries cause false rest goes = fault_first (GaveUp tries cause) rest (gave_up_on tries cause goes)

line_first : (update : Bool) (tries : ℕ) (at : Place) (gave : Gave) (rest : List TxnResult) → (StopsRun gave → ⊥) → faults_in (cons_option (result_by update tries at gave) rest) ≡ faults_in rest
line_first update tries at Going rest goes = refl
line_first update tries at (Committed commit replies) rest goes = fault_first (committed_as update commit (at.failed + 1) replies) rest (kept_on update commit (at.failed + 1) replies)
line_first update tries at Aborted rest goes = refl
line_first update tries at (Failed cause) rest goes = failed_first (at.failed + 1) cause (is_retried tries at cause) rest goes

turn_first : (own : Bool) (txn : Option Txn) (tries : ℕ) (turn : Turn) (rest : List TxnResult) → (StopsRun turn.gave → ⊥)
    → faults_in (cons_option (cond own (option_and_then (λ (txn : Txn). result_by txn.update tries turn.at turn.gave) txn) None) rest) ≡ faults_in rest
turn_first false txn tries turn rest goes = refl
turn_first true None tries turn rest goes = refl
turn_first true (Some txn) tries turn rest goes = line_first txn.update tries turn.at turn.gave rest goes

none_ended : (number : ℕ) (client : JobClient) (turns : List Turn) → AllByRecursion (λ turn. StopsRun turn.gave → ⊥) turns → faults_in (ended_by number client turns) ≡ 0
none_ended number client [] goes = refl
none_ended number client (turn ∷ turns) goes =
    turn_first (turn.client == number) (slice_get client.txns turn.at.txn) client.tries turn (ended_by number client turns) goes.0 ∙ none_ended number client turns goes.1

faults_of : (xs ys : List TxnResult) → faults_in (xs ++ ys) ≡ faults_in xs + faults_in ys
faults_of xs ys = ap length (filter-append is_disk_fault xs ys) ∙ length-append (filter is_disk_fault xs) (filter is_disk_fault ys)

not_run_on : (count : ℕ) → faults_in (replicate count NotRun) ≡ 0
not_run_on zero = refl
not_run_on (suc count) = not_run_on count

faults_by : (number : ℕ) (client : JobClient) (turns : List Turn) → faults_in (results_of number client turns) ≡ faults_in (ended_by number client turns)
faults_by number client turns =
    let ended : List TxnResult = ended_by number client turns in
    let count : ℕ = length client.txns - length ended in
    let parts = faults_of ended (replicate count NotRun) in
    let none = not_run_on count in
    omega (arith, parts, none)

-- ---- no fault

no_faults : (number : ℕ) (clients : List JobClient) (turns : List Turn) → AllByRecursion (λ turn. StopsRun turn.gave → ⊥) turns → disk_faults (results_from number clients turns) ≡ 0
no_faults number [] turns goes = refl
no_faults number (client ∷ clients) turns goes =
    let all : disk_faults (results_from number (client ∷ clients) turns) ≡ faults_in (results_of number client turns) + disk_faults (results_from (number + 1) clients turns) = sum_by-cons faults_in (results_of number client turns) (results_from (number + 1) clients turns) in
    let first = faults_by number client turns in
    let none = none_ended number client turns goes in
    let rest = no_faults (number + 1) clients turns goes in
    omega (arith, all, first, none, rest)

-- ---- one fault

stopping : (update : Bool) (tries : ℕ) (at : Place) (gave : Gave) → StopsRun gave → result_by update tries at gave ≡ Some (GaveUp (at.failed + 1) Disk)
stopping update tries at (Failed Disk) stops = refl
stopping update tries at (Failed (Busy page seen found)) stops = absurd stops
stopping update tries at (Failed (NoSpace segment need)) stops = absurd stops
stopping update tries at (Failed (CacheFull used capacity)) stops = absurd stops
stopping update tries at (Failed (SpaceFull frames)) stops = absurd stops
stopping update tries at (Failed (Stopped after)) stops = absurd stops
stopping update tries at Going stops = absurd stops
stopping update tries at (Committed commit replies) stops = absurd stops
stopping update tries at Aborted stops = absurd stops

-- the turn that stops the run ends its client's transactions so
last_mine : (number : ℕ) (client : JobClient) (earlier : List Turn) (last : Turn) → last.client ≡ number → (txn : Txn) → slice_get client.txns last.at.txn ≡ Some txn → StopsRun last.gave
    → ended_by number client (earlier ++ last ∷ []) ≡ ended_by number client earlier ++ GaveUp (last.at.failed + 1) Disk ∷ []
last_mine number client earlier last same txn there stops =
    ended_more number client earlier last ∙ ap (and_maybe (ended_by number client earlier)) (result_mine number client txn last same there ∙ stopping txn.update client.tries last.at last.gave stops)

last_other : (number : ℕ) (client : JobClient) (earlier : List Turn) (last : Turn) → last.client ≢ number → ended_by number client (earlier ++ last ∷ []) ≡ ended_by number client earlier
last_other number client earlier last apart = ended_more number client earlier last ∙ ap (and_maybe (ended_by number client earlier)) (result_other number client last apart)

-- the clients before the one that took the last turn, and those behind it, have none
none_else : (number : ℕ) (clients : List JobClient) (earlier : List Turn) (last : Turn) → AllByRecursion (λ turn. StopsRun turn.gave → ⊥) earlier → last.client < number → disk_faults (results_from number clients (earlier ++ last ∷ [])) ≡ 0
none_else number [] earlier last goes low = refl
none_else number (client ∷ clients) earlier last goes low =
    let turns : List Turn = earlier ++ last ∷ [] in
    let all : disk_faults (results_from number (client ∷ clients) turns) ≡ faults_in (results_of number client turns) + disk_faults (results_from (number + 1) clients turns) = sum_by-cons faults_in (results_of number client turns) (results_from (number + 1) clients turns) in
    let first = faults_by number client turns in
    let none = ap faults_in (last_other number client earlier last (λ e. absurd (omega (arith, low, e)))) ∙ none_ended number client earlier goes in
    let rest = none_else (number + 1) clients earlier last goes (omega (arith, low)) in
    omega (arith, all, first, none, rest)

one_of : (number : ℕ) (clients : List JobClient) (earlier : List Turn) (last : Turn) (i : ℕ) (client : JobClient) → AllByRecursion (λ turn. StopsRun turn.gave → ⊥) earlier → StopsRun last.gave → last.client ≡ number + i
    → slice_get clients i ≡ Some client → (txn : Txn) → slice_get client.txns last.at.txn ≡ Some txn → disk_faults (results_from number clients (earlier ++ last ∷ [])) ≡ 1
one_of number [] earlier last i client goes stops whose there txn at = absurd (none-some client there)
one_of number (first ∷ clients) earlier last zero client goes stops whose there txn at =
    let turns : List Turn = earlier ++ last ∷ [] in
    let same : first ≡ client = same_Some first client there in
    let all : disk_faults (results_from number (first ∷ clients) turns) ≡ faults_in (results_of number first turns) + disk_faults (results_from (number + 1) clients turns) = sum_by-cons faults_in (results_of number first turns) (results_from (number + 1) clients turns) in
    let own = faults_by number first turns in
    let mine = ap faults_in (last_mine number first earlier last (let e : last.client ≡ number = omega (arith, whose) in e) txn (ap (λ (c : JobClient). slice_get c.txns last.at.txn) same ∙ at) stops) ∙ faults_of (ended_by number first earlier) (GaveUp (last.at.failed + 1) Disk ∷ []) in
    let before = none_ended number first earlier goes in
    let rest = none_else (number + 1) clients earlier last goes (omega (arith, whose)) in
    omega (arith, all, own, mine, before, rest)
one_of number (first ∷ clients) earlier last (suc i) client goes stops whose there txn at =
    let turns : List Turn = earlier ++ last ∷ [] in
    let all : disk_faults (results_from number (first ∷ clients) turns) ≡ faults_in (results_of number first turns) + disk_faults (results_from (number + 1) clients turns) = sum_by-cons faults_in (results_of number first turns) (results_from (number + 1) clients turns) in
    let own = faults_by number first turns in
    let none = ap faults_in (last_other number first earlier last (λ e. absurd (omega (arith, whose, e)))) ∙ none_ended number first earlier goes in
    let rest = one_of (number + 1) clients earlier last i client goes stops (omega (arith, whose)) there txn at in
    omega (arith, all, own, none, rest)

-- ---- a run

faults_told : (job : Job) (first after : Moment) (failed : Bool) (turns : List Turn) (end : ℕ) → Takes job first 0 turns after end → HasEnded job failed turns after → disk_faults (results_from 0 job.clients turns) ≡ cond failed 1 0
faults_told job first after true turns end takes ended =
    let last : Turn = ended.1 in
    let is = is_last job ended.0 last first after 0 end (subst (λ (l : List Turn). Takes job first 0 l after end) ended.2 takes) in
    ap (λ (l : List Turn). disk_faults (results_from 0 job.clients l)) ended.2
    ∙ one_of 0 job.clients ended.0 last last.client is.placed.client is.goes ended.3 (let e : last.client ≡ 0 + last.client = omega arith in e) is.placed.there is.placed.txn is.placed.at
faults_told job first after false turns end takes ended = no_faults 0 job.clients turns ended.0

pub one_fault : (job : Job) (first after : Moment) (run : TurnsRun) → IsRunBy job first after run → disk_faults run.results ≡ cond run.disk_failed 1 0
one_fault job first after run by = ap disk_faults by.are ∙ faults_told job first after run.disk_failed by.turns by.end by.taken by.ended

-- ---- a run that a disk call ended

bounded_at : (bounds : Bounds) (number : ℕ) (clients : List JobClient) (turns : List Turn) (i : ℕ) (client : JobClient) → slice_get clients i ≡ Some client → AreBounded bounds clients (results_from number clients turns)
    → AllByRecursion (IsResultWithin bounds client) (results_of (number + i) client turns)
bounded_at bounds number [] turns i client there bounded = absurd (none-some client there)
bounded_at bounds number (first ∷ clients) turns zero client there bounded =
    subst (λ (c : JobClient). AllByRecursion (IsResultWithin bounds c) (results_of (number + 0) c turns)) (same_Some first client there)
    (subst (λ (n : ℕ). AllByRecursion (IsResultWithin bounds first) (results_of n first turns)) (let e : number ≡ number + 0 = omega arith in e) bounded.0)
bounded_at bounds number (first ∷ clients) turns (suc i) client there bounded =
    subst (λ (n : ℕ). AllByRecursion (IsResultWithin bounds client) (results_of n client turns)) (let e : number + 1 + i ≡ number + suc i = omega arith in e)
    (bounded_at bounds (number + 1) clients turns i client there bounded.1)

may_fail : (job : Job) (first after : Moment) (failed : Bool) (turns : List Turn) (end : ℕ) (bounds : Bounds) → Takes job first 0 turns after end → HasEnded job failed turns after → AreBounded bounds job.clients (results_from 0 job.clients turns)
    → failed ≡ true → bounds.fails
may_fail job first after false turns end bounds takes ended bounded failed = absurd (false≢true failed)
may_fail job first after true turns end bounds takes ended bounded failed =
    let last : Turn = ended.1 in
    let is = is_last job ended.0 last first after 0 end (subst (λ (l : List Turn). Takes job first 0 l after end) ended.2 takes) in
    let client : JobClient = is.placed.client in
    let before : List TxnResult = ended_by last.client client ended.0 in
    let result : TxnResult = GaveUp (last.at.failed + 1) Disk in
    let count : ℕ = length client.txns - length (ended_by last.client client turns) in
    let own = bounded_at bounds 0 job.clients turns last.client client is.placed.there bounded in
    let e : 0 + last.client ≡ last.client = omega arith in
    let mine : ended_by last.client client turns ≡ before ++ result ∷ [] = ap (ended_by last.client client) ended.2 ∙ last_mine last.client client ended.0 last refl is.placed.txn is.placed.at ended.3 in
    let all : results_of last.client client turns ≡ before ++ result ∷ replicate count NotRun = ap (λ (l : List TxnResult). l ++ replicate count NotRun) mine ∙ append_assoc before (result ∷ []) (replicate count NotRun) in
    all_middle (IsResultWithin bounds client) before result (replicate count NotRun)
    (subst (AllByRecursion (IsResultWithin bounds client)) all (subst (λ (n : ℕ). AllByRecursion (IsResultWithin bounds client) (results_of n client turns)) e own))

pub disk_may_fail : (job : Job) (first after : Moment) (run : TurnsRun) (bounds : Bounds) → IsRunBy job first after run → AreBounded bounds job.clients run.results → run.disk_failed ≡ true → bounds.fails
disk_may_fail job first after run bounds by bounded failed = may_fail job first after run.disk_failed by.turns by.end bounds by.taken by.ended (subst (AreBounded bounds job.clients) by.are bounded) failed
