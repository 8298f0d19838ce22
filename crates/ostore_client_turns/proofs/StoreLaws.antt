-- A turn of one client, among all clients of the job.
use Rattle.std.proofs.Common.{◌≡◌, ◌≢◌, ◌<◌, ◌≤◌, ◌+◌, ◌-◌, inl, inr, ℕ, zero, suc, Bool, true, false, cond, List, [], ◌∷◌, ◌++◌, length, map, Option, Some, Result, Ok, Err, refl, sym, ap, subst, ◌∙◌, arith}
use Rattle.std.specs.Prelude.{option_and_then}
use Rattle.std.specs.Option.{option_map}
use Rattle.std.specs.List.{slice_get, AllByRecursion}
use Rattle.std.proofs.lemmas.Bool.{false≢true, lt-ltb, ltb-true}
use Rattle.std.proofs.lemmas.Bool.Decides.{eqb_tells}
use Rattle.std.proofs.lemmas.List.{map-append}
use Rattle.std.proofs.lemmas.Option.{none-some, same_Some, slice_get-map, slice_get_within}
use Rattle.std.proofs.Math.Dec.{eqb-suc-zero, ltb}
use Rattle.ostore_base.specs.Limits.{most_clients}
use Rattle.ostore_base.specs.declared.page.PageImage.{PageImage}
use Rattle.ostore_schema_layout.specs.declared.schema.Schema.{Schema}
use Rattle.ostore_page_service.specs.declared.answers.CommitFault.{CommitFault}
use Rattle.ostore_page_service.specs.declared.answers.CommitFault.TheVariants as commit_faults
use Rattle.ostore_page_service.specs.Told.{MayCome, Side, SameService, Told, Undisturbed}
use Rattle.ostore_graph_model.specs.declared.commands.Script.{Script}
use Rattle.ostore_graph_model.specs.declared.commands.Txn.{Txn}
use Rattle.ostore_graph_model.specs.declared.history.Committed.{Committed as Recorded}
use Rattle.ostore_graph_model.specs.declared.history.Entry.{Entry}
use Rattle.ostore_graph_model.specs.declared.values.Reply.{Reply}
use Rattle.ostore_graph_model.specs.History.{txn_at}
use Rattle.ostore_job_text.specs.declared.job.Job.{Job}
use Rattle.ostore_job_text.specs.declared.job.JobClient.{JobClient}
use Rattle.ostore_object_ops.specs.Suits.{IsBuilt}
use Rattle.ostore_run_report.specs.declared.results.Cause.{Cause}
use Rattle.ostore_run_report.specs.declared.results.Cause.TheVariants as causes
use Rattle.ostore_run_report.specs.Results.{committed_as}
use Rattle.ostore_client_core.specs.declared.fault.AttemptFault.{AttemptFault}
use Rattle.ostore_client_core.specs.declared.fault.AttemptFault.TheVariants as faults
use Rattle.ostore_transactions.specs.declared.line.Line.{Line}
use Rattle.ostore_transactions.specs.declared.line.Line.TheVariants as lines
use Rattle.ostore_transactions.specs.Attempts.{last_line, line_at}
use Rattle.ostore_transactions.specs.Causes.{CrowdsPages as CrowdsThere, FailsToCommit, FindsNoPlace, IsCommandLine as IsCommand, LacksPages as LacksThere}
use Rattle.ostore_transactions.specs.Lines.{HasFailed, entry_by}
use Rattle.ostore_turns.specs.declared.attempts.Gave.{Gave}
use Rattle.ostore_turns.specs.declared.attempts.Gave.TheVariants.{Going, Committed, Aborted}
use Rattle.ostore_turns.specs.declared.place.Place.{Place}
use Rattle.ostore_turns.specs.Places.{IsIn, Moment, moved}
use Rattle.ostore_turns.specs.LawfulTurns.{commits_then, IsCauseAt, IsCommandLine, IsLastLine, MakesIn, MayGive, Turns, moved_one, recorded_one, records_then}
use Rattle.ostore_turns.specs.Bounds.{GivesWithin, IsBounded}
use Rattle.ostore_graph_history.specs.Histories.{committed_entry}
use Rattle.ostore_graph_history.specs.Space.{IsAhead, IsBelowScript, LacksPages, LawOfFewPages, LawOfLackedSpace}
use Rattle.ostore_client_turns.specs.Causes.{cause_of, cause_of_commit}
use Rattle.ostore_client_turns.specs.Runs.{AreBuilt, bounds_of, script_of}
use Rattle.ostore_client_turns.specs.inside.Stores.{AreSeated, AreTold, IsReady, IsSeated, IsVacant, SeatView, moment_in, place_of, recorded}
use Rattle.ostore_client_turns.specs.inside.Turning.{GivesLine, MayExecute, TakesTurn, gave_of}
use Rattle.ostore_client_core.proofs.StayLaws.{Stays}
use Rattle.ostore_client_turns.proofs.StayLaws.{stays_seated, stays_vacant}
use Rattle.ostore_client_turns.proofs.MetLaws.{is_met}
use Rattle.ostore_client_turns.proofs.TurnLaws.{commits_turned, has_cause, number_is, script_kept, service_same, turned_seat}

-- ---- lists

pub all_at : {X : Type 0} (P : X → Type 0) (xs : List X) (i : ℕ) (x : X) → AllByRecursion P xs → slice_get xs i ≡ Some x → P x
all_at P [] i x all there = absurd (none-some x there)
all_at P (y ∷ ys) zero x all there = subst P (same_Some y x there) all.0
all_at P (y ∷ ys) (suc i) x all there = all_at P ys i x all.1 there

-- ---- the transaction of a client

built_there : (job : Job) (number i : ℕ) (client : JobClient) (txn : Txn) → AreBuilt job → slice_get job.clients number ≡ Some client → slice_get client.txns i ≡ Some txn → AllByRecursion IsBuilt txn.commands
built_there job number i client txn built there next =
    all_at (λ (t : Txn). AllByRecursion IsBuilt t.commands) client.txns i txn
    (all_at (λ (c : JobClient). AllByRecursion (λ (t : Txn). AllByRecursion IsBuilt t.commands) c.txns) job.clients number client built there) next

txn_named : (schema : Schema) (job : Job) (number i : ℕ) (client : JobClient) (txn : Txn) → slice_get job.clients number ≡ Some client → slice_get client.txns i ≡ Some txn → txn_at (script_of schema job) number (i + 1) ≡ Some txn
txn_named schema job number i client txn there next =
    let less : suc i - 1 ≡ i = omega arith in
    let ordinal : i + 1 ≡ suc i = omega arith in
    let at : txn_at (script_of schema job) number (suc i) ≡ option_and_then (λ (txns : List Txn). slice_get txns i) (slice_get (map (λ (c : JobClient). c.txns) job.clients) number) = rw (eqb-suc-zero i, less) refl in
    ap (txn_at (script_of schema job) number) ordinal ∙ at
    ∙ ap (λ (o : Option (List Txn)). option_and_then (λ (txns : List Txn). slice_get txns i) o) (slice_get-map (λ (c : JobClient). c.txns) job.clients number ∙ ap (option_map (λ (c : JobClient). c.txns)) there)
    ∙ next

-- ---- an object that finds no place

-- it is made in the segment that has none
makes_in : (schema : Schema) (txn : Txn) (segment need : ℕ) → txn.update ≡ true → FindsNoPlace schema txn (record { segment = segment; need = need }) → MakesIn txn segment
makes_in schema txn segment need update (replies, list, (command, there, lacks)) =
    record { update = update; place = length replies; to = lacks.to; ty = lacks.ty; command = there ∙ ap Some lacks.is }

-- ---- a client whose turn it is

-- a client of the job at its place
pub record IsTurn (job : Job) (seats : ℕ → Option SeatView) (number : ℕ) (client : JobClient) (txn : Txn) (old : SeatView) : Type 0 where
  pub there : slice_get job.clients number ≡ Some client
  pub sits : seats number ≡ Some old
  pub next : slice_get client.txns old.place.txn ≡ Some txn

pub turn_in : (told : ℕ → Told Entry) (commits : ℕ) (job : Job) (seats : ℕ → Option SeatView) (number : ℕ) (txn : Txn) (old : SeatView) (is_in : IsIn job.clients (moment_in told commits seats) number txn) → seats number ≡ Some old
    → IsTurn job seats number is_in.client txn old
turn_in told commits job seats number txn old is_in sits = record {
  there = is_in.there;
  sits = sits;
  next = ap (λ (p : Place). slice_get is_in.client.txns p.txn) (sym (ap place_of sits)) ∙ is_in.next;
}

-- the seat of a client of the job
pub seat_there : (serves : Script → Type 0) (told : ℕ → Told Entry) (schema : Schema) (job : Job) (seats : ℕ → Option SeatView) (number : ℕ) (client : JobClient) (old : SeatView) → AreSeated serves told schema job.clients seats
    → slice_get job.clients number ≡ Some client → seats number ≡ Some old → IsSeated serves (told number) schema client old
seat_there serves told schema job seats number client old seated there sits =
    let found = seated.each number client there in
    subst (IsSeated serves (told number) schema client) (same_Some found.0 old (sym found.1 ∙ sits)) found.2

pub may_execute : (serves : Script → Type 0) (told : ℕ → Told Entry) (opened : List PageImage) (commits : ℕ) (schema : Schema) (job : Job) (seats : ℕ → Option SeatView) (number : ℕ) (client : JobClient) (txn : Txn) (old : SeatView)
    → IsReady serves told schema job seats → AreTold told opened commits → IsTurn job seats number client txn old → MayExecute serves (told number) schema txn (old.place.txn + 1) old.client old.attempt
may_execute serves told opened commits schema job seats number client txn old ready all turn =
    let seated = seat_there serves told schema job seats number client old ready.seated turn.there turn.sits in
    record {
      own = seated.own;
      at = seated.at txn turn.next;
      named = record {
        script = script_of schema job;
        served = ready.served;
        schema = sym seated.of_schema;
        named = ap (λ (n : ℕ). txn_at (script_of schema job) n (old.place.txn + 1)) (all.client number) ∙ txn_named schema job number old.place.txn client txn turn.there turn.next;
        rises = seated.earlier;
      };
      of_schema = seated.of_schema;
      runs = record {
        lawful = ready.executable.lawful;
        ints = ready.executable.ints;
        built = built_there job number old.place.txn client txn ready.executable.built turn.there turn.next;
      };
    }

-- ---- a turn

-- the client of the turn sits where it is then, and the others sit where they sat
pub record Replaces (seats after : ℕ → Option SeatView) (number : ℕ) (new : SeatView) : Type 0 where
  pub here : after number ≡ Some new
  pub others : (other : ℕ) → other ≢ number → after other ≡ seats other

module _ (serves later : Script → Type 0) (told now : ℕ → Told Entry) (opened : List PageImage) (commits then : ℕ) (schema : Schema) (job : Job) (seats after : ℕ → Option SeatView)
    (number : ℕ) (client : JobClient) (txn : Txn) (old new : SeatView) (gave : Gave)
    (ready : IsReady serves told schema job seats) (all : AreTold told opened commits) (all_now : AreTold now opened then)
    (turn : IsTurn job seats number client txn old) (replaces : Replaces seats after number new)
    (took : TakesTurn serves later (told number) (now number) client.tries txn old new gave) where
  abbrev before : Moment
  before = moment_in told commits seats

  low : number < most_clients
  low = let within = slice_get_within job.clients number client turn.there in let few = ready.executable.few in omega arith

  seat : IsSeated serves (told number) schema client old
  seat = seat_there serves told schema job seats number client old ready.seated turn.there turn.sits

  same : SameService (told number) (now number)
  same = service_same serves later (told number) (now number) old.client new.client txn (line_at old.attempt) new.attempt (old.place.txn + 1) took.result took.executes.gives

  -- ---- the others

  undisturbed : (other : ℕ) → other < most_clients → other ≢ number → Undisturbed (told other).mine (now other).mine
  undisturbed other less apart =
      subst (λ (side : Side Entry). Undisturbed side (now other).mine) (all.others number other)
      (subst (λ (side : Side Entry). Undisturbed ((told number).others other) side) (all_now.others number other)
      (same.others other less (λ is. apart (is ∙ all.client number))))

  stays : (other : ℕ) → other < most_clients → other ≢ number → Stays (told other) (now other)
  stays other less apart = record {
    client = all_now.client other ∙ sym (all.client other);
    opened = all_now.opens other ∙ sym (all.opens other);
    mine = undisturbed other less apart;
  }

  named : txn_at (script_of schema job) (told number).client (old.place.txn + 1) ≡ Some txn
  named = ap (λ (n : ℕ). txn_at (script_of schema job) n (old.place.txn + 1)) (all.client number) ∙ txn_named schema job number old.place.txn client txn turn.there turn.next

  served : later (script_of schema job)
  served = script_kept serves later (told number) (now number) old.client new.client txn (line_at old.attempt) new.attempt (old.place.txn + 1) took.result took.executes.gives (script_of schema job) ready.served
      (sym seat.of_schema) named

  seat_of : (other : ℕ) (its : JobClient) → slice_get job.clients other ≡ Some its → (sits : SeatView) × (after other ≡ Some sits) × IsSeated later (now other) schema its sits
  seat_of other its there = elim (eqb_tells other number) [
    | inl is ↦ (
        let mine : its ≡ client = same_Some its client (sym there ∙ ap (slice_get job.clients) is.1 ∙ turn.there) in (
          new,
          ap after is.1 ∙ replaces.here,
          subst (λ (c : JobClient). IsSeated later (now other) schema c new) (sym mine)
              (subst (λ (n : ℕ). IsSeated later (now n) schema client new) (sym is.1)
              (turned_seat serves later (told number) (now number) schema client txn old new gave seat turn.next took)),
        )
        )
    | inr apart ↦ (
        let found = ready.seated.each other its there in
        let within = slice_get_within job.clients other its there in
        let few = ready.executable.few in (
          found.0,
          replaces.others other apart.1 ∙ found.1,
          stays_seated serves later (told other) (now other) schema its found.0 (stays other (omega arith) apart.1) (script_of schema job, served, refl) found.2,
        )
        )
  ]

  vacant_of : (other : ℕ) → length job.clients ≤ other → other < most_clients → IsVacant (now other)
  vacant_of other high less =
      let within = slice_get_within job.clients number client turn.there in
      stays_vacant (told other) (now other) (stays other less (λ is. absurd (omega arith))) (ready.seated.vacant other high less)

  pub ready_then : IsReady later now schema job after
  ready_then = record {
    executable = ready.executable;
    served = served;
    seated = record { each = seat_of; vacant = vacant_of };
  }

  -- ---- what the line may have given

  here : before.places number ≡ old.place
  here = ap place_of turn.sits

  line_here : (before.places number).line ≡ line_at old.attempt
  line_here = ap (λ (p : Place). p.line) here ∙ seat.line

  at_last : line_at old.attempt ≡ last_line txn → IsLastLine txn (before.places number)
  at_last last = let line = line_here in omega arith

  at_command : IsCommand txn (line_at old.attempt) → IsCommandLine txn (before.places number)
  at_command command =
      let line = line_here in
      let low_line = command.0 in
      let high_line = command.1 in
      (omega arith, omega arith)

  cause_commit : (fault : CommitFault) (cause : Cause) → cause_of_commit fault ≡ Some cause → line_at old.attempt ≡ last_line txn → FailsToCommit (told number) (now number) txn fault → IsCauseAt job.clients before number txn cause
  cause_commit commit_faults.DiskFault cause is last fails = subst (IsCauseAt job.clients before number txn) (same_Some causes.Disk cause is) (at_last last, fails.update, fails.kept)
  cause_commit (commit_faults.Stopped count) cause is last fails = subst (IsCauseAt job.clients before number txn) (same_Some causes.Disk cause is) (at_last last, fails.update, fails.kept)
  cause_commit commit_faults.OutOfMemory cause is last fails = absurd (none-some cause is)

  cause_may : (fault : AttemptFault) (cause : Cause) → cause_of fault ≡ Some cause → HasFailed serves later (told number) (now number) old.client new.client txn (line_at old.attempt) new.attempt fault
      → IsCauseAt job.clients before number txn cause
  cause_may (faults.Busy busy) cause is failed = subst (IsCauseAt job.clients before number txn) (same_Some (causes.Busy busy.page busy.seen busy.found) cause is)
      (at_command failed.at, is_met serves told schema job.clients seats opened commits number txn busy.page.0 all ready.seated failed.cause.0.met)
  cause_may (faults.NoSpace segment need) cause is failed = subst (IsCauseAt job.clients before number txn) (same_Some (causes.NoSpace segment need) cause is)
      (at_command failed.at, makes_in old.client.schema txn segment need failed.cause.0 failed.cause.4)
  cause_may (faults.CacheFull used capacity) cause is failed = subst (IsCauseAt job.clients before number txn) (same_Some (causes.CacheFull used capacity) cause is) (at_command failed.at)
  cause_may (faults.SpaceFull frames) cause is failed = subst (IsCauseAt job.clients before number txn) (same_Some (causes.SpaceFull frames) cause is) (at_command failed.at)
  cause_may (faults.Commit fault) cause is failed = cause_commit fault cause is failed.at failed.cause.0
  cause_may faults.OutOfMemory cause is failed = absurd (none-some cause is)

  may_by : (result : Result Line AttemptFault) → GivesLine serves later (told number) (now number) old.client new.client txn (line_at old.attempt) new.attempt (old.place.txn + 1) result → gave_of result ≡ Some gave
      → MayGive job.clients before number txn gave
  may_by (Ok lines.Going) gives is = subst (MayGive job.clients before number txn) (same_Some Going gave is)
      (λ last. (let line = line_here in let left = gives.left in absurd (omega arith)))
  may_by (Ok (lines.Committed count replies)) gives is = subst (MayGive job.clients before number txn) (same_Some (Committed count replies) gave is)
      (at_last gives.last, gives.kept, number_is txn.update (told number) (now number) count commits gives.done.numbers (all.reached number))
  may_by (Ok lines.Aborted) gives is = subst (MayGive job.clients before number txn) (same_Some Aborted gave is) (at_last gives.last, gives.aborts)
  may_by (Err fault) gives is =
      let caused = has_cause fault gave is in
      subst (MayGive job.clients before number txn) (sym caused.gave_is) (cause_may fault caused.cause caused.is gives)

  -- ---- within its bounds

  bounded_commit : (fault : CommitFault) (cause : Cause) (its : JobClient) → cause_of_commit fault ≡ Some cause → MayCome fault (told number).may_fail → IsBounded (bounds_of (script_of schema job) opened) its cause
  bounded_commit commit_faults.DiskFault cause its is may = absurd (false≢true (sym (all.sound number) ∙ may))
  bounded_commit (commit_faults.Stopped count) cause its is may = absurd (false≢true (sym (all.sound number) ∙ may))
  bounded_commit commit_faults.OutOfMemory cause its is may = absurd (none-some cause is)

  ahead : IsAhead (script_of schema job) (told number).client (old.place.txn + 1) txn (told number).mine.records
  ahead = record { named = named; rises = seat.earlier }

  lacks : LawOfLackedSpace → txn.update ≡ true → LacksThere (script_of schema job) (told number) txn → LacksPages (script_of schema job) opened
  lacks law update there = subst (LacksPages (script_of schema job)) (all.opens number)
      (law (script_of schema job) (told number).first there.number (told number).client (old.place.txn + 1) (told number).opened there.list (told number).mine.records there.reached txn ahead update there.lacks)

  crowds : LawOfFewPages → (capacity : ℕ) → CrowdsThere (script_of schema job) (told number) txn capacity → IsBelowScript (script_of schema job) opened capacity
  crowds law capacity there = subst (λ (pages : List PageImage). IsBelowScript (script_of schema job) pages capacity) (all.opens number)
      (law (script_of schema job) (told number).first there.number (told number).client (old.place.txn + 1) (told number).opened there.list (told number).mine.records there.reached txn ahead capacity there.below)

  bounded_by : LawOfLackedSpace → LawOfFewPages → (fault : AttemptFault) (cause : Cause) (its : JobClient) → cause_of fault ≡ Some cause → slice_get job.clients number ≡ Some its
      → HasFailed serves later (told number) (now number) old.client new.client txn (line_at old.attempt) new.attempt fault → IsBounded (bounds_of (script_of schema job) opened) its cause
  bounded_by lacked few (faults.Busy busy) cause its is its_there failed = subst (IsBounded (bounds_of (script_of schema job) opened) its) (same_Some (causes.Busy busy.page busy.seen busy.found) cause is) tt
  bounded_by lacked few (faults.NoSpace segment need) cause its is its_there failed = subst (IsBounded (bounds_of (script_of schema job) opened) its) (same_Some (causes.NoSpace segment need) cause is)
      (lacks lacked failed.cause.0 (failed.cause.1 (script_of schema job) ready.served (sym seat.of_schema)))
  bounded_by lacked few (faults.CacheFull used capacity) cause its is its_there failed =
      let mine : its ≡ client = same_Some its client (sym its_there ∙ turn.there) in
      let most : capacity ≡ its.cache = failed.cause.1 ∙ seat.most ∙ ap (λ (c : JobClient). c.cache) (sym mine) in
      subst (IsBounded (bounds_of (script_of schema job) opened) its) (same_Some (causes.CacheFull used capacity) cause is) (
        failed.cause.0,
        most,
        subst (λ (n : ℕ). n < length opened) most (subst (λ (pages : List PageImage). capacity < length pages) (all.opens number) failed.cause.2),
        subst (IsBelowScript (script_of schema job) opened) most (crowds few capacity (failed.cause.3 (script_of schema job) ready.served (sym seat.of_schema))),
      )
  bounded_by lacked few (faults.SpaceFull frames) cause its is its_there failed =
      let mine : its ≡ client = same_Some its client (sym its_there ∙ turn.there) in
      let most : frames ≡ its.frames = failed.cause.0 ∙ seat.frames ∙ ap (λ (c : JobClient). c.frames) (sym mine) in
      subst (IsBounded (bounds_of (script_of schema job) opened) its) (same_Some (causes.SpaceFull frames) cause is)
      (most, subst (λ (n : ℕ). n < length opened) most (subst (λ (pages : List PageImage). frames < length pages) (all.opens number) failed.cause.1))
  bounded_by lacked few (faults.Commit fault) cause its is its_there failed = bounded_commit fault cause its is failed.cause.0.may
  bounded_by lacked few faults.OutOfMemory cause its is its_there failed = absurd (none-some cause is)

  within_by : LawOfLackedSpace → LawOfFewPages → (result : Result Line AttemptFault) → GivesLine serves later (told number) (now number) old.client new.client txn (line_at old.attempt) new.attempt (old.place.txn + 1) result → gave_of result ≡ Some gave
      → GivesWithin (bounds_of (script_of schema job) opened) job.clients number gave
  within_by lacked few (Ok lines.Going) gives is = subst (GivesWithin (bounds_of (script_of schema job) opened) job.clients number) (same_Some Going gave is) tt
  within_by lacked few (Ok (lines.Committed count replies)) gives is = subst (GivesWithin (bounds_of (script_of schema job) opened) job.clients number) (same_Some (Committed count replies) gave is) tt
  within_by lacked few (Ok lines.Aborted) gives is = subst (GivesWithin (bounds_of (script_of schema job) opened) job.clients number) (same_Some Aborted gave is) tt
  within_by lacked few (Err fault) gives is =
      let caused = has_cause fault gave is in
      subst (GivesWithin (bounds_of (script_of schema job) opened) job.clients number) (sym caused.gave_is) (λ its its_there. bounded_by lacked few fault caused.cause its caused.is its_there gives)

  pub within_bounds : LawOfLackedSpace → LawOfFewPages → GivesWithin (bounds_of (script_of schema job) opened) job.clients number gave
  within_bounds lacked few = within_by lacked few took.result took.executes.gives took.gives

  -- ---- what has been committed

  entry_is : (count : ℕ) (replies : List Reply) (at : Place) → at ≡ old.place → committed_entry (entry_by (told number).client (old.place.txn + 1) txn replies, count) ≡ committed_as number (at.txn + 1) txn.update count replies
  entry_is count replies at is = ap (λ (n : ℕ). committed_entry (entry_by n (old.place.txn + 1) txn replies, count)) (all.client number)
      ∙ ap (λ (p : Place). committed_as number (p.txn + 1) txn.update count replies) (sym is)

  recorded_by : (result : Result Line AttemptFault) → GivesLine serves later (told number) (now number) old.client new.client txn (line_at old.attempt) new.attempt (old.place.txn + 1) result → gave_of result ≡ Some gave
      → map committed_entry (now number).mine.records ≡ records_then number (before.places number) txn.update gave (map committed_entry (told number).mine.records)
  recorded_by (Ok lines.Going) gives is = subst (λ (g : Gave). map committed_entry (now number).mine.records ≡ records_then number (before.places number) txn.update g (map committed_entry (told number).mine.records))
      (same_Some Going gave is) (ap (map committed_entry) gives.same.records)
  recorded_by (Ok (lines.Committed count replies)) gives is = subst (λ (g : Gave). map committed_entry (now number).mine.records ≡ records_then number (before.places number) txn.update g (map committed_entry (told number).mine.records))
      (same_Some (Committed count replies) gave is)
      (ap (map committed_entry) gives.done.records ∙ map-append committed_entry (told number).mine.records _
      ∙ ap (λ (one : Recorded). map committed_entry (told number).mine.records ++ one ∷ []) (entry_is count replies (before.places number) here))
  recorded_by (Ok lines.Aborted) gives is = subst (λ (g : Gave). map committed_entry (now number).mine.records ≡ records_then number (before.places number) txn.update g (map committed_entry (told number).mine.records))
      (same_Some Aborted gave is) (ap (map committed_entry) gives.same.records)
  recorded_by (Err fault) gives is =
      let caused = has_cause fault gave is in
      subst (λ (g : Gave). map committed_entry (now number).mine.records ≡ records_then number (before.places number) txn.update g (map committed_entry (told number).mine.records)) (sym caused.gave_is)
      (ap (map committed_entry) gives.same.records)

  recorded_here : (records : ℕ → Told Entry) → recorded records number ≡ map committed_entry (records number).mine.records
  recorded_here records = ap (λ (b : Bool). cond b (map committed_entry (records number).mine.records) []) (lt-ltb number most_clients low)

  recorded_other : (other : ℕ) (less : Bool) → ltb other most_clients ≡ less → other ≢ number → cond less (map committed_entry (now other).mine.records) [] ≡ cond less (map committed_entry (told other).mine.records) []
  recorded_other other true is apart = ap (map committed_entry) (undisturbed other (ltb-true other most_clients is) apart).records
  recorded_other other false is apart = refl

  records_turned : (other : ℕ) → recorded now other ≡ recorded_one number (before.places number) txn.update gave (recorded told) other
  records_turned other = elim (eqb_tells other number) [
    | inl is ↦ (
        let mine : recorded now number ≡ records_then number (before.places number) txn.update gave (recorded told number) =
        recorded_here now ∙ recorded_by took.result took.executes.gives took.gives ∙ ap (records_then number (before.places number) txn.update gave) (sym (recorded_here told)) in
        ap (recorded now) is.1 ∙ mine ∙ ap (λ (n : ℕ). records_then number (before.places number) txn.update gave (recorded told n)) (sym is.1)
        ∙ ap (λ (b : Bool). cond b (records_then number (before.places number) txn.update gave (recorded told other)) (recorded told other)) (sym is.0)
        )
    | inr apart ↦ (
        recorded_other other (ltb other most_clients) refl apart.1
        ∙ ap (λ (b : Bool). cond b (records_then number (before.places number) txn.update gave (recorded told other)) (recorded told other)) (sym apart.0)
        )
  ]

  places_turned : (other : ℕ) → place_of (after other) ≡ moved_one number client.tries gave before.places other
  places_turned other = elim (eqb_tells other number) [
    | inl is ↦ (
        let mine : place_of (after number) ≡ moved client.tries (before.places number) gave =
        ap place_of replaces.here ∙ took.place ∙ ap (λ (p : Place). moved client.tries p gave) (sym here) in
        ap (λ (n : ℕ). place_of (after n)) is.1 ∙ mine ∙ ap (λ (n : ℕ). moved client.tries (before.places n) gave) (sym is.1)
        ∙ ap (λ (b : Bool). cond b (moved client.tries (before.places other) gave) (before.places other)) (sym is.0)
        )
    | inr apart ↦ (
        ap place_of (replaces.others other apart.1)
        ∙ ap (λ (b : Bool). cond b (moved client.tries (before.places other) gave) (before.places other)) (sym apart.0)
        )
  ]

  pub may_turn : MayGive job.clients (moment_in told commits seats) number txn gave
  may_turn = may_by took.result took.executes.gives took.gives

  pub commits_then_are : then ≡ commits_then gave commits
  commits_then_are = commits_turned serves later (told number) (now number) client.tries txn old new gave commits then took (all.reached number) (all_now.reached number)

-- the turn of a client, as a run by turns sees it
pub turns : (serves later : Script → Type 0) (told now : ℕ → Told Entry) (opened : List PageImage) (commits then : ℕ) (schema : Schema) (job : Job) (seats after : ℕ → Option SeatView)
    (number : ℕ) (txn : Txn) (old new : SeatView) (gave : Gave) → IsReady serves told schema job seats → AreTold told opened commits → AreTold now opened then
    → (is_in : IsIn job.clients (moment_in told commits seats) number txn) → seats number ≡ Some old → Replaces seats after number new
    → TakesTurn serves later (told number) (now number) is_in.client.tries txn old new gave
    → Turns job.clients (moment_in told commits seats) number gave (moment_in now then after)
turns serves later told now opened commits then schema job seats after number txn old new gave ready all all_now is_in sits replaces took =
    let turn = turn_in told commits job seats number txn old is_in sits in
    record {
      txn = txn;
      is_in = is_in;
      may = may_turn serves later told now opened commits then schema job seats after number is_in.client txn old new gave ready all all_now turn replaces took;
      places = places_turned serves later told now opened commits then schema job seats after number is_in.client txn old new gave ready all all_now turn replaces took;
      records = records_turned serves later told now opened commits then schema job seats after number is_in.client txn old new gave ready all all_now turn replaces took;
      commits = commits_then_are serves later told now opened commits then schema job seats after number is_in.client txn old new gave ready all all_now turn replaces took;
    }
