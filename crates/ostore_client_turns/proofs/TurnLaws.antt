-- What a client's line, executed at the server, gives as a turn.
use Rattle.std.proofs.Common.{◌≡◌, ◌<◌, ◌≤◌, ◌+◌, ℕ, Bool, true, false, cond, List, [], ◌∷◌, length, Option, Some, None, Result, Ok, Err, refl, sym, ap, subst, ◌∙◌, arith}
use Rattle.std.specs.Prelude.{All}
use Rattle.std.specs.Option.{option_map}
use Rattle.std.specs.List.{slice_get}
use Rattle.std.proofs.lemmas.List.Elements.{All-append, All-cons, All-nil}
use Rattle.std.proofs.lemmas.Option.{none-some, same_Some}
use Rattle.ostore_schema_layout.specs.declared.schema.Schema.{Schema}
use Rattle.ostore_page_service.specs.Told.{Numbers, SameService, Told}
use Rattle.ostore_graph_model.specs.declared.commands.Script.{Script}
use Rattle.ostore_graph_model.specs.declared.commands.Txn.{Txn}
use Rattle.ostore_graph_model.specs.declared.history.Entry.{Entry}
use Rattle.ostore_graph_model.specs.History.{txn_at}
use Rattle.ostore_job_text.specs.declared.job.JobClient.{JobClient}
use Rattle.ostore_run_report.specs.declared.results.Cause.{Cause}
use Rattle.ostore_client_core.specs.declared.fault.AttemptFault.{AttemptFault}
use Rattle.ostore_client_core.specs.Clients.{ClientView, IsOwn}
use Rattle.ostore_client_core.specs.Calls.{SameClient}
use Rattle.ostore_transactions.specs.declared.attempt.Attempt.{Attempt}
use Rattle.ostore_transactions.specs.declared.line.Line.{Line}
use Rattle.ostore_transactions.specs.declared.line.Line.TheVariants as lines
use Rattle.ostore_transactions.specs.Attempts.{IsAt, IsOver, IsWith, line_at, line_in}
use Rattle.ostore_transactions.specs.Lines.{entry_by}
use Rattle.ostore_turns.specs.declared.attempts.Gave.{Gave}
use Rattle.ostore_turns.specs.declared.attempts.Gave.TheVariants.{Going, Committed, Aborted, Failed}
use Rattle.ostore_turns.specs.declared.place.Place.{Place}
use Rattle.ostore_turns.specs.Places.{is_retried, moved, next_attempt, next_line, next_txn}
use Rattle.ostore_turns.specs.LawfulTurns.{commits_then, number_of}
use Rattle.ostore_client_turns.specs.Causes.{cause_of}
use Rattle.ostore_client_turns.specs.inside.Stores.{IsSeated, SeatView}
use Rattle.ostore_client_turns.specs.inside.Turning.{GivesLine, TakesTurn, gave_of}

-- ---- what the line gave

same_going : {line gave : Gave} → Some line ≡ Some gave → gave ≡ line
same_going {line} {gave} is = sym (same_Some line gave is)

-- a fault that is told has a cause
pub record HasCause (fault : AttemptFault) (gave : Gave) : Type 0 where
  pub cause : Cause
  pub is : cause_of fault ≡ Some cause
  pub gave_is : gave ≡ Failed cause

found_cause : (fault : AttemptFault) (found : Option Cause) (gave : Gave) → cause_of fault ≡ found → option_map Failed found ≡ Some gave → HasCause fault gave
found_cause fault None gave here is = absurd (none-some gave is)
found_cause fault (Some cause) gave here is = record { cause = cause; is = here; gave_is = sym (same_Some (Failed cause) gave is) }

pub has_cause : (fault : AttemptFault) (gave : Gave) → gave_of (Err fault) ≡ Some gave → HasCause fault gave
has_cause fault gave is = found_cause fault (cause_of fault) gave refl is

-- ---- what it leaves of the service

module _ (serves later : Script → Type 0) (told now : Told Entry) (old new : ClientView) (txn : Txn) (before : ℕ) (after : Attempt) (ordinal : ℕ) where
  pub service_same : (result : Result Line AttemptFault) → GivesLine serves later told now old new txn before after ordinal result → SameService told now
  service_same (Ok lines.Going) gives = gives.same.service
  service_same (Ok (lines.Committed number replies)) gives = gives.done.service
  service_same (Ok lines.Aborted) gives = gives.same.service
  service_same (Err fault) gives = gives.same.service

  pub script_kept : (result : Result Line AttemptFault) → GivesLine serves later told now old new txn before after ordinal result
      → (script : Script) → serves script → script.schema ≡ old.schema → txn_at script told.client ordinal ≡ Some txn → later script
  script_kept (Ok lines.Going) gives script served schema named = gives.served script served
  script_kept (Ok (lines.Committed number replies)) gives script served schema named = gives.served script served schema named
  script_kept (Ok lines.Aborted) gives script served schema named = gives.served script served
  script_kept (Err fault) gives script served schema named = gives.served script served

-- ---- the number of the last commit

pub number_is : (update : Bool) (told now : Told Entry) (number commits : ℕ) → Numbers update told now number → told.number ≡ Some commits → number ≡ number_of update commits
number_is true told now number commits numbers is = (numbers commits is).0
number_is false told now number commits numbers is = (numbers commits is).0

number_then : (update : Bool) (told now : Told Entry) (number commits then : ℕ) → Numbers update told now number → told.number ≡ Some commits → now.number ≡ Some then → then ≡ number
number_then true told now number commits then numbers is at = let here = numbers commits is in same_Some then (commits + 1) (sym at ∙ here.1) ∙ sym here.0
number_then false told now number commits then numbers is at = let here = numbers commits is in same_Some then commits (sym at ∙ here.1) ∙ sym here.0

commits_by : (serves later : Script → Type 0) (told now : Told Entry) (old new : ClientView) (txn : Txn) (before : ℕ) (after : Attempt) (ordinal commits then : ℕ) (gave : Gave) (result : Result Line AttemptFault)
    → GivesLine serves later told now old new txn before after ordinal result → gave_of result ≡ Some gave → told.number ≡ Some commits → now.number ≡ Some then → then ≡ commits_then gave commits
commits_by serves later told now old new txn before after ordinal commits then gave (Ok lines.Going) gives is first last =
    subst (λ (g : Gave). then ≡ commits_then g commits) (same_Some Going gave is) (same_Some then commits (sym last ∙ gives.same.number ∙ first))
commits_by serves later told now old new txn before after ordinal commits then gave (Ok (lines.Committed number replies)) gives is first last =
    subst (λ (g : Gave). then ≡ commits_then g commits) (same_Some (Committed number replies) gave is) (number_then txn.update told now number commits then gives.done.numbers first last)
commits_by serves later told now old new txn before after ordinal commits then gave (Ok lines.Aborted) gives is first last =
    subst (λ (g : Gave). then ≡ commits_then g commits) (same_Some Aborted gave is) (same_Some then commits (sym last ∙ gives.same.number ∙ first))
commits_by serves later told now old new txn before after ordinal commits then gave (Err fault) gives is first last =
    let caused = has_cause fault gave is in
    subst (λ (g : Gave). then ≡ commits_then g commits) (sym caused.gave_is) (same_Some then commits (sym last ∙ gives.same.number ∙ first))

pub commits_turned : (serves later : Script → Type 0) (told now : Told Entry) (tries : ℕ) (txn : Txn) (old new : SeatView) (gave : Gave) (commits then : ℕ) → TakesTurn serves later told now tries txn old new gave
    → told.number ≡ Some commits → now.number ≡ Some then → then ≡ commits_then gave commits
commits_turned serves later told now tries txn old new gave commits then took first last =
    commits_by serves later told now old.client new.client txn (line_at old.attempt) new.attempt (old.place.txn + 1) commits then gave took.result took.executes.gives took.gives first last

-- ---- the client is seated at its next place

-- what has been committed comes before a place
abbrev pub AreBefore : ℕ → List (Entry × ℕ) → Type 0
AreBefore ordinal records = All (λ (earlier : Entry × ℕ). earlier.0.ordinal < ordinal) records

before_later : (records : List (Entry × ℕ)) (low high : ℕ) → low ≤ high → AreBefore low records → AreBefore high records
before_later records low high most are k d lt = let here = are k d lt in omega arith

-- the same client, with an attempt that has ended, at the first line of an attempt
ended_seat : (later : Script → Type 0) (now : Told Entry) (schema : Schema) (client : JobClient) (seat : SeatView) → IsOwn later now seat.client → seat.client.schema ≡ schema → seat.client.most ≡ client.cache
    → length seat.client.frames.pages ≡ client.frames → IsOver seat.client seat.attempt → seat.place.line ≡ 0 → AreBefore (seat.place.txn + 1) now.mine.records → IsSeated later now schema client seat
ended_seat later now schema client seat own of_schema most frames over line earlier = record {
  own = own;
  of_schema = of_schema;
  most = most;
  frames = frames;
  line = line ∙ sym (ap line_in over.first);
  at = λ txn there. subst (IsWith later now seat.client txn) (sym over.first) over.idle;
  over = λ none. over.idle;
  earlier = earlier;
}

retried_line : (retried : Bool) (at : Place) → (cond retried (next_attempt at) (next_txn at)).line ≡ 0
retried_line true at = refl
retried_line false at = refl

retried_txn : (retried : Bool) (at : Place) → at.txn ≤ (cond retried (next_attempt at) (next_txn at)).txn
retried_txn true at = omega arith
retried_txn false at = omega arith

module _ (serves later : Script → Type 0) (told now : Told Entry) (schema : Schema) (client : JobClient) (txn : Txn) (old new : SeatView)
    (seated : IsSeated serves told schema client old) (there : slice_get client.txns old.place.txn ≡ Some txn)
    (own : IsOwn later now new.client) (at : IsAt later now new.client txn new.attempt) (same : SameClient old.client new.client) where
  of_schema : new.client.schema ≡ schema
  of_schema = same.schema ∙ seated.of_schema

  most_same : new.client.most ≡ client.cache
  most_same = same.most ∙ seated.most

  frames_same : length new.client.frames.pages ≡ client.frames
  frames_same = same.frames ∙ seated.frames

  -- the attempt has ended, with no further record
  given_up : (place : Place) → new.place ≡ place → place.line ≡ 0 → old.place.txn ≤ place.txn → now.mine.records ≡ told.mine.records → IsOver new.client new.attempt → IsSeated later now schema client new
  given_up place is line later_txn records over =
      ended_seat later now schema client new own of_schema most_same frames_same over (ap (λ (p : Place). p.line) is ∙ line)
      (subst (λ (p : Place). AreBefore (p.txn + 1) now.mine.records) (sym is)
      (before_later now.mine.records (old.place.txn + 1) (place.txn + 1) (let low = later_txn in omega arith) (subst (AreBefore (old.place.txn + 1)) (sym records) seated.earlier)))

  seat_by : (gave : Gave) (result : Result Line AttemptFault) → GivesLine serves later told now old.client new.client txn (line_at old.attempt) new.attempt (old.place.txn + 1) result
      → gave_of result ≡ Some gave → new.place ≡ moved client.tries old.place gave → IsSeated later now schema client new
  seat_by gave (Ok lines.Going) gives is moves =
      let place : new.place ≡ next_line old.place = moves ∙ ap (moved client.tries old.place) (same_going is) in
      let txn_same : new.place.txn ≡ old.place.txn = ap (λ (p : Place). p.txn) place in
      record {
        own = own;
        of_schema = of_schema;
        most = most_same;
        frames = frames_same;
        line = ap (λ (p : Place). p.line) place ∙ ap (λ (n : ℕ). n + 1) seated.line ∙ sym gives.next;
        at = λ other found. subst (λ (t : Txn). IsAt later now new.client t new.attempt) (same_Some txn other (sym there ∙ ap (slice_get client.txns) (sym txn_same) ∙ found)) at;
        over = λ none. absurd (none-some txn (sym none ∙ ap (slice_get client.txns) txn_same ∙ there));
        earlier = subst (λ (n : ℕ). AreBefore (n + 1) now.mine.records) (sym txn_same) (subst (AreBefore (old.place.txn + 1)) (sym gives.same.records) seated.earlier);
      }
  seat_by gave (Ok (lines.Committed number replies)) gives is moves =
      let place : new.place ≡ next_txn old.place = moves ∙ ap (moved client.tries old.place) (same_going is) in
      let older : AreBefore (old.place.txn + 1 + 1) told.mine.records = before_later told.mine.records (old.place.txn + 1) (old.place.txn + 1 + 1) (omega arith) seated.earlier in
      let entry : Entry = entry_by told.client (old.place.txn + 1) txn replies in
      let P : Entry × ℕ → Type 0 = λ earlier. earlier.0.ordinal < old.place.txn + 1 + 1 in
      let last : All P ((entry, number) ∷ []) = All-cons P (entry, number) [] (omega arith) (All-nil P) in
      let all : AreBefore (old.place.txn + 1 + 1) now.mine.records = subst (AreBefore (old.place.txn + 1 + 1)) (sym gives.done.records)
      (All-append P told.mine.records ((entry, number) ∷ []) older last) in
      ended_seat later now schema client new own of_schema most_same frames_same gives.over (ap (λ (p : Place). p.line) place)
      (subst (λ (p : Place). AreBefore (p.txn + 1) now.mine.records) (sym place) all)
  seat_by gave (Ok lines.Aborted) gives is moves =
      given_up (next_txn old.place) (moves ∙ ap (moved client.tries old.place) (same_going is)) refl (omega arith) gives.same.records gives.over
  seat_by gave (Err fault) gives is moves =
      let caused = has_cause fault gave is in
      given_up (moved client.tries old.place (Failed caused.cause)) (moves ∙ ap (moved client.tries old.place) caused.gave_is)
      (retried_line (is_retried client.tries old.place caused.cause) old.place)
      (retried_txn (is_retried client.tries old.place caused.cause) old.place) gives.same.records gives.over

pub turned_seat : (serves later : Script → Type 0) (told now : Told Entry) (schema : Schema) (client : JobClient) (txn : Txn) (old new : SeatView) (gave : Gave) → IsSeated serves told schema client old
    → slice_get client.txns old.place.txn ≡ Some txn → TakesTurn serves later told now client.tries txn old new gave → IsSeated later now schema client new
turned_seat serves later told now schema client txn old new gave seated there took =
    seat_by serves later told now schema client txn old new seated there took.executes.own took.executes.at took.executes.client gave took.result took.executes.gives took.gives took.place
