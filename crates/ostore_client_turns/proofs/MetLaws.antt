-- Who holds a page has executed a command.
use Rattle.std.proofs.Common.{◌≡◌, ◌≢◌, ◌<◌, ◌≤◌, ◌⊎◌, inl, inr, ℕ, Bool, true, false, List, [], ◌∷◌, length, Option, Some, None, refl, sym, ap, subst, ◌∙◌, arith}
use Rattle.std.specs.Prelude.{IsSome}
use Rattle.std.specs.List.{slice_get}
use Rattle.std.proofs.lemmas.Bool.{false≢true}
use Rattle.std.proofs.lemmas.Option.{slice_get_cases}
use Rattle.ostore_base.specs.Limits.{most_clients}
use Rattle.ostore_base.specs.declared.page.PageImage.{PageImage}
use Rattle.ostore_schema_layout.specs.declared.schema.Schema.{Schema}
use Rattle.ostore_page_service.specs.Told.{Side, Told}
use Rattle.ostore_graph_model.specs.declared.commands.Script.{Script}
use Rattle.ostore_graph_model.specs.declared.commands.Txn.{Txn}
use Rattle.ostore_graph_model.specs.declared.history.Entry.{Entry}
use Rattle.ostore_graph_model.specs.declared.values.Reply.{Reply}
use Rattle.ostore_job_text.specs.declared.job.JobClient.{JobClient}
use Rattle.ostore_job_text.specs.RunnableJobs.{lines_of}
use Rattle.ostore_object_ops.specs.declared.progress.Progress.{Progress}
use Rattle.ostore_object_ops.specs.Progresses.{replies_of}
use Rattle.ostore_client_cache.specs.declared.entries.CachedPage.{CachedPage}
use Rattle.ostore_client_cache.specs.declared.entries.Hold.{Hold}
use Rattle.ostore_client_cache.specs.declared.entries.Hold.TheVariants.{Retained, InUse, Owned}
use Rattle.ostore_client_cache.specs.Entries.{is_in_use, is_owned, is_owner, is_used}
use Rattle.ostore_client_core.specs.Clients.{ClientView, IsIdle, IsTied, IsTiedBy, entry_of, stored_image}
use Rattle.ostore_client_core.specs.Attempts.{seen_list}
use Rattle.ostore_client_access.specs.Accesses.{MeetsAnother}
use Rattle.ostore_transactions.specs.Attempts.{IsAlong, IsWith, line_in}
use Rattle.ostore_turns.specs.Places.{Moment, IsIn}
use Rattle.ostore_turns.specs.LawfulTurns.{IsMet}
use Rattle.ostore_client_turns.specs.inside.Stores.{AreSeated, AreTold, IsSeated, SeatView, moment_in, place_of}

-- ---- what the service holds, the client has

not_some : (found : Option PageImage) → found ≡ None → IsSome found → ⊥
not_some found none some = false≢true (subst IsSome none some)

used_by : (hold : Hold) (stored : PageImage) (mine : Side Entry) (page : ℕ) → IsTiedBy hold stored mine page → IsSome (mine.held page) → is_used hold ≡ true
used_by Retained stored mine page tied held = absurd (not_some (mine.held page) tied.held held)
used_by InUse stored mine page tied held = refl
used_by Owned stored mine page tied held = refl

used_in : (stored : PageImage → PageImage) (mine : Side Entry) (page : ℕ) (found : Option CachedPage) → IsTied stored mine page found → IsSome (mine.held page) → is_in_use found ≡ true
used_in stored mine page None tied held = absurd (not_some (mine.held page) tied.held held)
used_in stored mine page (Some entry) tied held = used_by entry.hold (stored entry.image) mine page tied held

owned_by : (hold : Hold) (stored : PageImage) (mine : Side Entry) (page : ℕ) → IsTiedBy hold stored mine page → mine.owned page ≡ true → (is_used hold ≡ true) × (is_owner hold ≡ true)
owned_by Retained stored mine page tied owned = absurd (false≢true (sym tied.owned ∙ owned))
owned_by InUse stored mine page tied owned = absurd (false≢true (sym tied.owned ∙ owned))
owned_by Owned stored mine page tied owned = (refl, refl)

owned_in : (stored : PageImage → PageImage) (mine : Side Entry) (page : ℕ) (found : Option CachedPage) → IsTied stored mine page found → mine.owned page ≡ true → (is_in_use found ≡ true) × (is_owned found ≡ true)
owned_in stored mine page None tied owned = absurd (false≢true (sym tied.owned ∙ owned))
owned_in stored mine page (Some entry) tied owned = owned_by entry.hold (stored entry.image) mine page tied owned

-- ---- a client that has a page in use has executed a command

not_idle : (client : ClientView) (page : ℕ) → is_in_use (entry_of client page) ≡ true → IsIdle client → ⊥
not_idle client page used idle = false≢true (sym (idle page) ∙ used)

is_update : (update : Bool) → (update ≡ false → ⊥) → update ≡ true
is_update true not = refl
is_update false not = absurd (not refl)

-- a list on which an attempt may have begun, with what it has made of it
few_replies : (serves : Script → Type 0) (told : Told Entry) (client : ClientView) (txn : Txn) (progress : Progress) → IsAlong serves told client txn progress → length (replies_of progress) ≤ length txn.commands
few_replies serves told client txn progress along =
    let base = along.lines.runs.some.0 in
    (along.lines.ran base (seen_list client base) (record { runs = along.lines.runs; began = along.lines.runs.some.1; made = refl })).few

-- where a client is that has a page in use: behind a command, and before the last line
pub record HasExecuted (client : ClientView) (txn : Txn) (line : ℕ) : Type 0 where
  pub executed : 2 ≤ line
  pub before : line < lines_of txn
  pub owns : (page : ℕ) → is_owned (entry_of client page) ≡ true → txn.update ≡ true

some_replies : (client : ClientView) (page : ℕ) (replies : List Reply) → (replies ≡ [] → IsIdle client) → is_in_use (entry_of client page) ≡ true → 1 ≤ length replies
some_replies client page [] first used = absurd (not_idle client page used (first refl))
some_replies client page (reply ∷ replies) first used = omega arith

executed_with : (serves : Script → Type 0) (told : Told Entry) (client : ClientView) (txn : Txn) (progress : Option Progress) (page : ℕ) → IsWith serves told client txn progress → is_in_use (entry_of client page) ≡ true
    → HasExecuted client txn (line_in progress)
executed_with serves told client txn None page idle used = absurd (not_idle client page used idle)
executed_with serves told client txn (Some progress) page along used =
    let some = some_replies client page (replies_of progress) along.first used in
    let few = few_replies serves told client txn progress along in
    record {
      executed = omega arith;
      before = omega arith;
      owns = λ owned_page owned. is_update txn.update (λ reads. false≢true (sym (along.lines.reads reads owned_page) ∙ owned));
    }

-- ---- who is met

-- the client is in a transaction of its script, at a line behind a command
record IsBusyIn (clients : List JobClient) (now : Moment) (number : ℕ) (client : ClientView) : Type 0 where
  txn : Txn
  is_in : IsIn clients now number txn
  executed : HasExecuted client txn (now.places number).line

txn_there : (found : Option Txn) → (found ≡ None → ⊥) → (txn : Txn) × (found ≡ Some txn)
txn_there None not = absurd (not refl)
txn_there (Some txn) not = (txn, refl)

busy_seat : (serves : Script → Type 0) (told : ℕ → Told Entry) (schema : Schema) (clients : List JobClient) (seats : ℕ → Option SeatView) (commits number : ℕ) (client : JobClient) (seat : SeatView) (page : ℕ)
    → slice_get clients number ≡ Some client → seats number ≡ Some seat → IsSeated serves (told number) schema client seat → is_in_use (entry_of seat.client page) ≡ true
    → IsBusyIn clients (moment_in told commits seats) number seat.client
busy_seat serves told schema clients seats commits number client seat page there sits seated used =
    let found = txn_there (slice_get client.txns seat.place.txn) (λ none. not_idle seat.client page used (seated.over none)) in
    let place : place_of (seats number) ≡ seat.place = ap place_of sits in
    let executed : HasExecuted seat.client found.0 seat.place.line =
    subst (HasExecuted seat.client found.0) (sym seated.line) (executed_with serves (told number) seat.client found.0 seat.attempt.progress page (seated.at found.0 found.1) used) in
    record {
      txn = found.0;
      is_in = record {
        client = client;
        there = there;
        next = ap (λ (at : _). slice_get client.txns at.txn) place ∙ found.1;
        line = subst (λ (at : _). at.line < lines_of found.0) (sym place) executed.before;
      };
      executed = subst (λ (at : _). HasExecuted seat.client found.0 at.line) (sym place) executed;
    }

-- a client of the job, or a number of none
found_client : (clients : List JobClient) (number : ℕ) → ((client : JobClient) × (slice_get clients number ≡ Some client)) ⊎ (length clients ≤ number)
found_client clients number = elim (slice_get_cases clients number).1 [
  | inl there ↦ inl (there.0, there.2)
  | inr past ↦ inr past.0
]

module _ (serves : Script → Type 0) (told : ℕ → Told Entry) (schema : Schema) (clients : List JobClient) (seats : ℕ → Option SeatView)
    (opened : List PageImage) (commits number : ℕ) (txn : Txn) (page : ℕ) (all : AreTold told opened commits)
    (seated : AreSeated serves told schema clients seats) where
  owner_met : (other : ℕ) → other < most_clients → other ≢ number → (told other).mine.owned page ≡ true → IsMet clients (moment_in told commits seats) number txn
  owner_met other low apart owned = elim (found_client clients other) [
    | inl found ↦ (let sits = seated.each other found.0 found.1 in
        let is = owned_in (stored_image sits.0.client page) (told other).mine page (entry_of sits.0.client page) (sits.2.own.tied page) owned in
        let busy = busy_seat serves told schema clients seats commits other found.0 sits.0 page found.1 sits.1 sits.2 is.0 in
        record {
          other = other;
          another = apart;
          begun = busy.txn;
          is_in = busy.is_in;
          executed = busy.executed.executed;
          updates = inr (busy.executed.owns page is.1);
        })
    | inr none ↦ absurd (false≢true (sym ((seated.vacant other none low).owned page) ∙ owned))
  ]

  user_met : (other : ℕ) → other < most_clients → other ≢ number → txn.update ≡ true → IsSome ((told other).mine.held page) → IsMet clients (moment_in told commits seats) number txn
  user_met other low apart update held = elim (found_client clients other) [
    | inl found ↦ (let sits = seated.each other found.0 found.1 in
        let is = used_in (stored_image sits.0.client page) (told other).mine page (entry_of sits.0.client page) (sits.2.own.tied page) held in
        let busy = busy_seat serves told schema clients seats commits other found.0 sits.0 page found.1 sits.1 sits.2 is in
        record {
          other = other;
          another = apart;
          begun = busy.txn;
          is_in = busy.is_in;
          executed = busy.executed.executed;
          updates = inl update;
        })
    | inr none ↦ absurd (not_some ((told other).mine.held page) ((seated.vacant other none low).held page) held)
  ]

  pub is_met : MeetsAnother txn.update (told number) page → IsMet clients (moment_in told commits seats) number txn
  is_met met = elim met [
    | inl owner ↦ (let other = owner (all.tells number) in
        owner_met other.0 other.1 (λ same. other.2 (same ∙ sym (all.client number)))
        (ap (λ (side : Side Entry). side.owned page) (sym (all.others number other.0)) ∙ other.3))
    | inr user ↦ (let other = user.1 (all.tells number) in
        user_met other.0 other.1 (λ same. other.2 (same ∙ sym (all.client number))) user.0
        (subst (λ (side : Side Entry). IsSome (side.held page)) (all.others number other.0) other.3))
  ]
