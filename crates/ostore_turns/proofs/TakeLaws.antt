-- A turn more.
use Rattle.std.proofs.Common.{◌≡◌, ◌≢◌, ◌+◌, ◌<◌, inl, inr, ℕ, Bool, true, false, cond, List, [], ◌∷◌, ◌++◌, length, get_or, set, refl, sym, ap, subst, ◌∙◌, arith, Option, Some, None}
use Rattle.std.specs.List.{slice_get, cons_option, sum_by, AllByRecursion}
use Rattle.std.specs.Option.{option_and_then}
use Rattle.std.proofs.lemmas.Bool.{eq-eqb, cases_eq}
use Rattle.std.proofs.lemmas.Bool.Decides.{eqb_tells}
use Rattle.std.proofs.lemmas.List.{append-nil, length-set}
use Rattle.std.proofs.lemmas.List.Elements.{filter_map-append}
use Rattle.std.proofs.lemmas.List.Sums.{sum_by-set}
use Rattle.std.proofs.lemmas.Option.{none-some, same_Some, slice_get_within, get_or_from_slice_get}
use Rattle.ostore_graph_model.proofs.RecordLaws.{set-itself}
use Rattle.ostore_graph_model.proofs.AddressLaws.{slice_get-set_same, slice_get-set_other}
use Rattle.ostore_graph_model.proofs.Kept.Parts.{all_append}
use Rattle.ostore_graph_model.specs.declared.commands.Txn.{Txn}
use Rattle.ostore_graph_model.specs.declared.values.Reply.{Reply}
use Rattle.ostore_job_text.specs.declared.job.Job.{Job}
use Rattle.ostore_job_text.specs.declared.job.JobClient.{JobClient}
use Rattle.ostore_job_text.specs.RunnableJobs.{IsWithinLimits}
use Rattle.ostore_run_report.specs.declared.results.Cause.{Cause}
use Rattle.ostore_run_report.specs.declared.results.TxnResult.{TxnResult}
use Rattle.ostore_run_report.specs.declared.results.TxnResult.TheVariants.{Abort, GaveUp}
use Rattle.ostore_turns.specs.declared.attempts.Gave.{Gave}
use Rattle.ostore_turns.specs.declared.attempts.Gave.TheVariants.{Going, Committed, Aborted, Failed}
use Rattle.ostore_turns.specs.declared.place.Place.{Place}
use Rattle.ostore_turns.specs.declared.running.Run.{Run}
use Rattle.ostore_turns.specs.declared.running.Took.{Took}
use Rattle.ostore_turns.specs.declared.running.Took.TheVariants.{NoTurn, OneTurn, LastTurn}
use Rattle.ostore_turns.specs.declared.seat.Seat.{Seat}
use Rattle.ostore_turns.specs.Places.{Moment, HasLine, is_retried, moved}
use Rattle.ostore_turns.specs.LawfulTurns.{StopsRun, Turns, moved_one}
use Rattle.ostore_turns.specs.Bounds.{Bounds, IsBounded, GivesWithin, IsResultWithin}
use Rattle.ostore_turns.specs.Schedules.{Turn, IsNextTurn, Takes, scheduled}
use Rattle.ostore_turns.specs.TurnResults.{committed_as, result_by, result_at, ended_by}
use Rattle.ostore_turns.specs.inside.Steps.{IsFitPlace, and_maybe, GoesOn, IsTaken, AreSeated, AreWithin, AreUpTo, HasCome, IsIdle, rank, spent}
use Rattle.ostore_turns.proofs.PlaceLaws.{FitsLater, moved_fits}

-- after turns at which no disk call failed, one more is taken
pub takes_more : (job : Job) (before : Moment) (from : ℕ) (turns : List Turn) (now : Moment) (to at : ℕ) (turn : Turn) (after : Moment)
    → Takes job before from turns now to → AllByRecursion (λ turn. StopsRun turn.gave → ⊥) turns
    → IsNextTurn job now to at turn → Turns job.clients now turn.client turn.gave after
    → Takes job before from (turns ++ turn ∷ []) after (at + 1)
takes_more job before from [] now to at turn after takes on next gives =
    subst (λ (moment : Moment). Takes job moment from (turn ∷ []) after (at + 1)) (sym takes.0)
    (subst (λ (n : ℕ). Takes job now n (turn ∷ []) after (at + 1)) (sym takes.1)
    (at, after, next, gives, (λ stops. refl), (refl, refl)))
takes_more job before from (first ∷ turns) now to at turn after takes on next gives = (
  takes.0,
  takes.1,
  takes.2,
  takes.3,
  (λ stops. absurd (on.0 stops)),
  takes_more job takes.1 (takes.0 + 1) turns now to at turn after takes.5 on.1 next gives,
)

-- none of them stops the run, the last one neither
all_more : (turns : List Turn) (turn : Turn) → AllByRecursion (λ turn. StopsRun turn.gave → ⊥) turns → (StopsRun turn.gave → ⊥) → AllByRecursion (λ turn. StopsRun turn.gave → ⊥) (turns ++ turn ∷ [])
all_more [] turn on goes = (goes, tt)
all_more (first ∷ turns) turn on goes = (on.0, all_more turns turn on.1 goes)

-- ---- results

onto : (results : List TxnResult) (ended : Option TxnResult) → results ++ cons_option ended [] ≡ and_maybe results ended
onto results None = append-nil results
onto results (Some one) = refl

pub ended_more : (number : ℕ) (client : JobClient) (turns : List Turn) (turn : Turn) → ended_by number client (turns ++ turn ∷ []) ≡ and_maybe (ended_by number client turns) (result_at number client turn)
ended_more number client turns turn = filter_map-append (result_at number client) turns (turn ∷ []) ∙ onto (ended_by number client turns) (result_at number client turn)

pub result_mine : (number : ℕ) (client : JobClient) (txn : Txn) (turn : Turn) → turn.client ≡ number → slice_get client.txns turn.at.txn ≡ Some txn → result_at number client turn ≡ result_by txn.update client.tries turn.at turn.gave
result_mine number client txn turn mine there =
    ap (λ (b : Bool). cond b (option_and_then (λ (txn : Txn). result_by txn.update client.tries turn.at turn.gave) (slice_get client.txns turn.at.txn)) None) (eq-eqb turn.client number mine)
    ∙ ap (option_and_then (λ (txn : Txn). result_by txn.update client.tries turn.at turn.gave)) there

pub result_other : (number : ℕ) (client : JobClient) (turn : Turn) → turn.client ≢ number → result_at number client turn ≡ None
result_other number client turn apart = elim (eqb_tells turn.client number) [
  | inl same ↦ absurd (apart same.1)
  | inr other ↦ ap (λ (b : Bool). cond b (option_and_then (λ (txn : Txn). result_by txn.update client.tries turn.at turn.gave) (slice_get client.txns turn.at.txn)) None) other.0
]

-- each seat has what the turns ended
abbrev HaveEnded : List JobClient → List Seat → List Turn → Type 0
HaveEnded clients seats turns = (i : ℕ) (client : JobClient) (seat : Seat) → slice_get clients i ≡ Some client → slice_get seats i ≡ Some seat → seat.results ≡ ended_by i client turns

results_more : (clients : List JobClient) (seats : List Seat) (turns : List Turn) (number : ℕ) (client : JobClient) (seat next : Seat) (turn : Turn)
    → turn.client ≡ number → slice_get clients number ≡ Some client → slice_get seats number ≡ Some seat
    → next.results ≡ and_maybe seat.results (result_at number client turn)
    → HaveEnded clients seats turns → HaveEnded clients (set seats number next) (turns ++ turn ∷ [])
results_more clients seats turns number client seat next turn mine there sits more have i c s is_c is_s = elim (cases_eq i number) [
  | inl same ↦
      (let same_client : client ≡ c = same_Some client c (sym there ∙ (ap (slice_get clients) (sym same) ∙ is_c)) in
      let same_seat : next ≡ s = same_Some next s (sym (slice_get-set_same seats number next (slice_get_within seats number seat sits)) ∙ (ap (slice_get (set seats number next)) (sym same) ∙ is_s)) in
      ap (λ (x : Seat). x.results) (sym same_seat) ∙ more
      ∙ ap (λ (results : List TxnResult). and_maybe results (result_at number client turn)) (have number client seat there sits)
      ∙ sym (ended_more number client turns turn)
      ∙ ap (λ (k : ℕ). ended_by k client (turns ++ turn ∷ [])) (sym same)
      ∙ ap (λ (x : JobClient). ended_by i x (turns ++ turn ∷ [])) same_client)
  | inr apart ↦
      have i c s is_c (sym (slice_get-set_other seats number i next apart) ∙ is_s)
      ∙ ap (and_maybe (ended_by i c turns)) (sym (result_other i c turn (λ e. apart (sym e ∙ mine))))
      ∙ sym (ended_more i c turns turn)
]

-- ---- a client that took a turn

-- whether the run stops
abbrev pub StopsSo : Bool → Gave → Type 0
StopsSo true gave = StopsRun gave
StopsSo false gave = StopsRun gave → ⊥

pub record Went (clients : List JobClient) (before after : Moment) (old new : Run) (number : ℕ) : Type 0 where
  pub client : JobClient
  pub seat : Seat
  pub next : Seat
  pub gave : Gave
  pub there : slice_get clients number ≡ Some client
  pub sits : slice_get old.seats.items number ≡ Some seat
  pub goes : old.stopped ≡ false
  pub on : GoesOn client number gave seat next clients before after
  pub seats : new.seats.items ≡ set old.seats.items number next
  pub stops : StopsSo new.stopped gave

up_more : (job : Job) (turns : List Turn) (turn : Turn) (stopped : Bool) (n : ℕ) (now : Moment) → AllByRecursion (λ turn. StopsRun turn.gave → ⊥) turns → StopsSo stopped turn.gave → AreUpTo job stopped (turns ++ turn ∷ []) n n now
up_more job turns turn true n now on stops = (turns, turn, refl, stops)
up_more job turns turn false n now on stops = (all_more turns turn on stops, omega arith, λ k from to line. absurd (omega arith))

pub come_more : (job : Job) (opened : Moment) (n : ℕ) (before after : Moment) (old new : Run) (number : ℕ) → Went job.clients before after old new number → AreSeated job.clients before old → scheduled job n ≡ number
    → HasCome job opened n before old → HasCome job opened (n + 1) after new
come_more job opened n before after old new number went seated whose come =
    let turn : Turn = record { client = number; at = before.places number; gave = went.gave } in
    let up : AreUpTo job false come.turns come.end n before = subst (λ (stopped : Bool). AreUpTo job stopped come.turns come.end n before) went.goes come.up_to in
    let here : went.seat.place ≡ before.places number = seated.places number went.seat went.sits in
    let there : slice_get went.client.txns (before.places number).txn ≡ Some went.on.txn = ap (λ (p : Place). slice_get went.client.txns p.txn) (sym here) ∙ went.on.there in
    record {
      turns = come.turns ++ turn ∷ [];
      end = n + 1;
      taken = takes_more job opened 0 come.turns before come.end n turn after come.taken up.0 (record { later = up.1; passed = up.2; whose = sym whose; place = refl }) went.on.turns;
      results = subst (λ (seats : List Seat). HaveEnded job.clients seats (come.turns ++ turn ∷ [])) (sym went.seats)
          (results_more job.clients old.seats.items come.turns number went.client went.seat went.next turn refl went.there went.sits
          (went.on.results ∙ ap (and_maybe went.seat.results) (ap (λ (p : Place). result_by went.on.txn.update went.client.tries p went.gave) here ∙ sym (result_mine number went.client went.on.txn turn refl there)))
          come.results);
      up_to = up_more job come.turns turn new.stopped (n + 1) after up.0 went.stops;
    }

-- ---- its seat

pub moved_here : (number tries : ℕ) (gave : Gave) (places : ℕ → Place) → moved_one number tries gave places number ≡ moved tries (places number) gave
moved_here number tries gave places = ap (λ (b : Bool). cond b (moved tries (places number) gave) (places number)) (eq-eqb number number refl)

pub moved_other : (number tries other : ℕ) (gave : Gave) (places : ℕ → Place) → other ≢ number → moved_one number tries gave places other ≡ places other
moved_other number tries other gave places apart = elim (eqb_tells other number) [
  | inl same ↦ absurd (apart same.1)
  | inr differs ↦ ap (λ (b : Bool). cond b (moved tries (places other) gave) (places other)) differs.0
]

-- where its client is then
next_fits : (clients : List JobClient) (before after : Moment) (old new : Run) (number : ℕ) (went : Went clients before after old new number) → AreSeated clients before old → IsWithinLimits went.client
    → FitsLater went.client went.seat.place went.next.place × (went.next.place ≡ after.places number)
next_fits clients before after old new number went seated limits =
    let turns = went.on.turns in
    let here : went.seat.place ≡ before.places number = seated.places number went.seat went.sits in
    let same : turns.is_in.client ≡ went.client = same_Some turns.is_in.client went.client (sym turns.is_in.there ∙ went.there) in
    let read : slice_get went.client.txns (before.places number).txn ≡ Some turns.txn = ap (λ (c : JobClient). slice_get c.txns (before.places number).txn) (sym same) ∙ turns.is_in.next in
    let there : slice_get went.client.txns went.seat.place.txn ≡ Some turns.txn = ap (λ (p : Place). slice_get went.client.txns p.txn) here ∙ read in (
      subst (FitsLater went.client went.seat.place) (sym went.on.place)
          (moved_fits clients before number went.client turns.txn went.seat.place went.gave limits (seated.fit number went.client went.seat went.there went.sits) here there turns.may),
      went.on.place ∙ ap (λ (p : Place). moved went.client.tries p went.gave) here
          ∙ ap (λ (c : JobClient). moved c.tries (before.places number) went.gave) (sym same)
          ∙ sym (moved_here number turns.is_in.client.tries went.gave before.places) ∙ sym (turns.places number),
    )

pub seated_more : (clients : List JobClient) (before after : Moment) (old new : Run) (number : ℕ) (went : Went clients before after old new number) → AreSeated clients before old → IsWithinLimits went.client → AreSeated clients after new
seated_more clients before after old new number went seated limits =
    let fits = next_fits clients before after old new number went seated limits in
    let seats : List Seat = old.seats.items in
    let within : number < length seats = slice_get_within seats number went.seat went.sits in
    let here : slice_get (set seats number went.next) number ≡ Some went.next = slice_get-set_same seats number went.next within in
    record {
      long = ap length went.seats ∙ length-set seats number went.next ∙ seated.long;
      places = λ i s is. elim (cases_eq i number) [
        | inl same ↦
            (let mine : went.next ≡ s = same_Some went.next s (sym here ∙ (ap (slice_get (set seats number went.next)) (sym same) ∙ (ap (λ (l : List Seat). slice_get l i) (sym went.seats) ∙ is))) in
            ap (λ (x : Seat). x.place) (sym mine) ∙ fits.1 ∙ ap after.places (sym same))
        | inr apart ↦
            seated.places i s (sym (slice_get-set_other seats number i went.next apart) ∙ (ap (λ (l : List Seat). slice_get l i) (sym went.seats) ∙ is))
            ∙ sym (moved_other number went.on.turns.is_in.client.tries i went.gave before.places apart) ∙ sym (went.on.turns.places i)
      ];
      fit = λ i c s is_c is. elim (cases_eq i number) [
        | inl same ↦
            (let mine : went.next ≡ s = same_Some went.next s (sym here ∙ (ap (slice_get (set seats number went.next)) (sym same) ∙ (ap (λ (l : List Seat). slice_get l i) (sym went.seats) ∙ is))) in
            let own : went.client ≡ c = same_Some went.client c (sym went.there ∙ (ap (slice_get clients) (sym same) ∙ is_c)) in
            subst (λ (x : Seat). IsFitPlace c x.place) mine (subst (λ (x : JobClient). IsFitPlace x went.next.place) own fits.0.0))
        | inr apart ↦
            seated.fit i c s is_c (sym (slice_get-set_other seats number i went.next apart) ∙ (ap (λ (l : List Seat). slice_get l i) (sym went.seats) ∙ is))
      ];
    }

pub spent_more : (clients : List JobClient) (before after : Moment) (old new : Run) (number : ℕ) (went : Went clients before after old new number) → AreSeated clients before old → IsWithinLimits went.client → spent old < spent new
spent_more clients before after old new number went seated limits =
    let fits = next_fits clients before after old new number went seated limits in
    let seats : List Seat = old.seats.items in
    let f : Seat → ℕ = λ seat. rank seat.place in
    let more : f went.seat < f went.next = fits.0.1 in
    let put : sum_by f (set seats number went.next) + f (get_or seats number went.seat) ≡ sum_by f seats + f went.next = sum_by-set f seats number went.next went.seat (slice_get_within seats number went.seat went.sits) in
    let was : f (get_or seats number went.seat) ≡ f went.seat = ap f (get_or_from_slice_get seats number went.seat went.seat went.sits) in
    let new_is : sum_by f new.seats.items ≡ sum_by f (set seats number went.next) = ap (sum_by f) went.seats in
    omega (arith, more, put, was, new_is)

-- ---- a client that has no line left

pub record Stayed (clients : List JobClient) (before after : Moment) (old new : Run) (number : ℕ) : Type 0 where
  pub moment : after ≡ before
  pub seats : new.seats.items ≡ old.seats.items
  pub stopped : new.stopped ≡ old.stopped
  pub none : HasLine clients before number → ⊥

pub stayed_seated : (clients : List JobClient) (before after : Moment) (old new : Run) (number : ℕ) → Stayed clients before after old new number → AreSeated clients before old → AreSeated clients after new
stayed_seated clients before after old new number stayed seated = record {
  long = ap length stayed.seats ∙ seated.long;
  places = λ i seat is. seated.places i seat (ap (λ (l : List Seat). slice_get l i) (sym stayed.seats) ∙ is) ∙ ap (λ (m : Moment). m.places i) (sym stayed.moment);
  fit = λ i client seat is_client is_seat. seated.fit i client seat is_client (ap (λ (l : List Seat). slice_get l i) (sym stayed.seats) ∙ is_seat);
}

pub stayed_come : (job : Job) (opened : Moment) (n : ℕ) (before after : Moment) (old new : Run) (number : ℕ) → Stayed job.clients before after old new number → HasCome job opened n before old → HasCome job opened n after new
stayed_come job opened n before after old new number stayed come = record {
  turns = come.turns;
  end = come.end;
  taken = subst (λ (m : Moment). Takes job opened 0 come.turns m come.end) (sym stayed.moment) come.taken;
  results = λ i client seat is_client is_seat. come.results i client seat is_client (ap (λ (l : List Seat). slice_get l i) (sym stayed.seats) ∙ is_seat);
  up_to = subst (λ (m : Moment). AreUpTo job new.stopped come.turns come.end n m) (sym stayed.moment)
      (subst (λ (stopped : Bool). AreUpTo job stopped come.turns come.end n before) (sym stayed.stopped) come.up_to);
}

pub stayed_idle : (clients : List JobClient) (before after : Moment) (old new : Run) (number : ℕ) → Stayed clients before after old new number → IsIdle clients after new number
stayed_idle clients before after old new number stayed = inr (λ line. stayed.none (subst (λ (m : Moment). HasLine clients m number) stayed.moment line))

-- behind the last transaction there is no line
no_line : (clients : List JobClient) (now : Moment) (number : ℕ) (client : JobClient) (at : Place) → slice_get clients number ≡ Some client → at ≡ now.places number → slice_get client.txns at.txn ≡ None → HasLine clients now number → ⊥
no_line clients now number client at there here none line =
    let same : line.1.client ≡ client = same_Some line.1.client client (sym line.1.there ∙ there) in
    none-some line.0 (sym none ∙ (ap (λ (p : Place). slice_get client.txns p.txn) here ∙ (ap (λ (c : JobClient). slice_get c.txns (now.places number).txn) (sym same) ∙ line.1.next)))

pub stayed_by : (clients others : List JobClient) (before after : Moment) (old new : Run) (number : ℕ) (client : JobClient) (seat next : Seat) (took : Took)
    → slice_get clients number ≡ Some client → slice_get old.seats.items number ≡ Some seat → AreSeated clients before old → new.seats.items ≡ set old.seats.items number next → new.stopped ≡ old.stopped
    → took ≡ NoTurn → IsTaken client number took seat next others before after → Stayed clients before after old new number
stayed_by clients others before after old new number client seat next took there sits seated seats stopped is taken =
    let none : IsTaken client number NoTurn seat next others before after = subst (λ (x : Took). IsTaken client number x seat next others before after) is taken in
    record {
      moment = none.1;
      seats = seats ∙ (ap (set old.seats.items number) none.0 ∙ set-itself old.seats.items number seat sits);
      stopped = stopped;
      none = no_line clients before number client seat.place there (seated.places number seat sits) none.2;
    }

pub went_one : (clients others : List JobClient) (before after : Moment) (old new : Run) (number : ℕ) (client : JobClient) (seat next : Seat) (took : Took)
    → slice_get clients number ≡ Some client → slice_get old.seats.items number ≡ Some seat → old.stopped ≡ false → new.seats.items ≡ set old.seats.items number next → new.stopped ≡ false
    → others ≡ clients → took ≡ OneTurn → IsTaken client number took seat next others before after → Went clients before after old new number
went_one clients others before after old new number client seat next took there sits goes seats stopped same is taken =
    let one : IsTaken client number OneTurn seat next clients before after = subst (λ (l : List JobClient). IsTaken client number OneTurn seat next l before after) same (subst (λ (x : Took). IsTaken client number x seat next others before after) is taken) in
    record { client = client; seat = seat; next = next; gave = one.0; there = there; sits = sits; goes = goes; on = one.2; seats = seats; stops = subst (λ (b : Bool). StopsSo b one.0) (sym stopped) one.1 }

pub went_last : (clients others : List JobClient) (before after : Moment) (old new : Run) (number : ℕ) (client : JobClient) (seat next : Seat) (took : Took)
    → slice_get clients number ≡ Some client → slice_get old.seats.items number ≡ Some seat → old.stopped ≡ false → new.seats.items ≡ set old.seats.items number next → new.stopped ≡ true
    → others ≡ clients → took ≡ LastTurn → IsTaken client number took seat next others before after → Went clients before after old new number
went_last clients others before after old new number client seat next took there sits goes seats stopped same is taken =
    let last : IsTaken client number LastTurn seat next clients before after = subst (λ (l : List JobClient). IsTaken client number LastTurn seat next l before after) same (subst (λ (x : Took). IsTaken client number x seat next others before after) is taken) in
    record { client = client; seat = seat; next = next; gave = last.0; there = there; sits = sits; goes = goes; on = last.2; seats = seats; stops = subst (λ (b : Bool). StopsSo b last.0) (sym stopped) last.1 }

-- ---- what became of its transactions

committed_within : (bounds : Bounds) (client : JobClient) (update : Bool) (number tries : ℕ) (replies : List Reply) → IsResultWithin bounds client (committed_as update number tries replies)
committed_within bounds client true number tries replies = tt
committed_within bounds client false number tries replies = tt

failed_within : (bounds : Bounds) (client : JobClient) (tries : ℕ) (cause : Cause) (retried : Bool) (found : TxnResult) → IsBounded bounds client cause → cond retried None (Some (GaveUp tries cause)) ≡ Some found → IsResultWithin bounds client found
failed_within bounds client tries cause true found bounded is = absurd (none-some found is)
failed_within bounds client tries cause false found bounded is = subst (IsResultWithin bounds client) (same_Some (GaveUp tries cause) found is) bounded

result_within : (bounds : Bounds) (clients : List JobClient) (number : ℕ) (client : JobClient) (update : Bool) (tries : ℕ) (at : Place) (gave : Gave) (found : TxnResult)
    → slice_get clients number ≡ Some client → GivesWithin bounds clients number gave → result_by update tries at gave ≡ Some found → IsResultWithin bounds client found
result_within bounds clients number client update tries at Going found there within is = absurd (none-some found is)
result_within bounds clients number client update tries at (Committed commit replies) found there within is =
    subst (IsResultWithin bounds client) (same_Some (committed_as update commit (at.failed + 1) replies) found is) (committed_within bounds client update commit (at.failed + 1) replies)
result_within bounds clients number client update tries at Aborted found there within is = subst (IsResultWithin bounds client) (same_Some (Abort (at.failed + 1)) found is) tt
result_within bounds clients number client update tries at (Failed cause) found there within is =
    failed_within bounds client (at.failed + 1) cause (is_retried tries at cause) found (within client there) is

maybe_within : (bounds : Bounds) (client : JobClient) (results : List TxnResult) (ended : Option TxnResult) → AllByRecursion (IsResultWithin bounds client) results
    → ((found : TxnResult) → ended ≡ Some found → IsResultWithin bounds client found) → AllByRecursion (IsResultWithin bounds client) (and_maybe results ended)
maybe_within bounds client results None within one = within
maybe_within bounds client results (Some found) within one = all_append (IsResultWithin bounds client) results found within (one found refl)

-- what a client's seat has is within the bounds when its next line gave this
pub gave_within : (bounds : Bounds) (clients : List JobClient) (number : ℕ) (client : JobClient) (update : Bool) (at : Place) (gave : Gave) (results : List TxnResult)
    → slice_get clients number ≡ Some client → GivesWithin bounds clients number gave → AllByRecursion (IsResultWithin bounds client) results
    → AllByRecursion (IsResultWithin bounds client) (and_maybe results (result_by update client.tries at gave))
gave_within bounds clients number client update at gave results there gives within =
    maybe_within bounds client results (result_by update client.tries at gave) within (λ found is. result_within bounds clients number client update client.tries at gave found there gives is)

-- and so is what each seat has when one was replaced
pub within_set : (bounds : Bounds) (clients : List JobClient) (old new : Run) (number : ℕ) (client : JobClient) (seat next : Seat) → slice_get clients number ≡ Some client → slice_get old.seats.items number ≡ Some seat
    → new.seats.items ≡ set old.seats.items number next → AllByRecursion (IsResultWithin bounds client) next.results → AreWithin bounds clients old → AreWithin bounds clients new
within_set bounds clients old new number client seat next there sits seats within all i c s is_c is_s = elim (cases_eq i number) [
  | inl same ↦
      (let own : client ≡ c = same_Some client c (sym there ∙ (ap (slice_get clients) (sym same) ∙ is_c)) in
      let mine : next ≡ s = same_Some next s (sym (slice_get-set_same old.seats.items number next (slice_get_within old.seats.items number seat sits)) ∙ (ap (slice_get (set old.seats.items number next)) (sym same) ∙ (ap (λ (l : List Seat). slice_get l i) (sym seats) ∙ is_s))) in
      subst (λ (x : Seat). AllByRecursion (IsResultWithin bounds c) x.results) mine (subst (λ (x : JobClient). AllByRecursion (IsResultWithin bounds x) next.results) own within))
  | inr apart ↦ all i c s is_c (sym (slice_get-set_other old.seats.items number i next apart) ∙ (ap (λ (l : List Seat). slice_get l i) (sym seats) ∙ is_s))
]
