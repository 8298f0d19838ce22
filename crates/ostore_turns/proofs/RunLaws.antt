-- How far a run has come, and where it ends.
use Rattle.std.proofs.Common.{◌≡◌, ◌+◌, ◌-◌, ◌*◌, ◌%◌, ◌<◌, ◌≤◌, ◌⊎◌, inl, inr, ℕ, zero, suc, Bool, true, false, List, [], ◌∷◌, ◌++◌, length, get_or, take, replicate, refl, sym, ap, subst, ◌∙◌, arith, Some}
use Rattle.std.specs.List.{slice_get, sum_by, AllByRecursion}
use Rattle.std.proofs.lemmas.Bool.{cases_lt, false≢true}
use Rattle.std.proofs.lemmas.List.{length-append, length-replicate}
use Rattle.std.proofs.lemmas.List.Sums.{sum_by-cons}
use Rattle.std.proofs.lemmas.Nat.{mod-mul-add}
use Rattle.std.proofs.lemmas.Option.{none-some, same_Some, slice_get_past, slice_get_within, slice_get-get_or}
use Rattle.ostore_job_text.specs.declared.job.Job.{Job}
use Rattle.ostore_job_text.specs.declared.job.JobClient.{JobClient}
use Rattle.ostore_job_text.specs.declared.job.JobTurn.{JobTurn}
use Rattle.ostore_job_text.specs.RunnableJobs.{IsWithinLimits}
use Rattle.ostore_job_text.proofs.OptionTaken.{all_join}
use Rattle.ostore_run_report.specs.declared.results.TxnResult.{TxnResult}
use Rattle.ostore_run_report.specs.declared.results.TxnResult.TheVariants.{NotRun}
use Rattle.ostore_turns.specs.declared.place.Place.{Place}
use Rattle.ostore_turns.specs.declared.running.Run.{Run}
use Rattle.ostore_turns.specs.declared.seat.Seat.{Seat}
use Rattle.ostore_turns.specs.Places.{Moment, HasLine, first_place}
use Rattle.ostore_turns.specs.Bounds.{Bounds, IsResultWithin, AreBounded}
use Rattle.ostore_turns.specs.Runs.{HasEnded, IsRunBy, IsFirst}
use Rattle.ostore_turns.specs.Schedules.{Turn, entry_clients, client_or, scheduled}
use Rattle.ostore_turns.specs.TurnResults.{ended_by, results_of, results_from, with_not_run}
use Rattle.ostore_turns.specs.inside.Steps.{IsFitPlace, AreSeated, AreWithin, AreUpTo, HasCome, Passes, IsIdle, IsOneTurn, AreTurns, first_seat, rank, spent, results_in}
use Rattle.ostore_turns.proofs.PlaceLaws.{rank_low}
use Rattle.ostore_turns.proofs.TakeLaws.{Went, Stayed, come_more, stayed_come, stayed_idle}

-- ---- clients that can take no turn are passed over

pass_up : (job : Job) (stopped : Bool) (turns : List Turn) (end n count : ℕ) (now : Moment)
    → ((k : ℕ) → k < count → (stopped ≡ true) ⊎ (HasLine job.clients now (scheduled job (n + k)) → ⊥))
    → AreUpTo job stopped turns end n now → AreUpTo job stopped turns end (n + count) now
pass_up job true turns end n count now idle up = up
pass_up job false turns end n count now idle up = (
  up.0,
  (let low = up.1 in omega arith),
  λ k from to line. elim (cases_lt k n) [
    | inl low ↦ up.2 k from low line
    | inr high ↦ elim (idle (k - n) (omega arith)) [
      | inl stops ↦ absurd (false≢true stops)
      | inr none ↦ none (subst (λ (m : ℕ). HasLine job.clients now (scheduled job m)) (let e : k ≡ n + (k - n) = omega arith in e) line)
    ]
  ],
)

pub pass_on : (job : Job) (opened : Moment) (n count : ℕ) (now : Moment) (run : Run) → ((k : ℕ) → k < count → IsIdle job.clients now run (scheduled job (n + k)))
    → HasCome job opened n now run → HasCome job opened (n + count) now run
pass_on job opened n count now run idle come = record {
  turns = come.turns;
  end = come.end;
  taken = come.taken;
  results = come.results;
  up_to = pass_up job run.stopped come.turns come.end n count now idle come.up_to;
}

-- ---- places of the schedule, one after the other

pub passes_none : (job : Job) (whose : ℕ → ℕ) (now : Moment) (run : Run) → Passes job 0 whose now run now run
passes_none job whose now run opened n is come = subst (λ (m : ℕ). HasCome job opened m now run) (let e : n ≡ n + 0 = omega arith in e) come

pub passes_step : (job : Job) (count : ℕ) (whose : ℕ → ℕ) (before now after : Moment) (old run new : Run)
    → Passes job count whose before old now run → Passes job 1 (λ k. whose count) now run after new → Passes job (count + 1) whose before old after new
passes_step job count whose before now after old run new first second opened n is come =
    subst (λ (m : ℕ). HasCome job opened m after new) (let e : (n + count) + 1 ≡ n + (count + 1) = omega arith in e)
    (second opened (n + count)
    (λ k low. (let e : n + count ≡ n + count + k = omega arith in subst (λ (m : ℕ). scheduled job m ≡ whose count) e (is count (omega arith))))
    (first opened n (λ k low. is k (omega arith)) come))

-- the rest are passed over
pub passes_idle : (job : Job) (count most number : ℕ) (before now : Moment) (old run : Run)
    → Passes job count (λ k. number) before old now run → count ≤ most → IsIdle job.clients now run number → Passes job most (λ k. number) before old now run
passes_idle job count most number before now old run first low idle opened n is come =
    subst (λ (m : ℕ). HasCome job opened m now run) (let e : (n + count) + (most - count) ≡ n + most = omega arith in e)
    (pass_on job opened (n + count) (most - count) now run
    (λ k below. subst (IsIdle job.clients now run)
    (sym (let e : n + (count + k) ≡ n + count + k = omega arith in subst (λ (m : ℕ). scheduled job m ≡ number) e (is (count + k) (omega arith)))) idle)
    (first opened n (λ k below. is k (omega arith)) come))

-- ---- whose places they are

pub get_past : {X : Type 0} (xs ys : List X) (k : ℕ) → slice_get (xs ++ ys) (length xs + k) ≡ slice_get ys k
get_past [] ys k = ap (slice_get ys) (let e : 0 + k ≡ k = omega arith in e)
get_past (x ∷ xs) ys k = ap (slice_get (x ∷ xs ++ ys)) (let e : length (x ∷ xs) + k ≡ suc (length xs + k) = omega arith in e) ∙ get_past xs ys k

pub get_repeated : {X : Type 0} (count : ℕ) (x : X) (ys : List X) (k : ℕ) → k < count → slice_get (replicate count x ++ ys) k ≡ Some x
get_repeated zero x ys k low = absurd (omega arith)
get_repeated (suc count) x ys zero low = refl
get_repeated (suc count) x ys (suc k) low = get_repeated count x ys k (omega arith)

at_entry : (entries : List JobTurn) (i : ℕ) (entry : JobTurn) (k : ℕ) → slice_get entries i ≡ Some entry → k < entry.count
    → slice_get (entry_clients entries) (length (entry_clients (take i entries)) + k) ≡ Some entry.client.0
at_entry [] i entry k there low = absurd (none-some entry there)
at_entry (first ∷ entries) zero entry k there low =
    (let same : first ≡ entry = same_Some first entry there in
    let read : slice_get (entry_clients (first ∷ entries)) k ≡ Some first.client.0 = get_repeated first.count first.client.0 (entry_clients entries) k (let e : first.count ≡ entry.count = ap (λ (x : JobTurn). x.count) same in omega arith) in
    ap (slice_get (entry_clients (first ∷ entries))) (let e : 0 + k ≡ k = omega arith in e) ∙ (read ∙ ap (λ (x : JobTurn). Some x.client.0) same))
at_entry (first ∷ entries) (suc i) entry k there low =
    (let xs : List ℕ = replicate first.count first.client.0 in
    let long : length (entry_clients (take (suc i) (first ∷ entries))) ≡ length xs + length (entry_clients (take i entries)) = length-append xs (entry_clients (take i entries)) in
    ap (slice_get (entry_clients (first ∷ entries))) (let e : length (entry_clients (take (suc i) (first ∷ entries))) + k ≡ length xs + (length (entry_clients (take i entries)) + k) = omega (arith, long) in e)
    ∙ get_past xs (entry_clients entries) (length (entry_clients (take i entries)) + k)
    ∙ at_entry entries i entry k there low)

-- the places of an entry are its client's
pub of_entry : (job : Job) (i : ℕ) (entry : JobTurn) → slice_get job.turns i ≡ Some entry → (k : ℕ) → k < entry.count → scheduled job (length (entry_clients (take i job.turns)) + k) ≡ entry.client.0
of_entry job i entry there k low =
    ap (client_or ((length (entry_clients (take i job.turns)) + k - length (entry_clients job.turns)) % length job.clients)) (at_entry job.turns i entry k there low)

-- behind the entries come rounds, each of all clients
pub of_round : (job : Job) (rounds k : ℕ) → k < length job.clients → scheduled job (length (entry_clients job.turns) + rounds * length job.clients + k) ≡ k
of_round job rounds k low =
    (let entries : ℕ = length (entry_clients job.turns) in
    let clients : ℕ = length job.clients in
    ap (client_or ((entries + rounds * clients + k - entries) % clients)) (slice_get_past (entry_clients job.turns) (entries + rounds * clients + k) (omega arith))
    ∙ ap (λ (m : ℕ). m % clients) (let e : entries + rounds * clients + k - entries ≡ rounds * clients + k = omega arith in e)
    ∙ mod-mul-add rounds clients k low)

up_to_next : (entries : List JobTurn) (i : ℕ) (entry : JobTurn) → slice_get entries i ≡ Some entry → length (entry_clients (take (i + 1) entries)) ≡ length (entry_clients (take i entries)) + entry.count
up_to_next [] i entry there = absurd (none-some entry there)
up_to_next (first ∷ entries) zero entry there =
    length-append (replicate first.count first.client.0) [] ∙ (let same : first.count ≡ entry.count = ap (λ (x : JobTurn). x.count) (same_Some first entry there) in
    let long : length (replicate first.count first.client.0) ≡ first.count = length-replicate first.count first.client.0 in omega (arith, long, same))
up_to_next (first ∷ entries) (suc i) entry there =
    (let xs : List ℕ = replicate first.count first.client.0 in
    let more = up_to_next entries i entry there in
    let long : length (entry_clients (take (suc i) (first ∷ entries))) ≡ length xs + length (entry_clients (take i entries)) = length-append xs (entry_clients (take i entries)) in
    let longer : length (entry_clients (take (suc (i + 1)) (first ∷ entries))) ≡ length xs + length (entry_clients (take (i + 1) entries)) = length-append xs (entry_clients (take (i + 1) entries)) in
    let e : suc i + 1 ≡ suc (i + 1) = omega arith in
    ap (λ (m : ℕ). length (entry_clients (take m (first ∷ entries)))) e ∙ omega (arith, more, long, longer))

-- the entries up to one are passed
pub entry_passed : (job : Job) (opened : Moment) (i : ℕ) (entry : JobTurn) (before now : Moment) (old run : Run) → slice_get job.turns i ≡ Some entry
    → Passes job entry.count (λ k. entry.client.0) before old now run
    → HasCome job opened (length (entry_clients (take i job.turns))) before old → HasCome job opened (length (entry_clients (take (i + 1) job.turns))) now run
entry_passed job opened i entry before now old run there passes come =
    subst (λ (m : ℕ). HasCome job opened m now run) (sym (up_to_next job.turns i entry there))
    (passes opened (length (entry_clients (take i job.turns))) (of_entry job i entry there) come)

-- a run has come to the end of a round
pub record InRounds (job : Job) (opened : Moment) (now : Moment) (run : Run) : Type 0 where
  pub rounds : ℕ
  pub come : HasCome job opened (length (entry_clients job.turns) + rounds * length job.clients) now run

pub round_passed : (job : Job) (opened : Moment) (before now : Moment) (old run : Run) → Passes job (length job.clients) (λ k. k) before old now run → InRounds job opened before old → InRounds job opened now run
round_passed job opened before now old run passes in_rounds = record {
  rounds = in_rounds.rounds + 1;
  come = (let clients : ℕ = length job.clients in
      let e : length (entry_clients job.turns) + in_rounds.rounds * clients + clients ≡ length (entry_clients job.turns) + (in_rounds.rounds + 1) * clients = grind arith in
      subst (λ (m : ℕ). HasCome job opened m now run) e (passes opened (length (entry_clients job.turns) + in_rounds.rounds * clients) (of_round job in_rounds.rounds) in_rounds.come));
}

-- ---- the first moment

first_get : (count i : ℕ) (seat : Seat) → slice_get (replicate count first_seat) i ≡ Some seat → first_seat ≡ seat
first_get zero i seat there = absurd (none-some seat there)
first_get (suc count) zero seat there = same_Some first_seat seat there
first_get (suc count) (suc i) seat there = first_get count i seat there

first_at : (count i : ℕ) (seats : List Seat) (seat : Seat) → seats ≡ replicate count first_seat → slice_get seats i ≡ Some seat → first_seat ≡ seat
first_at count i seats seat all there = first_get count i seat (ap (λ (l : List Seat). slice_get l i) (sym all) ∙ there)

limits_get : (clients : List JobClient) (i : ℕ) (client : JobClient) → AllByRecursion IsWithinLimits clients → slice_get clients i ≡ Some client → IsWithinLimits client
limits_get [] i client all there = absurd (none-some client there)
limits_get (first ∷ clients) zero client all there = subst IsWithinLimits (same_Some first client there) all.0
limits_get (first ∷ clients) (suc i) client all there = limits_get clients i client all.1 there

pub limits_at : (clients : List JobClient) (i : ℕ) (client : JobClient) → AllByRecursion IsWithinLimits clients → slice_get clients i ≡ Some client → IsWithinLimits client
limits_at = limits_get

pub first_fits : (client : JobClient) (at : Place) → at ≡ first_place → IsWithinLimits client → IsFitPlace client at
first_fits client at first limits = subst (IsFitPlace client) (sym first) (let some = limits.some in record { low = omega arith; tries = omega arith; short = omega arith; line = λ txn there. omega arith })

pub first_seated : (clients : List JobClient) (now : Moment) (run : Run) → IsFirst now → run.seats.items ≡ replicate (length clients) first_seat → AllByRecursion IsWithinLimits clients → AreSeated clients now run
first_seated clients now run first seats limits = record {
  long = ap length seats ∙ length-replicate (length clients) first_seat;
  places = λ i seat there. ap (λ (s : Seat). s.place) (sym (first_at (length clients) i run.seats.items seat seats there)) ∙ sym (first i).0;
  fit = λ i client seat is_client is_seat. first_fits client seat.place (ap (λ (s : Seat). s.place) (sym (first_at (length clients) i run.seats.items seat seats is_seat))) (limits_get clients i client limits is_client);
}

first_up : (job : Job) (stopped : Bool) (now : Moment) → stopped ≡ false → AreUpTo job stopped [] 0 0 now
first_up job true now goes = absurd (false≢true (sym goes))
first_up job false now goes = (tt, omega arith, λ k from to line. absurd (omega arith))

pub first_come : (job : Job) (now : Moment) (run : Run) → run.seats.items ≡ replicate (length job.clients) first_seat → run.stopped ≡ false → HasCome job now 0 now run
first_come job now run seats goes = record {
  turns = [];
  end = 0;
  taken = (refl, refl);
  results = λ i client seat is_client is_seat. ap (λ (s : Seat). s.results) (sym (first_at (length job.clients) i run.seats.items seat seats is_seat));
  up_to = first_up job run.stopped now goes;
}

-- ---- the end

results_all : (number : ℕ) (clients : List JobClient) (seats : List Seat) (turns : List Turn) → length seats ≡ length clients
    → ((i : ℕ) (client : JobClient) (seat : Seat) → slice_get clients i ≡ Some client → slice_get seats i ≡ Some seat → seat.results ≡ ended_by (number + i) client turns)
    → results_in clients seats ≡ results_from number clients turns
results_all number [] [] turns long have = refl
results_all number [] (seat ∷ seats) turns long have = absurd (omega (arith, long))
results_all number (client ∷ clients) [] turns long have = absurd (omega (arith, long))
results_all number (client ∷ clients) (seat ∷ seats) turns long have =
    (let zero_more : number + 0 ≡ number = omega arith in
    let head : seat.results ≡ ended_by number client turns = have 0 client seat refl refl ∙ ap (λ (m : ℕ). ended_by m client turns) zero_more in
    let rest : results_in clients seats ≡ results_from (number + 1) clients turns =
    results_all (number + 1) clients seats turns (omega (arith, long))
    (λ i c s is_c is_s. have (suc i) c s is_c is_s ∙ ap (λ (m : ℕ). ended_by m c turns) (let e : number + suc i ≡ number + 1 + i = omega arith in e)) in
    ap (λ (results : List TxnResult). with_not_run (length client.txns) results ∷ results_in clients seats) head
    ∙ ap (λ (results : List (List TxnResult)). results_of number client turns ∷ results) rest)

not_run_within : (bounds : Bounds) (client : JobClient) (count : ℕ) → AllByRecursion (IsResultWithin bounds client) (replicate count NotRun)
not_run_within bounds client zero = tt
not_run_within bounds client (suc count) = (tt, not_run_within bounds client count)

bounded_all : (bounds : Bounds) (clients : List JobClient) (seats : List Seat) → length seats ≡ length clients
    → ((i : ℕ) (client : JobClient) (seat : Seat) → slice_get clients i ≡ Some client → slice_get seats i ≡ Some seat → AllByRecursion (IsResultWithin bounds client) seat.results)
    → AreBounded bounds clients (results_in clients seats)
bounded_all bounds [] [] long within = tt
bounded_all bounds [] (seat ∷ seats) long within = absurd (omega (arith, long))
bounded_all bounds (client ∷ clients) [] long within = absurd (omega (arith, long))
bounded_all bounds (client ∷ clients) (seat ∷ seats) long within = (
  all_join (IsResultWithin bounds client) seat.results (replicate (length client.txns - length seat.results) NotRun) (within 0 client seat refl refl) (not_run_within bounds client (length client.txns - length seat.results)),
  bounded_all bounds clients seats (omega (arith, long)) (λ i c s is_c is_s. within (suc i) c s is_c is_s),
)

-- what became of all transactions is within the bounds
pub are_bounded : (bounds : Bounds) (clients : List JobClient) (now : Moment) (run : Run) (results : List (List TxnResult)) → AreSeated clients now run → AreWithin bounds clients run
    → results ≡ results_in clients run.seats.items → AreBounded bounds clients results
are_bounded bounds clients now run results seated within are = subst (AreBounded bounds clients) (sym are) (bounded_all bounds clients run.seats.items seated.long within)

pub first_within : (bounds : Bounds) (clients : List JobClient) (run : Run) → run.seats.items ≡ replicate (length clients) first_seat → AreWithin bounds clients run
first_within bounds clients run seats i client seat is_client is_seat =
    subst (λ (s : Seat). AllByRecursion (IsResultWithin bounds client) s.results) (first_at (length clients) i run.seats.items seat seats is_seat) tt

has_ended : (job : Job) (stopped : Bool) (turns : List Turn) (end n : ℕ) (now : Moment) → ((number : ℕ) → number < length job.clients → (stopped ≡ true) ⊎ (HasLine job.clients now number → ⊥))
    → AreUpTo job stopped turns end n now → HasEnded job stopped turns now
has_ended job true turns end n now idle up = up
has_ended job false turns end n now idle up = (
  up.0,
  λ number line. elim (idle number (slice_get_within job.clients number line.1.client line.1.there)) [
    | inl stops ↦ absurd (false≢true stops)
    | inr none ↦ none line
  ],
)

pub is_run : (job : Job) (first now : Moment) (run : Run) (results : List (List TxnResult)) → InRounds job first now run → AreSeated job.clients now run
    → ((number : ℕ) → number < length job.clients → IsIdle job.clients now run number) → results ≡ results_in job.clients run.seats.items
    → IsRunBy job first now (record { results = results; disk_failed = run.stopped })
is_run job first now run results in_rounds seated idle are =
    let come = in_rounds.come in
    record {
      turns = come.turns;
      end = come.end;
      taken = come.taken;
      ended = has_ended job run.stopped come.turns come.end (length (entry_clients job.turns) + in_rounds.rounds * length job.clients) now idle come.up_to;
      are = are ∙ results_all 0 job.clients run.seats.items come.turns seated.long
          (λ i c s is_c is_s. come.results i c s is_c is_s ∙ ap (λ (m : ℕ). ended_by m c come.turns) (let e : i ≡ 0 + i = omega arith in e));
    }

-- ---- how long a run can be

spent_few : (seats : List Seat) → ((i : ℕ) (seat : Seat) → slice_get seats i ≡ Some seat → rank seat.place < 17592190242914304) → sum_by (λ (seat : Seat). rank seat.place) seats ≤ length seats * 17592190242914304
spent_few [] low = omega arith
spent_few (seat ∷ seats) low =
    (let first = low 0 seat refl in
    let rest = spent_few seats (λ i s there. low (suc i) s there) in
    let all : sum_by (λ (seat : Seat). rank seat.place) (seat ∷ seats) ≡ rank seat.place + sum_by (λ (seat : Seat). rank seat.place) seats = sum_by-cons (λ (seat : Seat). rank seat.place) seat seats in
    omega (arith, first, rest, all))

pub has_client : (clients : List JobClient) (i : ℕ) → i < length clients → (client : JobClient) × (slice_get clients i ≡ Some client)
has_client [] i low = absurd (omega arith)
has_client (client ∷ clients) zero low = (client, refl)
has_client (client ∷ clients) (suc i) low = has_client clients i (omega arith)

pub spent_low : (clients : List JobClient) (now : Moment) (run : Run) → length clients ≤ 16 → AllByRecursion IsWithinLimits clients → AreSeated clients now run → spent run ≤ 281475043886628864
spent_low clients now run few limits seated =
    let long = seated.long in
    let all = spent_few run.seats.items (λ i seat there.
    (let mine = has_client clients i (let within = slice_get_within run.seats.items i seat there in omega (arith, within, long)) in
    rank_low mine.0 seat.place (limits_get clients i mine.0 limits mine.1) (seated.fit i mine.0 seat mine.1 there))) in
    omega (arith, all, long, few)

-- ---- a client in a list

pub there_of : {X : Type 0} (xs ys : List X) (i : ℕ) (x : X) → xs ≡ ys → i < length ys → x ≡ get_or xs i x → slice_get ys i ≡ Some x
there_of xs ys i x same low is = slice_get-get_or ys i x low ∙ ap Some (sym (is ∙ ap (λ l. get_or l i x) same))

-- ---- turns of a round

at_least : (clients : List JobClient) (count : ℕ) (took : Bool) (old : Run) (now : Moment) (run : Run) → AreTurns clients count took old now run → spent old ≤ spent run
at_least clients count true old now run turns = omega (arith, turns)
at_least clients count false old now run turns = turns.0

pub turns_taken : (clients : List JobClient) (count : ℕ) (took : Bool) (old : Run) (now : Moment) (run : Run) (after : Moment) (new : Run)
    → AreTurns clients count took old now run → IsOneTurn clients count true now run after new → AreTurns clients (count + 1) true old after new
turns_taken clients count took old now run after new turns one =
    let before = at_least clients count took old now run turns in
    omega (arith, before, one)

still_idle : (clients : List JobClient) (number : ℕ) (now : Moment) (run : Run) (after : Moment) (new : Run) → after ≡ now → new.stopped ≡ run.stopped → IsIdle clients now run number → IsIdle clients after new number
still_idle clients number now run after new moment stopped (inl stops) = inl (stopped ∙ stops)
still_idle clients number now run after new moment stopped (inr none) = inr (λ line. none (subst (λ (m : Moment). HasLine clients m number) moment line))

pub turns_none : (clients : List JobClient) (count : ℕ) (took : Bool) (old : Run) (now : Moment) (run : Run) (after : Moment) (new : Run)
    → AreTurns clients count took old now run → IsOneTurn clients count false now run after new → AreTurns clients (count + 1) took old after new
turns_none clients count true old now run after new turns one = let more = one.2 in omega (arith, turns, more)
turns_none clients count false old now run after new turns one = (
  (let first = turns.0 in let more = one.2 in omega (arith, first, more)),
  λ number low. elim (cases_lt number count) [
    | inl earlier ↦ still_idle clients number now run after new one.0 one.1 (turns.1 number earlier)
    | inr last ↦ subst (IsIdle clients after new) (let e : count ≡ number = omega arith in e) one.3
  ],
)

-- ---- one turn

pub passes_went : (job : Job) (before after : Moment) (old new : Run) (number : ℕ) → Went job.clients before after old new number → AreSeated job.clients before old → Passes job 1 (λ k. number) before old after new
passes_went job before after old new number went seated opened n whose come =
    come_more job opened n before after old new number went seated (subst (λ (m : ℕ). scheduled job m ≡ number) (let e : n + 0 ≡ n = omega arith in e) (whose 0 (omega arith))) come

pub passes_stayed : (job : Job) (before after : Moment) (old new : Run) (number : ℕ) → Stayed job.clients before after old new number → Passes job 1 (λ k. number) before old after new
passes_stayed job before after old new number stayed opened n whose come =
    pass_on job opened n 1 after new
    (λ k low. subst (IsIdle job.clients after new) (sym (whose k low)) (stayed_idle job.clients before after old new number stayed))
    (stayed_come job opened n before after old new number stayed come)

pub one_stayed : (clients : List JobClient) (before after : Moment) (old new : Run) (number : ℕ) → Stayed clients before after old new number → IsOneTurn clients number false before old after new
one_stayed clients before after old new number stayed =
    (stayed.moment, stayed.stopped, (let e = ap (sum_by (λ (seat : Seat). rank seat.place)) stayed.seats in omega (arith, e)), stayed_idle clients before after old new number stayed)
