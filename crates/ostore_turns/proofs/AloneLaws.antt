-- Where clients are while they run one after the other, and that none meets another then.
use Rattle.std.proofs.Common.{◌≡◌, ◌≢◌, ◌+◌, ◌-◌, ◌<◌, ◌≤◌, ◌%◌, inl, inr, ℕ, zero, suc, Bool, false, cond, List, [], ◌∷◌, length, drop, take, replicate, refl, sym, ap, subst, ◌∙◌, arith, Some}
use Rattle.std.specs.List.{slice_get, sum_by, AllByRecursion}
use Rattle.std.proofs.lemmas.Bool.{cases_eq, cases_lt}
use Rattle.std.proofs.lemmas.List.{length-replicate}
use Rattle.std.proofs.lemmas.List.Sums.{sum_by-cons}
use Rattle.std.proofs.lemmas.Option.{none-some, same_Some}
use Rattle.ostore_graph_model.specs.declared.commands.Txn.{Txn}
use Rattle.ostore_job_text.specs.declared.job.Job.{Job}
use Rattle.ostore_job_text.specs.declared.job.JobClient.{JobClient}
use Rattle.ostore_job_text.specs.RunnableJobs.{IsWithinLimits, lines_of, all_lines}
use Rattle.ostore_run_report.specs.declared.results.Cause.{Cause}
use Rattle.ostore_run_report.specs.declared.results.Cause.TheVariants.{Busy, NoSpace, CacheFull, SpaceFull, Disk, Stopped}
use Rattle.ostore_turns.specs.declared.attempts.Gave.{Gave}
use Rattle.ostore_turns.specs.declared.attempts.Gave.TheVariants.{Going, Committed, Aborted, Failed}
use Rattle.ostore_turns.specs.declared.place.Place.{Place}
use Rattle.ostore_turns.specs.Places.{Moment, HasLine, IsIn, first_place, is_retried, moved, next_attempt, next_line, next_txn}
use Rattle.ostore_turns.specs.LawfulTurns.{IsMet, IsCauseAt, MayGive, Turns}
use Rattle.ostore_turns.specs.Schedules.{client_or, entry_clients, scheduled}
use Rattle.ostore_turns.specs.Alone.{line_by_line, AreOneAfterTheOther, IsMetByNone}
use Rattle.ostore_turns.specs.Runs.{IsFirst}
use Rattle.ostore_turns.specs.inside.Steps.{IsFitPlace}
use Rattle.ostore_turns.proofs.RunLaws.{get_past, get_repeated}
use Rattle.ostore_turns.proofs.RecordedLaws.{recorded_other}
use Rattle.ostore_turns.proofs.WalkLaws.{AreFit, first_fit, turn_fits, mine, other, txn_there, drop_there, drop_past}

-- ---- whose places of the schedule they are

-- the lines of all clients before one
abbrev pub start : List JobClient → ℕ → ℕ
start clients i = sum_by all_lines (take i clients)

start_more : (first : JobClient) (clients : List JobClient) (i : ℕ) → start (first ∷ clients) (suc i) ≡ all_lines first + start clients i
start_more first clients i = sum_by-cons all_lines first (take i clients)

line_there : (number : ℕ) (clients : List JobClient) (i : ℕ) (client : JobClient) (k : ℕ) → slice_get clients i ≡ Some client → k < all_lines client → slice_get (line_by_line number clients) (start clients i + k) ≡ Some (number + i)
line_there number [] i client k there low = absurd (none-some client there)
line_there number (first ∷ clients) zero client k there low =
    (let same : all_lines first ≡ all_lines client = ap all_lines (same_Some first client there) in
    ap (slice_get (line_by_line number (first ∷ clients))) (let e : 0 + k ≡ k = omega arith in e)
    ∙ get_repeated (all_lines first) number (line_by_line (number + 1) clients) k (omega (arith, low, same))
    ∙ ap Some (let e : number ≡ number + 0 = omega arith in e))
line_there number (first ∷ clients) (suc i) client k there low =
    (let more = start_more first clients i in
    let xs : List ℕ = replicate (all_lines first) number in
    let long : length xs ≡ all_lines first = length-replicate (all_lines first) number in
    let at : start (first ∷ clients) (suc i) + k ≡ length xs + (start clients i + k) = omega (arith, more, long) in
    ap (slice_get (line_by_line number (first ∷ clients))) at
    ∙ get_past xs (line_by_line (number + 1) clients) (start clients i + k)
    ∙ line_there (number + 1) clients i client k there low
    ∙ ap Some (let e : number + 1 + i ≡ number + suc i = omega arith in e))

-- the places of a client are its own
pub is_own : (job : Job) → AreOneAfterTheOther job.clients job.turns → (i : ℕ) (client : JobClient) → slice_get job.clients i ≡ Some client → (n : ℕ) → start job.clients i ≤ n → n < start job.clients i + all_lines client → scheduled job n ≡ i
is_own job alone i client there n from to =
    (let k : ℕ = n - start job.clients i in
    let at : n ≡ start job.clients i + k = omega (arith, from) in
    let found : slice_get (entry_clients job.turns) n ≡ Some (0 + i) = ap (slice_get (entry_clients job.turns)) at ∙ ap (λ (l : List ℕ). slice_get l (start job.clients i + k)) alone ∙ line_there 0 job.clients i client k there (omega (arith, from, to)) in
    ap (client_or ((n - length (entry_clients job.turns)) % length job.clients)) found ∙ (let e : 0 + i ≡ i = omega arith in e))

-- each place of the entries is a client's
record Found (clients : List JobClient) (n : ℕ) : Type 0 where
  i : ℕ
  client : JobClient
  there : slice_get clients i ≡ Some client
  from : start clients i ≤ n
  to : n < start clients i + all_lines client

found_at : (clients : List JobClient) (n : ℕ) → n < sum_by all_lines clients → Found clients n
found_at [] n low = absurd (omega (arith, low))
found_at (client ∷ clients) n low =
    let all : sum_by all_lines (client ∷ clients) ≡ all_lines client + sum_by all_lines clients = sum_by-cons all_lines client clients in
    elim (cases_lt n (all_lines client)) [
      | inl mine ↦ record { i = 0; client = client; there = refl; from = omega arith; to = omega (arith, mine) }
      | inr past ↦
          (let rest = found_at clients (n - all_lines client) (omega (arith, low, all, past)) in
          let more = start_more client clients rest.i in
          let from = rest.from in
          let to = rest.to in
          record { i = suc rest.i; client = rest.client; there = rest.there; from = omega (arith, more, from, past); to = omega (arith, more, to, past) })
    ]

-- a client's places come before those of the later ones, and all within the entries
pub comes_before : (clients : List JobClient) (j i : ℕ) (client : JobClient) → slice_get clients j ≡ Some client → j < i → start clients j + all_lines client ≤ start clients i
comes_before [] j i client there low = absurd (none-some client there)
comes_before (first ∷ clients) j zero client there low = absurd (omega arith)
comes_before (first ∷ clients) zero (suc i) client there low =
    (let same : all_lines first ≡ all_lines client = ap all_lines (same_Some first client there) in
    let more = start_more first clients i in
    omega (arith, same, more))
comes_before (first ∷ clients) (suc j) (suc i) client there low =
    (let rest = comes_before clients j i client there (omega arith) in
    let here = start_more first clients j in
    let more = start_more first clients i in
    omega (arith, rest, here, more))

within_all : (clients : List JobClient) (i : ℕ) (client : JobClient) → slice_get clients i ≡ Some client → start clients i + all_lines client ≤ sum_by all_lines clients
within_all [] i client there = absurd (none-some client there)
within_all (first ∷ clients) zero client there =
    (let same : all_lines first ≡ all_lines client = ap all_lines (same_Some first client there) in
    let all : sum_by all_lines (first ∷ clients) ≡ all_lines first + sum_by all_lines clients = sum_by-cons all_lines first clients in
    omega (arith, same, all))
within_all (first ∷ clients) (suc i) client there =
    (let rest = within_all clients i client there in
    let more = start_more first clients i in
    let all : sum_by all_lines (first ∷ clients) ≡ all_lines first + sum_by all_lines clients = sum_by-cons all_lines first clients in
    omega (arith, rest, more, all))

-- ---- how many lines a client has left

abbrev pub lines_left : JobClient → Place → ℕ
lines_left client at = sum_by lines_of (drop at.txn client.txns) - at.line

left_there : (client : JobClient) (k : ℕ) (txn : Txn) → slice_get client.txns k ≡ Some txn → sum_by lines_of (drop k client.txns) ≡ lines_of txn + sum_by lines_of (drop (k + 1) client.txns)
left_there client k txn there = ap (sum_by lines_of) (drop_there client.txns k txn there) ∙ sum_by-cons lines_of txn (drop (k + 1) client.txns)

-- some, where it has a line
some_left : (clients : List JobClient) (now : Moment) (i : ℕ) (client : JobClient) → slice_get clients i ≡ Some client → HasLine clients now i → 1 ≤ lines_left client (now.places i)
some_left clients now i client there line =
    let same : line.1.client ≡ client = same_Some line.1.client client (sym line.1.there ∙ there) in
    let read : slice_get client.txns (now.places i).txn ≡ Some line.0 = ap (λ (c : JobClient). slice_get c.txns (now.places i).txn) (sym same) ∙ line.1.next in
    let left = left_there client (now.places i).txn line.0 read in
    let low = line.1.line in
    omega (arith, left, low)

-- none, where it has no line
none_left : (clients : List JobClient) (now : Moment) (i : ℕ) (client : JobClient) → slice_get clients i ≡ Some client → IsFitPlace client (now.places i) → (HasLine clients now i → ⊥) → lines_left client (now.places i) ≡ 0
none_left clients now i client there fits none = elim (cases_lt (now.places i).txn (length client.txns)) [
  | inl low ↦
      (let found = txn_there client.txns (now.places i).txn low in
      absurd (none (found.0, record { client = client; there = there; next = found.1; line = fits.line found.0 found.1 })))
  | inr past ↦
      (let nothing : sum_by lines_of (drop (now.places i).txn client.txns) ≡ 0 = ap (sum_by lines_of) (drop_past client.txns (now.places i).txn (omega (arith, past))) in
      omega (arith, nothing))
]

-- ---- one after the other

-- At a place of the schedule the clients whose places come later are at their first lines, and those whose places came have
-- none left; the one whose places these are has at most as many as it has places. No attempt at a transaction has ended.
pub record AloneAt (job : Job) (n : ℕ) (now : Moment) : Type 0 where
  pub fit : AreFit job.clients now
  pub ahead : (i : ℕ) → n ≤ start job.clients i → (now.places i ≡ first_place) × (now.records i ≡ [])
  pub left : (i : ℕ) (client : JobClient) → slice_get job.clients i ≡ Some client → lines_left client (now.places i) ≤ start job.clients i + all_lines client - n
  pub once : (i : ℕ) (client : JobClient) → slice_get job.clients i ≡ Some client → (now.places i).failed ≡ 0

first_left : (client : JobClient) (at : Place) → at ≡ first_place → lines_left client at ≡ all_lines client
first_left client at first = ap (lines_left client) first ∙ (let e : all_lines client - 0 ≡ all_lines client = omega arith in e)

pub first_alone : (job : Job) (now : Moment) → AllByRecursion IsWithinLimits job.clients → IsFirst now → AloneAt job 0 now
first_alone job now limits first = record {
  fit = first_fit job.clients now first limits;
  ahead = λ i low. first i;
  left = λ i client there. (let all = first_left client (now.places i) (first i).0 in omega (arith, all));
  once = λ i client there. ap (λ (p : Place). p.failed) (first i).0;
}

-- a client that has no line left is passed over
skip_one : (job : Job) (n : ℕ) (now : Moment) → AreOneAfterTheOther job.clients job.turns → (HasLine job.clients now (scheduled job n) → ⊥) → AloneAt job n now → AloneAt job (n + 1) now
skip_one job n now alone none at = record {
  fit = at.fit;
  ahead = λ i low. at.ahead i (omega (arith, low));
  left = λ i client there. (let left = at.left i client there in
      elim (cases_lt n (start job.clients i)) [
        | inl later ↦ (let all = first_left client (now.places i) (at.ahead i (omega (arith, later))).0 in omega (arith, all, later))
        | inr from ↦ elim (cases_lt n (start job.clients i + all_lines client)) [
          | inl to ↦
              (let own : scheduled job n ≡ i = is_own job alone i client there n (omega (arith, from)) to in
              let nothing = none_left job.clients now i client there (at.fit i client there) (λ line. none (subst (HasLine job.clients now) (sym own) line)) in
              omega (arith, nothing))
          | inr past ↦ omega (arith, left, past)
        ]
      ]);
  once = at.once;
}

skip_all : (job : Job) (count n : ℕ) (now : Moment) → AreOneAfterTheOther job.clients job.turns → ((k : ℕ) → n ≤ k → k < n + count → HasLine job.clients now (scheduled job k) → ⊥) → AloneAt job n now → AloneAt job (n + count) now
skip_all job zero n now alone none at = subst (λ (m : ℕ). AloneAt job m now) (let e : n ≡ n + 0 = omega arith in e) at
skip_all job (suc count) n now alone none at =
    subst (λ (m : ℕ). AloneAt job m now) (let e : n + 1 + count ≡ n + suc count = omega arith in e)
    (skip_all job count (n + 1) now alone (λ k from to. none k (omega (arith, from)) (omega (arith, to)))
    (skip_one job n now alone (none n (omega arith) (omega arith)) at))

pub skipped : (job : Job) (from to : ℕ) (now : Moment) → AreOneAfterTheOther job.clients job.turns → from ≤ to → ((k : ℕ) → from ≤ k → k < to → HasLine job.clients now (scheduled job k) → ⊥) → AloneAt job from now → AloneAt job to now
skipped job from to now alone low none at =
    let all : from + (to - from) ≡ to = omega (arith, low) in
    subst (λ (m : ℕ). AloneAt job m now) all (skip_all job (to - from) from now alone (λ k after before. none k after (omega (arith, before, all))) at)

-- ---- a turn

-- the client that takes a turn takes it at a place of its own
pub record IsAtOwn (clients : List JobClient) (n number : ℕ) (client : JobClient) : Type 0 where
  pub there : slice_get clients number ≡ Some client
  pub from : start clients number ≤ n
  pub to : n < start clients number + all_lines client

pub at_own : (job : Job) (n : ℕ) (now : Moment) (number : ℕ) (txn : Txn) → AreOneAfterTheOther job.clients job.turns → AloneAt job n now → scheduled job n ≡ number → (is_in : IsIn job.clients now number txn) → IsAtOwn job.clients n number is_in.client
at_own job n now number txn alone at whose is_in =
    let client : JobClient = is_in.client in
    let there : slice_get job.clients number ≡ Some client = is_in.there in
    let some = some_left job.clients now number client there (txn, is_in) in
    let left = at.left number client there in
    let all = within_all job.clients number client there in
    let found = found_at job.clients n (omega (arith, some, left, all)) in
    let same : found.i ≡ number = sym (is_own job alone found.i found.client found.there n found.from found.to) ∙ whose in
    record {
      there = there;
      from = (let from = found.from in let e : start job.clients found.i ≡ start job.clients number = ap (start job.clients) same in omega (arith, from, e));
      to = omega (arith, some, left);
    }

-- no other client has begun that has a line left
no_other : (job : Job) (n : ℕ) (now : Moment) (number i : ℕ) (begun : Txn) → AreOneAfterTheOther job.clients job.turns → AloneAt job n now → scheduled job n ≡ number → i ≢ number → IsIn job.clients now i begun → (now.places i).line ≡ 0
no_other job n now number i begun alone at whose apart is_in =
    let some = some_left job.clients now i is_in.client is_in.there (begun, is_in) in
    let left = at.left i is_in.client is_in.there in
    elim (cases_lt n (start job.clients i)) [
      | inl later ↦ ap (λ (p : Place). p.line) (at.ahead i (omega (arith, later))).0
      | inr from ↦ absurd (apart (sym (is_own job alone i is_in.client is_in.there n (omega (arith, from)) (omega (arith, some, left))) ∙ whose))
    ]

pub no_met : (job : Job) (n : ℕ) (now : Moment) (number : ℕ) (txn : Txn) → AreOneAfterTheOther job.clients job.turns → AloneAt job n now → scheduled job n ≡ number → IsMet job.clients now number txn → ⊥
no_met job n now number txn alone at whose met =
    let first = no_other job n now number met.other met.begun alone at whose met.another met.is_in in
    let executed = met.executed in
    omega (arith, first, executed)

-- the line met no other client
abbrev pub MeetsNone : Gave → Type 0
MeetsNone Going = Unit {0}
MeetsNone (Committed commit replies) = Unit {0}
MeetsNone Aborted = Unit {0}
MeetsNone (Failed cause) = IsMetByNone cause

cause_alone : (job : Job) (n : ℕ) (now : Moment) (number : ℕ) (txn : Txn) (cause : Cause) → (IsMet job.clients now number txn → ⊥) → IsCauseAt job.clients now number txn cause → IsMetByNone cause
cause_alone job n now number txn (Busy page seen found) none may = none may.1
cause_alone job n now number txn (NoSpace segment need) none may = tt
cause_alone job n now number txn (CacheFull used capacity) none may = tt
cause_alone job n now number txn (SpaceFull frames) none may = tt
cause_alone job n now number txn Disk none may = tt
cause_alone job n now number txn (Stopped after) none may = may

pub gave_alone : (job : Job) (n : ℕ) (now : Moment) (number : ℕ) (txn : Txn) (gave : Gave) → AreOneAfterTheOther job.clients job.turns → AloneAt job n now → scheduled job n ≡ number → MayGive job.clients now number txn gave → MeetsNone gave
gave_alone job n now number txn Going alone at whose may = tt
gave_alone job n now number txn (Committed commit replies) alone at whose may = tt
gave_alone job n now number txn Aborted alone at whose may = tt
gave_alone job n now number txn (Failed cause) alone at whose may = cause_alone job n now number txn cause (no_met job n now number txn alone at whose) may

-- where a client is that met no other
record MovedOn (client : JobClient) (at next : Place) : Type 0 where
  fewer : lines_left client next + 1 ≤ lines_left client at
  once : next.failed ≡ 0

line_on : (client : JobClient) (at : Place) (txn : Txn) → slice_get client.txns at.txn ≡ Some txn → at.line < lines_of txn → at.failed ≡ 0 → MovedOn client at (next_line at)
line_on client at txn there low once =
    let left = left_there client at.txn txn there in
    record { fewer = omega (arith, left, low); once = once }

txn_on : (client : JobClient) (at : Place) (txn : Txn) → slice_get client.txns at.txn ≡ Some txn → at.line < lines_of txn → MovedOn client at (next_txn at)
txn_on client at txn there low =
    let left = left_there client at.txn txn there in
    record { fewer = omega (arith, left, low); once = refl }

pub not_retried : (tries : ℕ) (at : Place) (cause : Cause) → IsMetByNone cause → is_retried tries at cause ≡ false
not_retried tries at (Busy page seen found) none = absurd none
not_retried tries at (NoSpace segment need) none = refl
not_retried tries at (CacheFull used capacity) none = refl
not_retried tries at (SpaceFull frames) none = refl
not_retried tries at Disk none = refl
not_retried tries at (Stopped after) none = refl

moved_on : (client : JobClient) (at : Place) (txn : Txn) (gave : Gave) → slice_get client.txns at.txn ≡ Some txn → at.line < lines_of txn → at.failed ≡ 0 → MeetsNone gave → MovedOn client at (moved client.tries at gave)
moved_on client at txn Going there low once none = line_on client at txn there low once
moved_on client at txn (Committed commit replies) there low once none = txn_on client at txn there low
moved_on client at txn Aborted there low once none = txn_on client at txn there low
moved_on client at txn (Failed cause) there low once none =
    subst (λ (b : Bool). MovedOn client at (cond b (next_attempt at) (next_txn at))) (sym (not_retried client.tries at cause none)) (txn_on client at txn there low)

-- the others have no more lines left than places behind this one
skip_other : (job : Job) (n : ℕ) (now : Moment) (number i : ℕ) (client : JobClient) → AreOneAfterTheOther job.clients job.turns → AloneAt job n now → scheduled job n ≡ number → i ≢ number → slice_get job.clients i ≡ Some client
    → lines_left client (now.places i) ≤ start job.clients i + all_lines client - (n + 1)
skip_other job n now number i client alone at whose apart there =
    let left = at.left i client there in
    elim (cases_lt n (start job.clients i)) [
      | inl later ↦ (let all = first_left client (now.places i) (at.ahead i (omega (arith, later))).0 in omega (arith, all, later))
      | inr from ↦ elim (cases_lt n (start job.clients i + all_lines client)) [
        | inl to ↦ absurd (apart (sym (is_own job alone i client there n (omega (arith, from)) to) ∙ whose))
        | inr past ↦ omega (arith, left, past)
      ]
    ]

pub turn_alone : (job : Job) (n : ℕ) (now after : Moment) (number : ℕ) (gave : Gave) → AllByRecursion IsWithinLimits job.clients → AreOneAfterTheOther job.clients job.turns → AloneAt job n now → scheduled job n ≡ number
    → Turns job.clients now number gave after → AloneAt job (n + 1) after
turn_alone job n now after number gave limits alone at whose turns =
    let client : JobClient = turns.is_in.client in
    let own = at_own job n now number turns.txn alone at whose turns.is_in in
    let on = mine job.clients now after number gave client turns own.there in
    let none = gave_alone job n now number turns.txn gave alone at whose turns.may in
    let went : MovedOn client (now.places number) (after.places number) = subst (MovedOn client (now.places number)) (sym on.place) (moved_on client (now.places number) turns.txn gave on.there turns.is_in.line (at.once number client own.there) none) in
    record {
      fit = turn_fits job.clients now after number gave limits turns at.fit;
      ahead = λ i low.
          (let apart : i ≢ number = λ e. (let from = own.from in let same : start job.clients i ≡ start job.clients number = ap (start job.clients) e in absurd (omega (arith, low, from, same))) in
          let was = at.ahead i (omega (arith, low)) in
          (other job.clients now after number gave turns i apart ∙ was.0, turns.records i ∙ recorded_other number (now.places number) turns.txn.update gave now.records i apart ∙ was.1));
      left = λ i c there. elim (cases_eq i number) [
        | inl same ↦
            (let is : client ≡ c = same_Some client c (sym own.there ∙ (ap (slice_get job.clients) (sym same) ∙ there)) in
            let fewer = went.fewer in
            let left = at.left number client own.there in
            let to = own.to in
            let less : lines_left client (after.places number) ≤ start job.clients number + all_lines client - (n + 1) = omega (arith, fewer, left, to) in
            subst (λ (x : JobClient). lines_left x (after.places i) ≤ start job.clients i + all_lines x - (n + 1)) is
            (subst (λ (k : ℕ). lines_left client (after.places k) ≤ start job.clients k + all_lines client - (n + 1)) (sym same) less))
        | inr apart ↦
            (let still = skip_other job n now number i c alone at whose apart there in
            subst (λ (p : Place). lines_left c p ≤ start job.clients i + all_lines c - (n + 1)) (sym (other job.clients now after number gave turns i apart)) still)
      ];
      once = λ i c there. elim (cases_eq i number) [
        | inl same ↦ ap (λ (k : ℕ). (after.places k).failed) same ∙ went.once
        | inr apart ↦ ap (λ (p : Place). p.failed) (other job.clients now after number gave turns i apart) ∙ at.once i c there
      ];
    }
