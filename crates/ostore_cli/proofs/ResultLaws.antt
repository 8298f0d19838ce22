-- What results say of transactions: which committed, that each stands where none was given up, that none is where there
-- is room, and that the rest can be told from the transactions that committed.
use Rattle.std.proofs.Common.{◌≡◌, ℕ, zero, suc, ◌+◌, ◌<◌, ◌≤◌, Bool, true, false, ◌||◌, cond, List, [], ◌∷◌, ◌++◌, map, Some, refl, sym, ap, subst, ◌∙◌, arith}
use Rattle.std.proofs.Common.{⊎_elim}
use Rattle.std.specs.Prelude.{Any, option_and_then, slice_get}
use Rattle.std.specs.List.{AllByRecursion, list_any}
use Rattle.std.proofs.lemmas.Bool.{false≢true}
use Rattle.std.proofs.lemmas.List.{get_or_append_left, map-append, length-append}
use Rattle.std.proofs.lemmas.Option.{same_Some}
use Rattle.ostore_base.specs.declared.numbers.ClientNo.{ClientNo}
use Rattle.ostore_graph_model.specs.declared.commands.Txn.{Txn}
use Rattle.ostore_graph_model.specs.declared.history.Committed.{Committed}
use Rattle.ostore_graph_model.specs.LawsOfHistories.{named_by}
use Rattle.ostore_graph_model.specs.Graph.{empty_graph}
use Rattle.ostore_graph_model.specs.Growth.{script_growth}
use Rattle.ostore_job_text.specs.declared.job.JobClient.{JobClient}
use Rattle.ostore_run_report.specs.declared.results.TxnResult.{TxnResult}
use Rattle.ostore_run_report.specs.declared.results.TxnResult.TheVariants.{Commit, Read, Abort, GaveUp, NotRun}
use Rattle.ostore_run_report.specs.Results.{committed_as, committed_from, committed_by, EndedAtOnce}
use Rattle.ostore_run_report.specs.declared.results.Cause.{Cause}
use Rattle.ostore_run_report.specs.declared.results.Cause.TheVariants.{Busy, NoSpace, CacheFull, SpaceFull, Disk, Stopped}
use Rattle.ostore_graph_model.specs.declared.commands.Script.{Script}
use Rattle.ostore_turns.specs.Alone.{IsMetByNone}
use Rattle.ostore_turns.specs.Bounds.{Bounds, IsBounded}
use Rattle.ostore_turns.specs.TurnResults.{AllByTxn}
use Rattle.ostore_cli.specs.FreshRuns.{fresh_bounds, HasRoom, IsAmple, all_pages, free_pages, used_pages, EndsAs, AllEnd, was_given_up, any_given_up}

-- ---- lists

head_is : {X : Type 0} (x y : X) (xs ys : List X) → x ∷ xs ≡ y ∷ ys → x ≡ y
head_is x y xs ys e = cc

tail_is : {X : Type 0} (x y : X) (xs ys : List X) → x ∷ xs ≡ y ∷ ys → xs ≡ ys
tail_is x y xs ys e = cc

any_cons : {X : Type 0} (P : X → Type 0) (x : X) (xs : List X) → Any P xs → Any P (x ∷ xs)
any_cons P x xs (k, y, lt, is, holds) = (suc k, y, omega (arith, lt), is, holds)

any_left : {X : Type 0} (P : X → Type 0) (xs ys : List X) → Any P xs → Any P (xs ++ ys)
any_left P xs ys (k, y, lt, is, holds) = (k, y, omega (arith, lt, length-append xs ys), get_or_append_left xs ys y k lt ∙ is, holds)

any_right : {X : Type 0} (P : X → Type 0) (xs ys : List X) → Any P ys → Any P (xs ++ ys)
any_right P [] ys found = found
any_right P (x ∷ xs) ys found = any_cons P x (xs ++ ys) (any_right P xs ys found)

not_less : (a b : ℕ) → a ≤ b → b < a → ⊥
not_less a b low high = absurd (omega (arith, low, high))

-- ---- results of which none was given up

-- the transaction was aborted
abbrev pub was_aborted : TxnResult → Bool
was_aborted (Commit number tries replies) = false
was_aborted (Read number tries replies) = false
was_aborted (Abort tries) = true
was_aborted (GaveUp tries cause) = false
was_aborted NotRun = false

-- each transaction has one result, and Abort stands for exactly those that their script aborts
abbrev pub AbortsAsScripted : List JobClient → List (List TxnResult) → Type 0
AbortsAsScripted clients results = map (map was_aborted) results ≡ map (λ client. map (λ txn. txn.aborts) client.txns) clients

or_false : (a b : Bool) → (a || b) ≡ false → (a ≡ false) × (b ≡ false)
or_false true b e = absurd (false≢true (sym e))
or_false false b e = (refl, e)

-- a transaction that wasn't given up ended as its script says, at once
pub record Ends (txn : Txn) (result : TxnResult) : Type 0 where
  pub aborted : was_aborted result ≡ txn.aborts
  pub at_once : EndedAtOnce result

ended : (bounds : Bounds) (client : JobClient) (txn : Txn) (result : TxnResult) → EndsAs bounds client txn result → was_given_up result ≡ false → Ends txn result
ended bounds client txn (Commit number tries replies) ends kept = record { aborted = sym ends.1; at_once = ends.0 }
ended bounds client txn (Read number tries replies) ends kept = record { aborted = sym ends.1; at_once = ends.0 }
ended bounds client txn (Abort tries) ends kept = record { aborted = sym ends.1; at_once = ends.0 }
ended bounds client txn (GaveUp tries cause) ends kept = absurd (false≢true (sym kept))
ended bounds client txn NotRun ends kept = absurd ends

record ClientEnds (txns : List Txn) (results : List TxnResult) : Type 0 where
  aborted : map was_aborted results ≡ map (λ txn. txn.aborts) txns
  at_once : AllByRecursion EndedAtOnce results

client_ends : (bounds : Bounds) (client : JobClient) (txns : List Txn) (results : List TxnResult) → AllByTxn (EndsAs bounds client) txns results → list_any was_given_up results ≡ false → ClientEnds txns results
client_ends bounds client [] [] ends kept = record { aborted = refl; at_once = tt }
client_ends bounds client [] (result ∷ results) ends kept = absurd ends
client_ends bounds client (txn ∷ txns) [] ends kept = absurd ends
client_ends bounds client (txn ∷ txns) (result ∷ results) ends kept =
    let none = or_false (was_given_up result) (list_any was_given_up results) kept in
    let now = ended bounds client txn result ends.0 none.0 in
    let later = client_ends bounds client txns results ends.1 none.1 in
    record { aborted = λ i. now.aborted i ∷ later.aborted i; at_once = (now.at_once, later.at_once) }

pub record JobEnds (clients : List JobClient) (results : List (List TxnResult)) : Type 0 where
  pub aborted : AbortsAsScripted clients results
  pub at_once : AllByRecursion (AllByRecursion EndedAtOnce) results

pub job_ends : (bounds : Bounds) (clients : List JobClient) (results : List (List TxnResult)) → AllEnd bounds clients results → any_given_up results ≡ false → JobEnds clients results
job_ends bounds [] [] ends kept = record { aborted = refl; at_once = tt }
job_ends bounds [] (mine ∷ others) ends kept = absurd ends
job_ends bounds (client ∷ clients) [] ends kept = absurd ends
job_ends bounds (client ∷ clients) (mine ∷ others) ends kept =
    let none = or_false (list_any was_given_up mine) (any_given_up others) kept in
    let now = client_ends bounds client client.txns mine ends.0 none.0 in
    let later = job_ends bounds clients others ends.1 none.1 in
    record { aborted = λ i. now.aborted i ∷ later.aborted i; at_once = (now.at_once, later.at_once) }

-- ---- where there is room, none is given up

module _ (script : Script) (growth : script_growth empty_graph script ≤ free_pages) where
  no_cause : (client : JobClient) (cause : Cause) → IsAmple script client.cache → all_pages ≤ client.frames → IsMetByNone cause → IsBounded (fresh_bounds script) client cause → ⊥
  no_cause client (Busy page seen found) cache frames alone within = alone
  no_cause client (NoSpace segment need) cache frames alone within = not_less (script_growth empty_graph script) free_pages growth within
  no_cause client (CacheFull used capacity) cache frames alone within =
      ⊎_elim
      (λ (all : all_pages ≤ client.cache). not_less all_pages client.cache all within.2)
      (λ (used : used_pages script ≤ client.cache). not_less (used_pages script) client.cache used within.3)
      cache
  no_cause client (SpaceFull n) cache frames alone within = not_less all_pages client.frames frames within.1
  no_cause client Disk cache frames alone within = within
  no_cause client (Stopped after) cache frames alone within = alone

  kept_one : (client : JobClient) (txn : Txn) (result : TxnResult) → IsAmple script client.cache → all_pages ≤ client.frames → EndsAs (fresh_bounds script) client txn result → was_given_up result ≡ false
  kept_one client txn (Commit number tries replies) cache frames ends = refl
  kept_one client txn (Read number tries replies) cache frames ends = refl
  kept_one client txn (Abort tries) cache frames ends = refl
  kept_one client txn (GaveUp tries cause) cache frames ends = absurd (no_cause client cause cache frames ends.1 ends.2)
  kept_one client txn NotRun cache frames ends = absurd ends

  kept_all : (client : JobClient) (txns : List Txn) (results : List TxnResult) → IsAmple script client.cache → all_pages ≤ client.frames → AllByTxn (EndsAs (fresh_bounds script) client) txns results → list_any was_given_up results ≡ false
  kept_all client [] [] cache frames ends = refl
  kept_all client [] (result ∷ results) cache frames ends = absurd ends
  kept_all client (txn ∷ txns) [] cache frames ends = absurd ends
  kept_all client (txn ∷ txns) (result ∷ results) cache frames ends =
      (λ i. kept_one client txn result cache frames ends.0 i || list_any was_given_up results) ∙ kept_all client txns results cache frames ends.1

  kept_by : (clients : List JobClient) (results : List (List TxnResult)) → AllByRecursion (λ client. IsAmple script client.cache × (all_pages ≤ client.frames)) clients → AllEnd (fresh_bounds script) clients results → any_given_up results ≡ false
  kept_by [] [] options ends = refl
  kept_by [] (mine ∷ others) options ends = absurd ends
  kept_by (client ∷ clients) [] options ends = absurd ends
  kept_by (client ∷ clients) (mine ∷ others) options ends =
      (λ i. kept_all client client.txns mine options.0.0 options.0.1 ends.0 i || any_given_up others) ∙ kept_by clients others options.1 ends.1

pub none_given_up : (script : Script) (clients : List JobClient) (results : List (List TxnResult)) → HasRoom script clients → AllEnd (fresh_bounds script) clients results → any_given_up results ≡ false
none_given_up script clients results room ends = kept_by script room.growth clients results room.options ends

-- ---- each transaction that isn't aborted stands

abbrev pub IsOf : ℕ → ℕ → Committed → Type 0
IsOf client ordinal one = (one.entry.client.0 ≡ client) × (one.entry.ordinal ≡ ordinal)

first_stands : (client ordinal : ℕ) (result : TxnResult) (results : List TxnResult) → was_aborted result ≡ false → EndedAtOnce result → Any (IsOf client ordinal) (committed_from client ordinal (result ∷ results))
first_stands client ordinal (Commit number tries replies) results kept ended = (0, committed_as client ordinal true number replies, omega arith, refl, (refl, refl))
first_stands client ordinal (Read number tries replies) results kept ended = (0, committed_as client ordinal false number replies, omega arith, refl, (refl, refl))
first_stands client ordinal (Abort tries) results kept ended = absurd cc
first_stands client ordinal (GaveUp tries cause) results kept ended = absurd ended
first_stands client ordinal NotRun results kept ended = absurd ended

later_stands : (P : Committed → Type 0) (client ordinal : ℕ) (result : TxnResult) (results : List TxnResult) → Any P (committed_from client (ordinal + 1) results) → Any P (committed_from client ordinal (result ∷ results))
later_stands P client ordinal (Commit number tries replies) results found = any_cons P (committed_as client ordinal true number replies) (committed_from client (ordinal + 1) results) found
later_stands P client ordinal (Read number tries replies) results found = any_cons P (committed_as client ordinal false number replies) (committed_from client (ordinal + 1) results) found
later_stands P client ordinal (Abort tries) results found = found
later_stands P client ordinal (GaveUp tries cause) results found = found
later_stands P client ordinal NotRun results found = found

client_stands : (client ordinal : ℕ) (txns : List Txn) (results : List TxnResult) → map was_aborted results ≡ map (λ txn. txn.aborts) txns → AllByRecursion EndedAtOnce results
    → (i : ℕ) (txn : Txn) → slice_get txns i ≡ Some txn → txn.aborts ≡ false → (n : ℕ) → n ≡ ordinal + i → Any (IsOf client n) (committed_from client ordinal results)
client_stands client ordinal [] results aborted ended i txn there kept n at = absurd cc
client_stands client ordinal (t ∷ txns) [] aborted ended i txn there kept n at = absurd cc
client_stands client ordinal (t ∷ txns) (r ∷ results) aborted ended zero txn there kept n at =
    let here : n ≡ ordinal = omega (arith, at) in
    let was : was_aborted r ≡ false = head_is _ _ _ _ aborted ∙ ap (λ (x : Txn). x.aborts) (same_Some t txn there) ∙ kept in
    subst (λ (m : ℕ). Any (IsOf client m) (committed_from client ordinal (r ∷ results))) (sym here) (first_stands client ordinal r results was ended.0)
client_stands client ordinal (t ∷ txns) (r ∷ results) aborted ended (suc i) txn there kept n at =
    later_stands (IsOf client n) client ordinal r results
    (client_stands client (ordinal + 1) txns results (tail_is _ _ _ _ aborted) ended.1 i txn there kept n (omega (arith, at)))

pub all_stand : (first : ℕ) (clients : List JobClient) (results : List (List TxnResult)) → AbortsAsScripted clients results → AllByRecursion (AllByRecursion EndedAtOnce) results
    → (j i : ℕ) (txn : Txn) → option_and_then (λ client. slice_get client.txns i) (slice_get clients j) ≡ Some txn → txn.aborts ≡ false → (c : ℕ) → c ≡ first + j → Any (IsOf c (1 + i)) (committed_by first results)
all_stand first [] results aborted ended j i txn there kept c at = absurd cc
all_stand first (client ∷ clients) [] aborted ended j i txn there kept c at = absurd cc
all_stand first (client ∷ clients) (mine ∷ others) aborted ended zero i txn there kept c at =
    let here : c ≡ first = omega (arith, at) in
    subst (λ (m : ℕ). Any (IsOf m (1 + i)) (committed_by first (mine ∷ others))) (sym here)
    (any_left (IsOf first (1 + i)) (committed_from first 1 mine) (committed_by (first + 1) others)
    (client_stands first 1 client.txns mine (head_is _ _ _ _ aborted) ended.0 i txn there kept (1 + i) refl))
all_stand first (client ∷ clients) (mine ∷ others) aborted ended (suc j) i txn there kept c at =
    any_right (IsOf c (1 + i)) (committed_from first 1 mine) (committed_by (first + 1) others)
    (all_stand (first + 1) clients others (tail_is _ _ _ _ aborted) ended.1 j i txn there kept c (omega (arith, at)))

-- ---- which transactions committed

-- those that aren't aborted, of a client and of several
names_from : ℕ → ℕ → List Bool → List (ClientNo × ℕ)
names_from client ordinal [] = []
names_from client ordinal (aborted ∷ others) =
    cond aborted (names_from client (ordinal + 1) others) ((record { 0 = client }, ordinal) ∷ names_from client (ordinal + 1) others)

names_by : ℕ → List (List Bool) → List (ClientNo × ℕ)
names_by client [] = []
names_by client (mine ∷ others) = names_from client 1 mine ++ names_by (client + 1) others

named_from : (client ordinal : ℕ) (results : List TxnResult) → AllByRecursion EndedAtOnce results → map named_by (committed_from client ordinal results) ≡ names_from client ordinal (map was_aborted results)
unfolding names_from
named_from client ordinal [] ended = refl
named_from client ordinal (Commit number tries replies ∷ results) ended = ap (λ (ns : List (ClientNo × ℕ)). (record { 0 = client }, ordinal) ∷ ns) (named_from client (ordinal + 1) results ended.1)
named_from client ordinal (Read number tries replies ∷ results) ended = ap (λ (ns : List (ClientNo × ℕ)). (record { 0 = client }, ordinal) ∷ ns) (named_from client (ordinal + 1) results ended.1)
named_from client ordinal (Abort tries ∷ results) ended = named_from client (ordinal + 1) results ended.1
named_from client ordinal (GaveUp tries cause ∷ results) ended = absurd ended.0
named_from client ordinal (NotRun ∷ results) ended = absurd ended.0

named_all : (client : ℕ) (results : List (List TxnResult)) → AllByRecursion (AllByRecursion EndedAtOnce) results → map named_by (committed_by client results) ≡ names_by client (map (map was_aborted) results)
unfolding names_by
named_all client [] ended = refl
named_all client (mine ∷ others) ended =
    map-append named_by (committed_from client 1 mine) (committed_by (client + 1) others)
    ∙ (λ i. named_from client 1 mine ended.0 i ++ named_all (client + 1) others ended.1 i)

-- results with the same aborts name the same transactions
pub same_names : (client : ℕ) (results others : List (List TxnResult)) → map (map was_aborted) results ≡ map (map was_aborted) others → AllByRecursion (AllByRecursion EndedAtOnce) results → AllByRecursion (AllByRecursion EndedAtOnce) others
    → map named_by (committed_by client results) ≡ map named_by (committed_by client others)
same_names client results others same ended also = named_all client results ended ∙ ap (λ (bs : List (List Bool)). names_by client bs) same ∙ sym (named_all client others also)

-- ---- results from what committed

result_of : Committed → TxnResult
result_of one = cond one.entry.update (Commit one.number 1 one.entry.replies) (Read one.number 1 one.entry.replies)

results_from : List Bool → List Committed → List TxnResult
results_from [] committed = []
results_from (true ∷ aborted) committed = Abort 1 ∷ results_from aborted committed
results_from (false ∷ aborted) [] = []
results_from (false ∷ aborted) (one ∷ committed) = result_of one ∷ results_from aborted committed

-- what is left for the clients behind
left_from : List Bool → List Committed → List Committed
left_from [] committed = committed
left_from (true ∷ aborted) committed = left_from aborted committed
left_from (false ∷ aborted) [] = []
left_from (false ∷ aborted) (one ∷ committed) = left_from aborted committed

results_by : List (List Bool) → List Committed → List (List TxnResult)
results_by [] committed = []
results_by (mine ∷ others) committed = results_from mine committed ∷ results_by others (left_from mine committed)

told_from : (client ordinal : ℕ) (results : List TxnResult) (more : List Committed) → AllByRecursion EndedAtOnce results → results_from (map was_aborted results) (committed_from client ordinal results ++ more) ≡ results
unfolding results_from result_of
told_from client ordinal [] more ended = refl
told_from client ordinal (Commit number tries replies ∷ results) more ended = λ i. Commit number (sym ended.0 i) replies ∷ told_from client (ordinal + 1) results more ended.1 i
told_from client ordinal (Read number tries replies ∷ results) more ended = λ i. Read number (sym ended.0 i) replies ∷ told_from client (ordinal + 1) results more ended.1 i
told_from client ordinal (Abort tries ∷ results) more ended = λ i. Abort (sym ended.0 i) ∷ told_from client (ordinal + 1) results more ended.1 i
told_from client ordinal (GaveUp tries cause ∷ results) more ended = absurd ended.0
told_from client ordinal (NotRun ∷ results) more ended = absurd ended.0

left_over : (client ordinal : ℕ) (results : List TxnResult) (more : List Committed) → AllByRecursion EndedAtOnce results → left_from (map was_aborted results) (committed_from client ordinal results ++ more) ≡ more
unfolding left_from
left_over client ordinal [] more ended = refl
left_over client ordinal (Commit number tries replies ∷ results) more ended = left_over client (ordinal + 1) results more ended.1
left_over client ordinal (Read number tries replies ∷ results) more ended = left_over client (ordinal + 1) results more ended.1
left_over client ordinal (Abort tries ∷ results) more ended = left_over client (ordinal + 1) results more ended.1
left_over client ordinal (GaveUp tries cause ∷ results) more ended = absurd ended.0
left_over client ordinal (NotRun ∷ results) more ended = absurd ended.0

told_by : (client : ℕ) (results : List (List TxnResult)) → AllByRecursion (AllByRecursion EndedAtOnce) results → results_by (map (map was_aborted) results) (committed_by client results) ≡ results
unfolding results_by
told_by client [] ended = refl
told_by client (mine ∷ others) ended =
    let first = told_from client 1 mine (committed_by (client + 1) others) ended.0 in
    let rest = ap (results_by (map (map was_aborted) others)) (left_over client 1 mine (committed_by (client + 1) others) ended.0) ∙ told_by (client + 1) others ended.1 in
    λ i. first i ∷ rest i

-- results with the same aborts, of which the same committed, are the same
pub same_results : (results others : List (List TxnResult)) → map (map was_aborted) results ≡ map (map was_aborted) others → AllByRecursion (AllByRecursion EndedAtOnce) results → AllByRecursion (AllByRecursion EndedAtOnce) others
    → committed_by 0 results ≡ committed_by 0 others → results ≡ others
same_results results others same ended also committed =
    sym (told_by 0 results ended) ∙ (λ i. results_by (same i) (committed i)) ∙ told_by 0 others also
