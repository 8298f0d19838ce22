-- Two legal histories, of which the second goes on where the first ends, are one.
use Rattle.std.proofs.Common.{◌≡◌, ℕ, zero, suc, ◌+◌, ◌<◌, ◌≤◌, Bool, true, false, cond, leb, List, [], ◌∷◌, ◌++◌, map, length, get_or, refl, sym, ap, subst, ◌∙◌, arith}
use Rattle.std.proofs.Common.{⊎_elim}
use Rattle.std.specs.Prelude.{All, AllPairs, IsPermutation}
use Rattle.std.specs.List.{range_with_len}
use Rattle.std.proofs.lemmas.Bool.{cases_lt, cond-true, cond-false, le-leb, lt-leb}
use Rattle.std.proofs.lemmas.List.{length-append, map-append}
use Rattle.std.proofs.lemmas.List.Elements.{All-nil, All-cons, All-head, All-tail, All-append, All-weaker, filter-append}
use Rattle.std.proofs.lemmas.List.FromFn.{length-range_with_len, get_or-range_with_len}
use Rattle.std.proofs.lemmas.List.Kept.{AllPairs-cons}
use Rattle.std.proofs.lemmas.List.Sorted.{All-permutation, IsPermutation-append, IsPermutation-sym}
use Rattle.ostore_graph_model.specs.declared.commands.Script.{Script}
use Rattle.ostore_graph_model.specs.declared.history.Committed.{Committed}
use Rattle.ostore_graph_model.specs.Graph.{Graph}
use Rattle.ostore_graph_model.specs.Transaction.{transaction}
use Rattle.ostore_graph_model.specs.History.{updates, last_number, number_before, IsRight, InOrder, IsLegalHistory}

-- ---- lists

all_pairs_append : {X : Type 0} (R : X → X → Type 0) (xs ys : List X) → AllPairs R xs → AllPairs R ys → All (λ x. All (R x) ys) xs → AllPairs R (xs ++ ys)
all_pairs_append R [] ys first second cross = second
all_pairs_append R (x ∷ xs) ys first second cross =
    AllPairs-cons R x (xs ++ ys)
    (All-append (R x) xs ys (λ k d h. first 0 (suc k) d (omega arith) (omega (arith, h))) (All-head (λ y. All (R y) ys) x xs cross))
    (all_pairs_append R xs ys (λ i j d lt h. first (suc i) (suc j) d (omega (arith, lt)) (omega (arith, h))) second (All-tail (λ y. All (R y) ys) x xs cross))

range-append : (a n m : ℕ) → range_with_len a (n + m) ≡ range_with_len a n ++ range_with_len (a + n) m
range-append a zero m =
    let none : 0 + m ≡ m = omega arith in
    let here : a + 0 ≡ a = omega arith in
    rw (none, here) refl
range-append a (suc n) m =
    let one : suc n + m ≡ suc (n + m) = omega arith in
    let next : a + suc n ≡ a + 1 + n = omega arith in
    rw (one, next) (ap (λ (ns : List ℕ). a ∷ ns) (range-append (a + 1) n m))

-- the numbers of a range
abbrev pub IsWithin : ℕ → ℕ → ℕ → Type 0
IsWithin a n k = (a ≤ k) × (k < a + n)

range_within : (a n : ℕ) → All (IsWithin a n) (range_with_len a n)
range_within a n k d h =
    let low : k < n = omega (arith, h, length-range_with_len a n) in
    let at = get_or-range_with_len a n k d low in
    (omega (arith, at), omega (arith, at, low))

-- ---- the numbers of updates

-- what holds of the numbers of the updates holds of each update's number
of_updates : (P : ℕ → Type 0) (committed : List Committed) → All P (map (λ one. one.number) (updates committed)) → All (λ one. one.entry.update ≡ true → P one.number) committed
of_updates P [] all = All-nil _
of_updates P (one ∷ others) all =
    let parts = part one.entry.update all in
    All-cons (λ (c : Committed). c.entry.update ≡ true → P c.number) one others parts.0 (of_updates P others parts.1)
  where
    part : (b : Bool) → All P (map (λ c. c.number) (cond b (one ∷ updates others) (updates others))) → (b ≡ true → P one.number) × All P (map (λ c. c.number) (updates others))
    part true holds = (λ e. All-head P one.number (map (λ c. c.number) (updates others)) holds, All-tail P one.number (map (λ c. c.number) (updates others)) holds)
    part false holds = (λ e. absurd cc, holds)

-- each update of a legal history has one of the numbers after the first
pub update_numbers : {script : Script} {first : ℕ} {graph last : Graph} {committed : List Committed} → IsLegalHistory script first graph committed last
    → All (λ one. one.entry.update ≡ true → IsWithin (first + 1) (length (updates committed)) one.number) committed
update_numbers {first = first} {committed = committed} history =
    of_updates (IsWithin (first + 1) (length (updates committed))) committed
    (All-permutation (IsWithin (first + 1) (length (updates committed))) _ _ (IsPermutation-sym _ _ history.numbers) (range_within (first + 1) (length (updates committed))))

-- ---- a transaction is right by graphs that agree

pub number_before-le : (update : Bool) (number : ℕ) → number_before update number ≤ number
number_before-le true number = omega arith
number_before-le false number = omega arith

right_by : {script : Script} {first last low high : ℕ} {graphs others : ℕ → Graph} {one : Committed} → IsRight script first last graphs one
    → others (number_before one.entry.update one.number) ≡ graphs (number_before one.entry.update one.number) → others one.number ≡ graphs one.number → low ≤ one.number → one.number ≤ high
    → IsRight script low high others one
right_by {script} {graphs = graphs} {others = others} {one = one} right before now from to = record {
  txn = right.txn;
  named = right.named;
  kept = right.kept;
  kind = right.kind;
  from = from;
  to = to;
  gives =
      ap (λ (g : Graph). transaction script.schema right.txn g) (subst (λ (b : Bool). others (number_before b one.number) ≡ graphs (number_before b one.number)) right.kind before)
      ∙ right.gives
      ∙ ap (λ (g : Graph). record { replies = one.entry.replies; graph = g }) (sym now);
}

-- ---- two histories, one after the other

-- the graphs up to a number, and those from there on
abbrev pub graphs_up_to : ℕ → (ℕ → Graph) → (ℕ → Graph) → ℕ → Graph
graphs_up_to m before after n = cond (leb n m) (before n) (after n)

pub graphs-before : (m : ℕ) (before after : ℕ → Graph) (n : ℕ) → n ≤ m → graphs_up_to m before after n ≡ before n
graphs-before m before after n h = cond-true (leb n m) (before n) (after n) (le-leb n m h)

pub graphs-after : (m : ℕ) (before after : ℕ → Graph) → before m ≡ after m → (n : ℕ) → m ≤ n → graphs_up_to m before after n ≡ after n
graphs-after m before after same n h =
    ⊎_elim
    (λ (lt : m < n). cond-false (leb n m) (before n) (after n) (lt-leb n m lt))
    (λ (le : n ≤ m). let is : n ≡ m = omega arith in graphs-before m before after n le ∙ ap before is ∙ same ∙ ap after (sym is))
    (cases_lt m n)

pub length-updates : (es fs : List Committed) → length (updates (es ++ fs)) ≡ length (updates es) + length (updates fs)
length-updates es fs = ap length (filter-append (λ (one : Committed). one.entry.update) es fs) ∙ length-append (updates es) (updates fs)

pub last_number-append : (first : ℕ) (es fs : List Committed) → last_number first (es ++ fs) ≡ last_number (last_number first es) fs
last_number-append first es fs = omega (arith, length-updates es fs)

module _ (script : Script) (first : ℕ) (graph mid last : Graph) (es fs : List Committed) (h : IsLegalHistory script first graph es mid) (k : IsLegalHistory script (last_number first es) mid fs last) where
  joined_numbers : IsPermutation (map (λ one. one.number) (updates (es ++ fs))) (range_with_len (first + 1) (length (updates (es ++ fs))))
  joined_numbers =
      let split = ap (λ (cs : List Committed). map (λ one. one.number) cs) (filter-append (λ (one : Committed). one.entry.update) es fs) ∙ map-append (λ (one : Committed). one.number) (updates es) (updates fs) in
      let next : first + 1 + length (updates es) ≡ last_number first es + 1 = omega arith in
      let range = ap (λ (n : ℕ). range_with_len (first + 1) n) (length-updates es fs) ∙ range-append (first + 1) (length (updates es)) (length (updates fs))
      ∙ ap (λ (n : ℕ). range_with_len (first + 1) (length (updates es)) ++ range_with_len n (length (updates fs))) next in
      subst (λ (ns : List ℕ × List ℕ). IsPermutation ns.0 ns.1) (λ i. (sym split i, sym range i))
      (IsPermutation-append (map (λ one. one.number) (updates es)) _ (map (λ one. one.number) (updates fs)) _ h.numbers k.numbers)

  meets : h.graphs (last_number first es) ≡ k.graphs (last_number first es)
  meets = h.ends ∙ sym k.begins

  abbrev joined : ℕ → Graph
  joined = graphs_up_to (last_number first es) h.graphs k.graphs

  joined_ends : joined (last_number first (es ++ fs)) ≡ last
  joined_ends =
      ap joined (last_number-append first es fs)
      ∙ graphs-after (last_number first es) h.graphs k.graphs meets (last_number (last_number first es) fs) (omega arith) ∙ k.ends

  right_first : (one : Committed) → IsRight script first (last_number first es) h.graphs one → IsRight script first (last_number first (es ++ fs)) joined one
  right_first one right =
      right_by right
      (graphs-before (last_number first es) h.graphs k.graphs (number_before one.entry.update one.number) (omega (arith, right.to, number_before-le one.entry.update one.number)))
      (graphs-before (last_number first es) h.graphs k.graphs one.number right.to)
      right.from (omega (arith, right.to, length-updates es fs))

  before_second : (update : Bool) (number : ℕ) → last_number first es ≤ number → (update ≡ true → IsWithin (last_number first es + 1) (length (updates fs)) number) → last_number first es ≤ number_before update number
  before_second true number low numbered = omega (arith, (numbered refl).0)
  before_second false number low numbered = low

  right_second : (i : ℕ) (d : Committed) → i < length fs → IsRight script first (last_number first (es ++ fs)) joined (get_or fs i d)
  right_second i d lt =
      let right = k.right i d lt in
      let one = get_or fs i d in
      right_by right
      (graphs-after (last_number first es) h.graphs k.graphs meets (number_before one.entry.update one.number) (before_second one.entry.update one.number right.from (update_numbers k i d lt)))
      (graphs-after (last_number first es) h.graphs k.graphs meets one.number right.from)
      (omega (arith, right.from)) (omega (arith, right.to, last_number-append first es fs))

  -- the two are one legal history where each client's order is kept
  pub histories_join : All (λ x. All (InOrder x) fs) es → IsLegalHistory script first graph (es ++ fs) last
  histories_join cross = record {
    graphs = joined;
    begins = graphs-before (last_number first es) h.graphs k.graphs first (omega arith) ∙ h.begins;
    ends = joined_ends;
    numbers = joined_numbers;
    right = All-append (IsRight script first (last_number first (es ++ fs)) joined) es fs (All-weaker (IsRight script first (last_number first es) h.graphs) (IsRight script first (last_number first (es ++ fs)) joined) right_first es h.right) right_second;
    order = all_pairs_append InOrder es fs h.order k.order cross;
  }
