-- The graphs of a legal history are determined by its list and its first graph.
use Rattle.std.proofs.Common.{◌≡◌, ℕ, zero, suc, ◌+◌, ◌-◌, ◌<◌, ◌≤◌, Bool, true, false, cond, List, [], ◌∷◌, map, length, get_or, refl, sym, ap, ◌∙◌, arith}
use Rattle.std.specs.Prelude.{Contains}
use Rattle.std.specs.List.{range_with_len}
use Rattle.std.proofs.lemmas.List.Elements.{All-contains}
use Rattle.std.proofs.lemmas.List.FromFn.{length-range_with_len, get_or-range_with_len}
use Rattle.std.proofs.lemmas.List.Sorted.{Contains-permutation, IsPermutation-sym}
use Rattle.std.proofs.lemmas.Option.{same_Some}
use Rattle.ostore_base.specs.declared.numbers.ClientNo.{ClientNo}
use Rattle.ostore_schema_layout.specs.declared.schema.Schema.{Schema}
use Rattle.ostore_graph_model.specs.declared.commands.Txn.{Txn}
use Rattle.ostore_graph_model.specs.declared.commands.Script.{Script}
use Rattle.ostore_graph_model.specs.declared.history.Committed.{Committed}
use Rattle.ostore_graph_model.specs.Graph.{Graph}
use Rattle.ostore_graph_model.specs.Transaction.{Ran, transaction}
use Rattle.ostore_graph_model.specs.History.{txn_at, updates, last_number, number_before, IsRight, IsLegalHistory}
use Rattle.ostore_graph_model.specs.LawsOfHistories.{named_by, LawOfGraphs}

-- ---- one transaction from one graph

same_given : (schema : Schema) (a b : Txn) (graph other : Graph) (given found : Ran) → a ≡ b → graph ≡ other → transaction schema a graph ≡ given → transaction schema b other ≡ found → given ≡ found
same_given schema a b graph other given found same from gives finds = sym gives ∙ (λ i. transaction schema (same i) (from i)) ∙ finds

-- what two entries of one transaction say, where they begin from one graph
pub record IsSameRun (graphs others : ℕ → Graph) (one two : Committed) : Type 0 where
  pub kind : one.entry.update ≡ two.entry.update
  pub replies : one.entry.replies ≡ two.entry.replies
  pub graph : graphs one.number ≡ others two.number

module _ {script : Script} {first last low high : ℕ} {graphs others : ℕ → Graph} {one two : Committed} (a : IsRight script first last graphs one) (b : IsRight script low high others two) (named : named_by one ≡ named_by two) where
  same_txn : a.txn ≡ b.txn
  same_txn = same_Some _ _ (sym a.named ∙ ap (λ (p : ClientNo × ℕ). txn_at script p.0.0 p.1) named ∙ b.named)

  pub same_kind : one.entry.update ≡ two.entry.update
  same_kind = a.kind ∙ ap (λ (t : Txn). t.update) same_txn ∙ sym b.kind

  pub same_run : graphs (number_before one.entry.update one.number) ≡ others (number_before two.entry.update two.number) → IsSameRun graphs others one two
  same_run from =
      let before : graphs (number_before a.txn.update one.number) ≡ others (number_before b.txn.update two.number) =
      ap (λ (u : Bool). graphs (number_before u one.number)) (sym a.kind) ∙ from ∙ ap (λ (u : Bool). others (number_before u two.number)) b.kind in
      let same = same_given script.schema a.txn b.txn _ _ _ _ same_txn before a.gives b.gives in
      record {
        kind = same_kind;
        replies = ap (λ (ran : Ran). ran.replies) same;
        graph = ap (λ (ran : Ran). ran.graph) same;
      }

-- ---- an update has each number

contains_range : (a n k : ℕ) → a ≤ k → k < a + n → Contains (range_with_len a n) k
contains_range a n k low high =
    let at : k - a < n = omega arith in
    (k - a, omega (arith, at, length-range_with_len a n), get_or-range_with_len a n (k - a) k at ∙ omega arith)

-- an update of the list has this number
pub record IsNumbered (committed : List Committed) (number : ℕ) : Type 0 where
  pub one : Committed
  pub there : Contains committed one
  pub update : one.entry.update ≡ true
  pub is : one.number ≡ number

numbered_later : (one : Committed) (others : List Committed) (number : ℕ) → IsNumbered others number → IsNumbered (one ∷ others) number
numbered_later one others number found = record {
  one = found.one;
  there = (suc found.there.0, omega (arith, found.there.1), found.there.2);
  update = found.update;
  is = found.is;
}

numbered_first : (one : Committed) (others : List Committed) (number : ℕ) → (Contains (map (λ one. one.number) (updates others)) number → IsNumbered others number) → (b : Bool) → one.entry.update ≡ b
    → (k : ℕ) → k < length (map (λ c. c.number) (cond b (one ∷ updates others) (updates others))) → get_or (map (λ c. c.number) (cond b (one ∷ updates others) (updates others))) k number ≡ number → IsNumbered (one ∷ others) number
numbered_first one others number later true e zero lt is = record { one = one; there = (0, omega arith, refl); update = e; is = is }
numbered_first one others number later true e (suc k) lt is = numbered_later one others number (later (k, omega (arith, lt), is))
numbered_first one others number later false e k lt is = numbered_later one others number (later (k, lt, is))

numbered : (committed : List Committed) (number : ℕ) → Contains (map (λ one. one.number) (updates committed)) number → IsNumbered committed number
numbered [] number found = absurd (omega (arith, found.1))
numbered (one ∷ others) number found = numbered_first one others number (numbered others number) one.entry.update refl found.0 found.1 found.2

before_update : (update : Bool) (number n : ℕ) → update ≡ true → number ≡ suc n → number_before update number ≡ n
before_update true number n e is = omega (arith, is)
before_update false number n e is = absurd cc

-- ---- the graphs

module _ (script : Script) (first : ℕ) (graph last end : Graph) (committed : List Committed) (h : IsLegalHistory script first graph committed last) (k : IsLegalHistory script first graph committed end) where
  same_from : (j : ℕ) → j ≤ length (updates committed) → h.graphs (first + j) ≡ k.graphs (first + j)
  same_from zero within =
      let here : first + 0 ≡ first = omega arith in
      ap h.graphs here ∙ h.begins ∙ sym k.begins ∙ ap k.graphs (sym here)
  same_from (suc j) within =
      let next : first + suc j ≡ suc (first + j) = omega arith in
      let found = numbered committed (first + suc j) (Contains-permutation _ _ (first + suc j) (IsPermutation-sym _ _ h.numbers) (contains_range (first + 1) (length (updates committed)) (first + suc j) (omega arith) (omega (arith, within)))) in
      let a : IsRight script first (last_number first committed) h.graphs found.one = All-contains (IsRight script first (last_number first committed) h.graphs) committed found.one h.right found.there in
      let b : IsRight script first (last_number first committed) k.graphs found.one = All-contains (IsRight script first (last_number first committed) k.graphs) committed found.one k.right found.there in
      let before = before_update found.one.entry.update found.one.number (first + j) found.update (found.is ∙ next) in
      let run = same_run a b refl (ap h.graphs before ∙ same_from j (omega (arith, within)) ∙ ap k.graphs (sym before)) in
      ap h.graphs (sym found.is) ∙ run.graph ∙ ap k.graphs found.is

  same_graphs : (n : ℕ) → first ≤ n → n ≤ last_number first committed → h.graphs n ≡ k.graphs n
  same_graphs n low high =
      let at : first + (n - first) ≡ n = omega arith in
      ap h.graphs (sym at) ∙ same_from (n - first) (omega arith) ∙ ap k.graphs at

  pub same_graph : ((n : ℕ) → first ≤ n → n ≤ last_number first committed → h.graphs n ≡ k.graphs n) × (last ≡ end)
  same_graph = (same_graphs, sym h.ends ∙ same_graphs (last_number first committed) (omega arith) (omega arith) ∙ k.ends)

pub determined : LawOfGraphs
determined script first graph last end committed one other = same_graph script first graph last end committed one other
