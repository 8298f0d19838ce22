-- One transaction that commits next is a legal history by itself, and so it may be added at the end.
use Rattle.std.proofs.Common.{◌≡◌, ◌≢◌, ℕ, ◌+◌, ◌≤◌, Bool, true, false, cond, List, [], ◌∷◌, map, length, get_or, refl, sym, ap, subst, ◌∙◌, arith}
use Rattle.std.specs.Prelude.{All, AllPairs, IsPermutation}
use Rattle.std.specs.List.{range_with_len}
use Rattle.std.proofs.lemmas.Bool.{cond-false, lt-leb}
use Rattle.std.proofs.lemmas.List.Elements.{All-nil, All-cons}
use Rattle.std.proofs.lemmas.List.Sorted.{IsPermutation-refl}
use Rattle.ostore_base.specs.declared.numbers.ClientNo.{ClientNo}
use Rattle.ostore_graph_model.specs.declared.commands.Script.{Script}
use Rattle.ostore_graph_model.specs.declared.history.Committed.{Committed}
use Rattle.ostore_graph_model.specs.Graph.{Graph}
use Rattle.ostore_graph_model.specs.Transaction.{transaction}
use Rattle.ostore_graph_model.specs.History.{updates, last_number, number_before, IsRight, InOrder, IsLegalHistory}
use Rattle.ostore_graph_model.specs.LawsOfHistories.{MayFollow, LawOfAddedUpdates, LawOfAddedReads, LawOfAddedClients}
use Rattle.ostore_graph_model.proofs.HistoryJoins.{graphs_up_to, graphs-before, histories_join}

-- one update alone
pub updates-update : (one : Committed) → one.entry.update ≡ true → updates (one ∷ []) ≡ one ∷ []
updates-update one e = ap (λ (b : Bool). cond b (one ∷ []) []) e

pub updates-read : (one : Committed) → one.entry.update ≡ false → updates (one ∷ []) ≡ []
updates-read one e = ap (λ (b : Bool). cond b (one ∷ []) []) e

no_pairs : {X : Type 0} (R : X → X → Type 0) (x : X) → AllPairs R (x ∷ [])
no_pairs R x i j d lt within = absurd (omega (arith, lt, within))

-- what a transaction gives, by graphs that have the one before it and the one after it
right_one : {script : Script} {committed : List Committed} {graph next : Graph} {one : Committed} → MayFollow script committed graph one next
    → (first last : ℕ) (graphs : ℕ → Graph) → graphs (number_before one.entry.update one.number) ≡ graph → graphs one.number ≡ next → first ≤ one.number → one.number ≤ last
    → IsRight script first last graphs one
right_one {script} {one = one} follows first last graphs before now from to = record {
  txn = follows.txn;
  named = follows.named;
  kept = follows.kept;
  kind = follows.kind;
  from = from;
  to = to;
  gives =
      ap (λ (g : Graph). transaction script.schema follows.txn g) (subst (λ (b : Bool). graphs (number_before b one.number) ≡ _) follows.kind before)
      ∙ follows.gives
      ∙ ap (λ (g : Graph). record { replies = one.entry.replies; graph = g }) (sym now);
}

pub before_update : (update : Bool) (number m : ℕ) → update ≡ true → number ≡ m + 1 → number_before update number ≡ m
before_update true number m e n = omega (arith, n)
before_update false number m e n = absurd cc

pub before_read : (update : Bool) (number : ℕ) → update ≡ false → number_before update number ≡ number
before_read true number e = absurd cc
before_read false number e = refl

update_alone : {script : Script} {committed : List Committed} {graph next : Graph} {one : Committed} → MayFollow script committed graph one next → (m : ℕ) → one.entry.update ≡ true → one.number ≡ m + 1
    → IsLegalHistory script m graph (one ∷ []) next
update_alone {script} {graph = graph} {next = next} {one = one} follows m update number =
    let long : last_number m (one ∷ []) ≡ m + 1 = ap (λ (cs : List Committed). m + length cs) (updates-update one update) in
    let before : (n : ℕ) → n ≤ m → graphs_up_to m (λ _. graph) (λ _. next) n ≡ graph = graphs-before m (λ _. graph) (λ _. next) in
    let after : graphs_up_to m (λ _. graph) (λ _. next) (m + 1) ≡ next = later m graph next in
    record {
      graphs = graphs_up_to m (λ _. graph) (λ _. next);
      begins = before m (omega arith);
      ends = ap (graphs_up_to m (λ _. graph) (λ _. next)) long ∙ after;
      numbers = subst (λ (cs : List Committed). IsPermutation (map (λ c. c.number) cs) (range_with_len (m + 1) (length cs))) (sym (updates-update one update))
          (subst (λ (n : ℕ). IsPermutation (n ∷ []) ((m + 1) ∷ [])) (sym number) (IsPermutation-refl _));
      right = All-cons (IsRight script m (last_number m (one ∷ [])) (graphs_up_to m (λ _. graph) (λ _. next))) one [] (right_one follows m (last_number m (one ∷ [])) (graphs_up_to m (λ _. graph) (λ _. next))
          (ap (graphs_up_to m (λ _. graph) (λ _. next)) (before_update one.entry.update one.number m update number) ∙ before m (omega arith))
          (ap (graphs_up_to m (λ _. graph) (λ _. next)) number ∙ after)
          (omega (arith, number)) (omega (arith, number, long))) (All-nil _);
      order = no_pairs InOrder one;
    }
  where
    later : (m : ℕ) (graph next : Graph) → graphs_up_to m (λ _. graph) (λ _. next) (m + 1) ≡ next
    later m graph next = cond-false _ graph next (lt-leb (m + 1) m (omega arith))

read_alone : {script : Script} {committed : List Committed} {graph : Graph} {one : Committed} → MayFollow script committed graph one graph → one.entry.update ≡ false
    → IsLegalHistory script one.number graph (one ∷ []) graph
read_alone {script} {graph = graph} {one = one} follows read = record {
  graphs = λ _. graph;
  begins = refl;
  ends = refl;
  numbers = subst (λ (cs : List Committed). IsPermutation (map (λ c. c.number) cs) (range_with_len (one.number + 1) (length cs))) (sym (updates-read one read)) (IsPermutation-refl _);
  right = All-cons (IsRight script one.number (last_number one.number (one ∷ [])) (λ _. graph)) one [] (right_one follows one.number (last_number one.number (one ∷ [])) (λ _. graph) refl refl (omega arith) (omega arith)) (All-nil _);
  order = no_pairs InOrder one;
}

-- the added one is in order with those before it
in_order : {script : Script} {first : ℕ} {graph last next : Graph} {committed : List Committed} {one : Committed} → IsLegalHistory script first graph committed last → MayFollow script committed last one next
    → last_number first committed ≤ one.number → All (λ x. All (InOrder x) (one ∷ [])) committed
in_order {committed = committed} {one = one} history follows late i d lt =
    let later : InOrder (get_or committed i d) one = λ same. (follows.rises i d lt same, omega (arith, (history.right i d lt).to, late)) in
    All-cons (InOrder (get_or committed i d)) one [] later (All-nil (InOrder (get_or committed i d)))

pub added_updates : LawOfAddedUpdates
added_updates script first graph last next committed history one follows update number =
    histories_join script first graph last next committed (one ∷ []) history (update_alone follows (last_number first committed) update number)
    (in_order history follows (omega (arith, number)))

pub added_reads : LawOfAddedReads
added_reads script first graph last committed history one follows read number =
    histories_join script first graph last last committed (one ∷ []) history
    (subst (λ (n : ℕ). IsLegalHistory script n last (one ∷ []) last) number (read_alone follows read))
    (in_order history follows (omega (arith, number)))

-- transactions of different clients are in any order
apart : (client : ClientNo) (committed further : List Committed) → All (λ one. one.entry.client ≢ client) committed → All (λ one. one.entry.client ≡ client) further → All (λ x. All (InOrder x) further) committed
apart client committed further others own i d lt j e within same = absurd (others i d lt (same ∙ own j e within))

pub added_clients : LawOfAddedClients
added_clients script first graph mid last committed further history more client others own =
    histories_join script first graph mid last committed further history more (apart client committed further others own)
