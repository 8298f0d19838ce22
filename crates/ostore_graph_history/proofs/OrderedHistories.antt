-- Entries that lead from one list of pages to another are, in their order, a legal history of graphs.
use Rattle.std.proofs.Common.{◌≡◌, ℕ, ◌+◌, ◌<◌, Bool, true, false, List, [], ◌∷◌, map, length, refl, sym, ap, subst, ◌∙◌, arith}
use Rattle.std.specs.Prelude.{All, AllPairs}
use Rattle.std.proofs.lemmas.List.Elements.{All-nil, All-cons, All-map}
use Rattle.std.proofs.lemmas.List.Sorted.{IsPermutation-refl}
use Rattle.ostore_base.specs.declared.numbers.ClientNo.{ClientNo}
use Rattle.ostore_base.specs.declared.page.PageImage.{PageImage}
use Rattle.ostore_graph_model.specs.declared.commands.Script.{Script}
use Rattle.ostore_graph_model.specs.declared.commands.Txn.{Txn}
use Rattle.ostore_graph_model.specs.declared.history.Committed.{Committed}
use Rattle.ostore_graph_model.specs.declared.history.Entry.{Entry}
use Rattle.ostore_graph_model.specs.Graph.{Graph}
use Rattle.ostore_graph_model.specs.History.{last_number, InOrder, IsLegalHistory}
use Rattle.ostore_graph_model.specs.LawsOfHistories.{MayFollow}
use Rattle.ostore_graph_model.specs.StandsFor.{StandsFor}
use Rattle.ostore_graph_model.specs.Transaction.{Runs}
use Rattle.ostore_graph_model.proofs.HistoryAdds.{updates-update, updates-read, added_updates, added_reads}
use Rattle.ostore_graph_model.proofs.HistoryJoins.{last_number-append, histories_join}
use Rattle.ostore_graph_model.proofs.StepLaws.{law_of_read_transactions}
use Rattle.ostore_graph_model.proofs.UniqueLaws.{one_graph}
use Rattle.ostore_page_service.specs.History.{Follows as FollowsOn, Leads, InOrder as EntriesInOrder}
use Rattle.ostore_client_core.specs.Kinds.{Names, HasReplies, Follows, graph_meaning}
use Rattle.ostore_graph_history.specs.Histories.{committed_entry}
use Rattle.ostore_graph_history.proofs.ListLaws.{pairs-head, pairs-tail}

-- a legal history, to the graph for which the last list stands
pub record IsLegalTo (script : Script) (first : ℕ) (graph : Graph) (committed : List Committed) (n : ℕ) (last : List PageImage) : Type 0 where
  pub last_graph : Graph
  pub stands : StandsFor script.schema last last_graph
  pub history : IsLegalHistory script first graph committed last_graph
  pub number : n ≡ last_number first committed

module _ (script : Script) where
  nothing : (first : ℕ) (graph : Graph) → IsLegalHistory script first graph [] graph
  nothing first graph = record {
    graphs = λ n. graph;
    begins = refl;
    ends = refl;
    numbers = IsPermutation-refl _;
    right = λ k d lt. absurd (omega (arith, lt));
    order = λ i j d lt within. absurd (omega (arith, within));
  }

  -- ---- one entry

  may_follow : (e : Entry × ℕ) (txn : Txn) (graph next : Graph) → Names script e.0 txn → Runs script.schema txn graph e.0.replies next → MayFollow script [] graph (committed_entry e) next
  may_follow e txn graph next names gives = record {
    txn = txn;
    named = names.named;
    kept = names.kept;
    kind = names.kind;
    rises = All-nil (λ earlier. earlier.entry.client ≡ e.0.client → earlier.entry.ordinal < e.0.ordinal);
    gives = gives;
  }

  module _ (b k : ℕ) (xs mid : List PageImage) (e : Entry × ℕ) (graph : Graph) (stands : StandsFor script.schema xs graph) where
    update_alone : e.0.update ≡ true → FollowsOn graph_meaning script true b xs e k mid → IsLegalTo script b graph (committed_entry e ∷ []) k mid
    update_alone update follows =
        let next : Follows script e.0 xs mid = follows.3 in
        let same : next.graph ≡ graph = one_graph script.schema xs next.graph graph next.stands stands in
        let gives = subst (λ (g : Graph). Runs script.schema next.txn g e.0.replies next.after) same next.runs in
        let long : last_number b (committed_entry e ∷ []) ≡ b + 1 = ap (λ (cs : List Committed). b + length cs) (updates-update (committed_entry e) update) in
        record {
          last_graph = next.after;
          stands = next.stands_after;
          history = added_updates script b graph graph next.after [] (nothing b graph) (committed_entry e) (may_follow e next.txn graph next.after next.names gives) update (omega (arith, follows.0, follows.1));
          number = omega (arith, follows.0, long);
        }

    read_alone : e.0.update ≡ false → FollowsOn graph_meaning script false b xs e k mid → IsLegalTo script b graph (committed_entry e ∷ []) k mid
    read_alone read follows =
        let right : HasReplies script e.0 xs = follows.2 in
        let same : right.graph ≡ graph = one_graph script.schema xs right.graph graph right.stands stands in
        let left : right.after ≡ right.graph = law_of_read_transactions script.schema right.txn right.graph right.after e.0.replies (sym right.names.kind ∙ read) right.runs in
        let gives = subst (λ (gs : Graph × Graph). Runs script.schema right.txn gs.0 e.0.replies gs.1) (λ i. (same i, (left ∙ same) i)) right.runs in
        let long : last_number b (committed_entry e ∷ []) ≡ b + 0 = ap (λ (cs : List Committed). b + length cs) (updates-read (committed_entry e) read) in
        record {
          last_graph = graph;
          stands = subst (λ (list : List PageImage). StandsFor script.schema list graph) (sym follows.3) stands;
          history = added_reads script b graph graph [] (nothing b graph) (committed_entry e) (may_follow e right.txn graph graph right.names gives) read (omega (arith, follows.0, follows.1));
          number = omega (arith, follows.0, long);
        }

    alone : (update : Bool) → e.0.update ≡ update → FollowsOn graph_meaning script update b xs e k mid → IsLegalTo script b graph (committed_entry e ∷ []) k mid
    alone true is follows = update_alone is follows
    alone false is follows = read_alone is follows

    numbered : (update : Bool) → FollowsOn graph_meaning script update b xs e k mid → e.1 ≡ k
    numbered true follows = follows.1
    numbered false follows = follows.1

  -- ---- all entries

  -- the first one is in order with those behind it
  in_order : (k : ℕ) (mid last : Graph) (e : Entry × ℕ) (es : List (Entry × ℕ)) → e.1 ≡ k → All (EntriesInOrder graph_meaning script e) es → IsLegalHistory script k mid (map committed_entry es) last
      → All (InOrder (committed_entry e)) (map committed_entry es)
  in_order k mid last e es number later history j d lt same = (
    All-map (λ (c : Committed). e.0.client ≡ c.entry.client → e.0.ordinal < c.entry.ordinal) committed_entry es
        (λ i f within alike. later i f within (ap (λ (c : ClientNo). c.0) alike)) j d lt same,
    omega (arith, (history.right j d lt).from, number),
  )

  pub legal_to : (b : ℕ) (xs : List PageImage) (graph : Graph) → StandsFor script.schema xs graph → (es : List (Entry × ℕ)) (n : ℕ) (ys : List PageImage)
      → Leads graph_meaning script b xs es n ys → AllPairs (EntriesInOrder graph_meaning script) es → IsLegalTo script b graph (map committed_entry es) n ys
  legal_to b xs graph stands [] n ys leads pairs = record {
    last_graph = graph;
    stands = subst (λ (list : List PageImage). StandsFor script.schema list graph) (sym leads.1) stands;
    history = nothing b graph;
    number = omega (arith, leads.0);
  }
  legal_to b xs graph stands (e ∷ es) n ys leads pairs =
      let one = alone b leads.0 xs leads.1 e graph stands e.0.update refl leads.2 in
      let rest = legal_to leads.0 leads.1 one.last_graph one.stands es n ys leads.3 (pairs-tail (EntriesInOrder graph_meaning script) e es pairs) in
      let later = in_order leads.0 one.last_graph rest.last_graph e es (numbered b leads.0 xs leads.1 e graph stands e.0.update leads.2) (pairs-head (EntriesInOrder graph_meaning script) e es pairs) rest.history in
      record {
        last_graph = rest.last_graph;
        stands = rest.stands;
        history = histories_join script b graph one.last_graph rest.last_graph (committed_entry e ∷ []) (map committed_entry es) one.history
            (subst (λ (m : ℕ). IsLegalHistory script m one.last_graph (map committed_entry es) rest.last_graph) one.number rest.history)
            (All-cons (λ x. All (InOrder x) (map committed_entry es)) (committed_entry e) [] later (All-nil (λ x. All (InOrder x) (map committed_entry es))));
        number =
            rest.number ∙ ap (λ (m : ℕ). last_number m (map committed_entry es)) one.number
            ∙ sym (last_number-append b (committed_entry e ∷ []) (map committed_entry es));
      }
