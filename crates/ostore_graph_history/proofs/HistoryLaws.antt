-- What committed, client by client, is a legal history too.
use Rattle.std.proofs.Common.{◌≡◌, ℕ, suc, ◌+◌, ◌-◌, ◌<◌, Bool, true, false, List, [], ◌∷◌, ◌++◌, map, length, get_or, Option, None, Some, refl, sym, ap, subst, ◌∙◌, arith}
use Rattle.std.specs.Prelude.{All, AllPairs, IsPermutation, filter, option_and_then, ◌==◌, if◌then◌else◌}
use Rattle.std.specs.List.{slice_get, range_with_len}
use Rattle.std.proofs.lemmas.List.{map-append}
use Rattle.std.proofs.lemmas.List.Elements.{All-filter}
use Rattle.std.proofs.lemmas.List.Sorted.{All-permutation, IsPermutation-map, IsPermutation-sym, IsPermutation-trans, length_permutation}
use Rattle.std.proofs.lemmas.Option.{none-some, slice_get_within}
use Rattle.ostore_base.specs.declared.numbers.ClientNo.{ClientNo}
use Rattle.ostore_graph_model.specs.declared.commands.Script.{Script}
use Rattle.ostore_graph_model.specs.declared.commands.Txn.{Txn}
use Rattle.ostore_graph_model.specs.declared.history.Committed.{Committed}
use Rattle.ostore_graph_model.specs.declared.history.Entry.{Entry}
use Rattle.ostore_graph_model.specs.Graph.{Graph}
use Rattle.ostore_graph_model.specs.History.{txn_at, updates, last_number, IsRight, InOrder, IsLegalHistory}
use Rattle.ostore_graph_model.proofs.GraphExists.{graph_exists}
use Rattle.ostore_run_report.specs.declared.results.TxnResult.{TxnResult}
use Rattle.ostore_run_report.specs.Results.{committed_from, committed_by, committed_of}
use Rattle.ostore_client_core.specs.Kinds.{graph_meaning}
use Rattle.ostore_graph_history.specs.Histories.{committed_entry, LawOfCommittedHistories}
use Rattle.ostore_graph_history.proofs.ListLaws.{filter_mapped, pairs-map, pairs-unmap}
use Rattle.ostore_graph_history.proofs.Groups.{is_at, groups, grouped, groups-pairs, groups-filter}
use Rattle.ostore_graph_history.proofs.OrderedHistories.{legal_to}

-- ---- another order

-- a legal history in another order is legal, where that is an order of each client's calls
other_order : (script : Script) (first : ℕ) (graph last : Graph) (xs ys : List Committed) → IsLegalHistory script first graph xs last → IsPermutation xs ys → IsPermutation (updates xs) (updates ys) → AllPairs InOrder ys
    → IsLegalHistory script first graph ys last × (last_number first xs ≡ last_number first ys)
other_order script first graph last xs ys history moved updates_moved order =
    let long : length (updates ys) ≡ length (updates xs) = length_permutation (updates xs) (updates ys) updates_moved in
    let number : last_number first xs ≡ last_number first ys = ap (λ (n : ℕ). first + n) (sym long) in (
      record {
        graphs = history.graphs;
        begins = history.begins;
        ends = ap history.graphs (sym number) ∙ history.ends;
        numbers = subst (λ (n : ℕ). IsPermutation (map (λ one. one.number) (updates ys)) (range_with_len (first + 1) n)) (sym long)
            (IsPermutation-trans _ _ _ (IsPermutation-sym _ _ (IsPermutation-map (λ (one : Committed). one.number) (updates xs) (updates ys) updates_moved)) history.numbers);
        right = All-permutation (IsRight script first (last_number first ys) history.graphs) xs ys moved
            (subst (λ (n : ℕ). All (IsRight script first n history.graphs) xs) number history.right);
        order = order;
      },
      number,
    )

-- ---- client by client

abbrev pub client_of : Entry × ℕ → ℕ
client_of e = e.0.client.0

abbrev is_update : Entry × ℕ → Bool
is_update e = e.0.update

module _ (script : Script) (first : ℕ) (graph last : Graph) (h : List (Entry × ℕ)) (k : ℕ) (below : All (λ e. client_of e < k) h) where
  moved : (es : List (Entry × ℕ)) → All (λ e. client_of e < k) es → IsPermutation (map committed_entry es) (map committed_entry (groups client_of 0 k es))
  moved es few = IsPermutation-map committed_entry es (groups client_of 0 k es) (grouped client_of k es few)

  updates_are : (es : List (Entry × ℕ)) → updates (map committed_entry es) ≡ map committed_entry (filter is_update es)
  updates_are es = filter_mapped (λ (one : Committed). one.entry.update) committed_entry es

  updates_moved : IsPermutation (updates (map committed_entry h)) (updates (map committed_entry (groups client_of 0 k h)))
  updates_moved =
      subst (λ (cs : List Committed × List Committed). IsPermutation cs.0 cs.1)
      (λ i. (
        sym (updates_are h) i,
        (ap (λ (es : List (Entry × ℕ)). map committed_entry es) (sym (groups-filter client_of is_update 0 k h)) ∙ sym (updates_are (groups client_of 0 k h))) i,
      ))
      (moved (filter is_update h) (All-filter is_update (λ e. client_of e < k) h below))

  apart : (x y : Entry × ℕ) → client_of x < client_of y → InOrder (committed_entry x) (committed_entry y)
  apart x y lower same =
      let alike : client_of x ≡ client_of y = ap (λ (c : ClientNo). c.0) same in
      absurd (omega (arith, lower, alike))

  -- in commit order it is legal; so it is client by client
  by_clients : IsLegalHistory script first graph (map committed_entry h) last → AllPairs (λ x y. InOrder (committed_entry x) (committed_entry y)) h
      → IsLegalHistory script first graph (map committed_entry (groups client_of 0 k h)) last
      × (last_number first (map committed_entry h) ≡ last_number first (map committed_entry (groups client_of 0 k h)))
  by_clients history order =
      other_order script first graph last (map committed_entry h) (map committed_entry (groups client_of 0 k h)) history (moved h below) updates_moved
      (pairs-map InOrder committed_entry (groups client_of 0 k h) (groups-pairs client_of (λ x y. InOrder (committed_entry x) (committed_entry y)) apart 0 k h order))

-- what the results say has committed, where they say it of each client
told_by : (h : List (Entry × ℕ)) (c : ℕ) (results : List (List TxnResult))
    → ((j : ℕ) (mine : List TxnResult) → slice_get results j ≡ Some mine → map committed_entry (filter (is_at client_of (c + j)) h) ≡ committed_from (c + j) 1 mine)
    → map committed_entry (groups client_of c (length results) h) ≡ committed_by c results
told_by h c [] each = refl
told_by h c (mine ∷ others) each =
    let here : c + 0 ≡ c = omega arith in
    let first : map committed_entry (filter (is_at client_of c) h) ≡ committed_from c 1 mine =
    subst (λ (n : ℕ). map committed_entry (filter (is_at client_of n) h) ≡ committed_from n 1 mine) here (each 0 mine refl) in
    let rest = told_by h (c + 1) others (λ j results there.
    let next : c + suc j ≡ c + 1 + j = omega arith in
    subst (λ (n : ℕ). map committed_entry (filter (is_at client_of n) h) ≡ committed_from n 1 results) next (each (suc j) results there)) in
    map-append committed_entry (filter (is_at client_of c) h) (groups client_of (c + 1) (length others) h) ∙ (λ i. first i ++ rest i)

-- ---- the script's clients

-- a transaction that a script names is one of its clients'
pub named_client : (script : Script) (client ordinal : ℕ) (txn : Txn) → txn_at script client ordinal ≡ Some txn → client < length script.clients
named_client script client ordinal txn named = by (ordinal == 0) named
  where
    found : (o : Option (List Txn)) → slice_get script.clients client ≡ o → option_and_then (λ txns. slice_get txns (ordinal - 1)) o ≡ Some txn → client < length script.clients
    found None is there = absurd (none-some txn there)
    found (Some txns) is there = slice_get_within script.clients client txns is

    by : (none : Bool) → (if none then None else option_and_then (λ txns. slice_get txns (ordinal - 1)) (slice_get script.clients client)) ≡ Some txn → client < length script.clients
    by true there = absurd (none-some txn there)
    by false there = found (slice_get script.clients client) refl there

pub clients_below : (script : Script) (h : List (Entry × ℕ)) → All (λ r. graph_meaning.named script r.0) h → All (λ e. client_of e < length script.clients) h
clients_below script h named i d lt =
    let names = named i d lt in
    named_client script (client_of (get_or h i d)) (get_or h i d).0.ordinal names.0 names.1.named

pub history_law : LawOfCommittedHistories
history_law script first n opened last records served results are =
    let h = served.history in
    let legal = served.legal in
    let graph = graph_exists script.schema opened legal.opened_valid.cells_kept in
    let ordered = legal_to script first opened graph.0 graph.1 h n last legal.leads legal.order in
    let below = subst (λ (k : ℕ). All (λ e. client_of e < k) h) (sym are.of_each) (clients_below script h legal.named) in
    let grouped_one = by_clients script first graph.0 ordered.last_graph h (length results) below ordered.history (pairs-unmap InOrder committed_entry h ordered.history.order) in
    let told : map committed_entry (groups client_of 0 (length results) h) ≡ committed_of results = told_by h 0 results told_each in (
      record {
        graph = graph.0;
        opened_valid = legal.opened_valid;
        opened_stands = graph.1;
        last_graph = ordered.last_graph;
        valid = legal.valid;
        stands = ordered.stands;
        legal = subst (λ (cs : List Committed). IsLegalHistory script first graph.0 cs ordered.last_graph) told grouped_one.0;
      },
      ordered.number ∙ grouped_one.1 ∙ ap (λ (cs : List Committed). last_number first cs) told,
    )
  where
    told_each : (j : ℕ) (mine : List TxnResult) → slice_get results j ≡ Some mine → map committed_entry (filter (is_at client_of (0 + j)) served.history) ≡ committed_from (0 + j) 1 mine
    told_each j mine there =
        let here : j ≡ 0 + j = omega arith in
        let within = slice_get_within results j mine there in
        subst (λ (c : ℕ). map committed_entry (filter (is_at client_of c) served.history) ≡ committed_from c 1 mine) here
        (ap (λ (es : List (Entry × ℕ)). map committed_entry es) (served.each j (omega (arith, within, are.of_each, are.few))) ∙ are.committed j mine there)
