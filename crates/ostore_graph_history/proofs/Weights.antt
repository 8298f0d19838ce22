-- What the entries of a history count for, together, is no more than what all updates of the script count for.
use Rattle.std.proofs.Common.{◌≡◌, ◌≢◌, ℕ, zero, suc, ◌+◌, ◌-◌, ◌<◌, ◌≤◌, Bool, List, [], ◌∷◌, ◌++◌, length, get_or, Option, Some, None, refl, sym, ap, subst, ◌∙◌, arith}
use Rattle.std.proofs.Common.{⊎_elim}
use Rattle.std.specs.Prelude.{All, AllPairs, filter, flat_map, option_and_then, ◌==◌, if◌then◌else◌}
use Rattle.std.specs.List.{slice_get, sum_by}
use Rattle.std.proofs.lemmas.Bool.{cases_eq, cases_lt}
use Rattle.std.proofs.lemmas.List.Elements.{All-head, All-tail, All-cons, All-filter}
use Rattle.std.proofs.lemmas.List.Kept.{AllPairs-filter}
use Rattle.std.proofs.lemmas.List.Sorted.{sum_by-IsPermutation}
use Rattle.std.proofs.lemmas.List.Sums.{sum_by-append, sum_by-cons}
use Rattle.std.proofs.lemmas.Option.{none-some, same_Some}
use Rattle.std.proofs.Math.Dec.{eqb-suc-zero}
use Rattle.ostore_graph_model.specs.declared.commands.Command.{Command}
use Rattle.ostore_graph_model.specs.declared.commands.Txn.{Txn}
use Rattle.ostore_graph_model.specs.declared.commands.Script.{Script}
use Rattle.ostore_graph_model.specs.declared.history.Entry.{Entry}
use Rattle.ostore_graph_model.specs.Growth.{update_commands}
use Rattle.ostore_graph_model.specs.History.{txn_at}
use Rattle.ostore_page_service.specs.History.{InOrder}
use Rattle.ostore_client_core.specs.Kinds.{graph_meaning}
use Rattle.ostore_graph_history.proofs.ListLaws.{pairs-head, pairs-tail}
use Rattle.ostore_graph_history.proofs.Groups.{is_at, groups, grouped, at_key}
use Rattle.ostore_graph_history.proofs.HistoryLaws.{client_of, named_client}

-- the transaction that an entry names
pub record IsNamed (script : Script) (e : Entry × ℕ) : Type 0 where
  pub txn : Txn
  pub named : txn_at script e.0.client.0 e.0.ordinal ≡ Some txn

-- the commands that an entry made, where they may change a graph
abbrev pub commands_of : Option Txn → List Command
commands_of None = []
commands_of (Some txn) = update_commands txn

abbrev pub made_by : Script → Entry × ℕ → List Command
made_by script e = commands_of (txn_at script e.0.client.0 e.0.ordinal)

-- of two entries the later one has the greater ordinal
abbrev Ascend : Entry × ℕ → Entry × ℕ → Type 0
Ascend earlier later = earlier.0.ordinal < later.0.ordinal

-- ordinals begin at 1
at_ordinal : (ordinal : ℕ) (o : Option (List Txn)) (txn : Txn) → (if ordinal == 0 then None else option_and_then (λ txns. slice_get txns (ordinal - 1)) o) ≡ Some txn
    → (1 ≤ ordinal) × (option_and_then (λ txns. slice_get txns (ordinal - 1)) o ≡ Some txn)
at_ordinal zero o txn e = absurd (none-some txn e)
at_ordinal (suc i) o txn e = (
  omega arith,
  subst (λ (b : Bool). (if b then None else option_and_then (λ txns. slice_get txns (suc i - 1)) o) ≡ Some txn) (eqb-suc-zero i) e,
)

-- a count of commands that adds up over lists
module _ (count : List Command → ℕ) (adds : (xs ys : List Command) → count (xs ++ ys) ≡ count xs + count ys) (script : Script) where
  abbrev pub weight : Entry × ℕ → ℕ
  weight e = count (made_by script e)

  -- the entry's transaction is among these, of which the first has the ordinal o + 1
  abbrev IsAmong : List Txn → ℕ → Entry × ℕ → Type 0
  IsAmong txns o e = (txn : Txn) × (slice_get txns (e.0.ordinal - (o + 1)) ≡ Some txn) × (weight e ≡ count (update_commands txn))

  behind_first : (txn : Txn) (txns : List Txn) (o : ℕ) (e : Entry × ℕ) → o + 1 < e.0.ordinal → IsAmong (txn ∷ txns) o e → IsAmong txns (o + 1) e
  behind_first txn txns o e above among =
      let place : e.0.ordinal - (o + 1) ≡ suc (e.0.ordinal - (o + 1 + 1)) = omega (arith, above) in
      (among.0, subst (λ (n : ℕ). slice_get (txn ∷ txns) n ≡ Some among.0) place among.1, among.2)

  -- ---- one client

  ascending : (txns : List Txn) (o : ℕ) (es : List (Entry × ℕ)) → AllPairs Ascend es → All (λ e. o < e.0.ordinal) es → All (IsAmong txns o) es → sum_by weight es ≤ count (flat_map update_commands txns)
  ascending [] o [] pairs low among = omega arith
  ascending [] o (e ∷ es) pairs low among = let first = All-head (IsAmong [] o) e es among in absurd (none-some first.0 first.1)
  ascending (txn ∷ txns) o [] pairs low among = omega arith
  ascending (txn ∷ txns) o (e ∷ es) pairs low among =
      let head = pairs-head Ascend e es pairs in
      let first = All-head (IsAmong (txn ∷ txns) o) e es among in
      let all = adds (update_commands txn) (flat_map update_commands txns) in
      ⊎_elim
      (λ (here : e.0.ordinal ≡ o + 1).
      let place : e.0.ordinal - (o + 1) ≡ 0 = omega (arith, here) in
      let is : txn ≡ first.0 = same_Some txn first.0 (subst (λ (n : ℕ). slice_get (txn ∷ txns) n ≡ Some first.0) place first.1) in
      let own : weight e ≡ count (update_commands txn) = first.2 ∙ ap (λ (t : Txn). count (update_commands t)) (sym is) in
      let above : All (λ x. o + 1 < x.0.ordinal) es = λ i d lt. omega (arith, here, head i d lt) in
      let rest = ascending txns (o + 1) es (pairs-tail Ascend e es pairs) above
      (λ i d lt. behind_first txn txns o (get_or es i d) (above i d lt) (All-tail (IsAmong (txn ∷ txns) o) e es among i d lt)) in
      omega (arith, sum_by-cons weight e es, own, rest, all))
      (λ (apart : e.0.ordinal ≢ o + 1).
      let above = all_above o e es (All-head (λ x. o < x.0.ordinal) e es low) apart head in
      let rest = ascending txns (o + 1) (e ∷ es) pairs above
      (λ i d lt. behind_first txn txns o (get_or (e ∷ es) i d) (above i d lt) (among i d lt)) in
      omega (arith, rest, all))
      (cases_eq e.0.ordinal (o + 1))
    where
      higher : (n o : ℕ) → o < n → n ≢ o + 1 → o + 1 < n
      higher n o low apart = ⊎_elim (λ (more : o + 1 < n). more) (λ (less : n ≤ o + 1). absurd (apart (omega (arith, low, less)))) (cases_lt (o + 1) n)

      all_above : (o : ℕ) (e : Entry × ℕ) (es : List (Entry × ℕ)) → o < e.0.ordinal → e.0.ordinal ≢ o + 1 → All (Ascend e) es → All (λ x. o + 1 < x.0.ordinal) (e ∷ es)
      all_above o e es low apart head =
          let first = higher e.0.ordinal o low apart in
          All-cons (λ x. o + 1 < x.0.ordinal) e es first (λ i d lt. omega (arith, first, head i d lt))

  -- ---- all clients

  among_clients : (c : ℕ) (txns : List Txn) → slice_get script.clients c ≡ Some txns → (e : Entry × ℕ) → client_of e ≡ c → IsNamed script e → (0 < e.0.ordinal) × IsAmong txns 0 e
  among_clients c txns there e own is =
      let at : slice_get script.clients (client_of e) ≡ Some txns = ap (λ (n : ℕ). slice_get script.clients n) own ∙ there in
      let found = at_ordinal e.0.ordinal (slice_get script.clients (client_of e)) is.txn is.named in
      let low = found.0 in
      let place : e.0.ordinal - 1 ≡ e.0.ordinal - (0 + 1) = omega arith in (
        omega (arith, low),
        (
          is.txn,
          subst (λ (n : ℕ). slice_get txns n ≡ Some is.txn) place (subst (λ (o : Option (List Txn)). option_and_then (λ txns. slice_get txns (e.0.ordinal - 1)) o ≡ Some is.txn) at found.1),
          ap (λ (o : Option Txn). count (commands_of o)) is.named,
        ),
      )

  one_client : (h : List (Entry × ℕ)) → All (IsNamed script) h → AllPairs (InOrder graph_meaning script) h → (c : ℕ) (txns : List Txn) → slice_get script.clients c ≡ Some txns
      → sum_by weight (filter (is_at client_of c) h) ≤ count (flat_map update_commands txns)
  one_client h named order c txns there =
      let mine = filter (is_at client_of c) h in
      let own = at_key client_of c h in
      let each : All (IsNamed script) (filter (is_at client_of c) h) = All-filter (is_at client_of c) (IsNamed script) h named in
      let pairs : AllPairs (InOrder graph_meaning script) (filter (is_at client_of c) h) = AllPairs-filter (InOrder graph_meaning script) (is_at client_of c) h order in
      ascending txns 0 mine
      (λ i j d lt within. pairs i j d lt within (own i d (omega (arith, lt, within)) ∙ sym (own j d within)))
      (λ i d lt. (among_clients c txns there (get_or mine i d) (own i d lt) (each i d lt)).0)
      (λ i d lt. (among_clients c txns there (get_or mine i d) (own i d lt) (each i d lt)).1)

  by_clients : (h : List (Entry × ℕ)) (c : ℕ) (clients : List (List Txn))
      → ((j : ℕ) (txns : List Txn) → slice_get clients j ≡ Some txns → sum_by weight (filter (is_at client_of (c + j)) h) ≤ count (flat_map update_commands txns))
      → sum_by weight (groups client_of c (length clients) h) ≤ count (flat_map (flat_map update_commands) clients)
  by_clients h c [] each = omega arith
  by_clients h c (txns ∷ others) each =
      let here : c + 0 ≡ c = omega arith in
      let first : sum_by weight (filter (is_at client_of c) h) ≤ count (flat_map update_commands txns) =
      subst (λ (n : ℕ). sum_by weight (filter (is_at client_of n) h) ≤ count (flat_map update_commands txns)) here (each 0 txns refl) in
      let rest = by_clients h (c + 1) others (λ j more there.
      let next : c + suc j ≡ c + 1 + j = omega arith in
      subst (λ (n : ℕ). sum_by weight (filter (is_at client_of n) h) ≤ count (flat_map update_commands more)) next (each (suc j) more there)) in
      omega (arith, first, rest, sum_by-append weight (filter (is_at client_of c) h) (groups client_of (c + 1) (length others) h), adds (flat_map update_commands txns) (flat_map (flat_map update_commands) others))

  pub all_weigh : (h : List (Entry × ℕ)) → All (IsNamed script) h → AllPairs (InOrder graph_meaning script) h → sum_by weight h ≤ count (flat_map (flat_map update_commands) script.clients)
  all_weigh h named order =
      let below : All (λ e. client_of e < length script.clients) h = λ i d lt.
      let is = named i d lt in
      named_client script (client_of (get_or h i d)) (get_or h i d).0.ordinal is.txn is.named in
      let moved = sum_by-IsPermutation weight h (groups client_of 0 (length script.clients) h) (grouped client_of (length script.clients) h below) in
      let all = by_clients h 0 script.clients (λ j txns there.
      let here : j ≡ 0 + j = omega arith in
      subst (λ (n : ℕ). sum_by weight (filter (is_at client_of n) h) ≤ count (flat_map update_commands txns)) here (one_client h named order j txns there)) in
      omega (arith, moved, all)
