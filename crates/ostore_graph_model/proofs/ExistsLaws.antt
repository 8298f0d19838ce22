-- Maps and sets that answer a relation exist where the relation is that of a finite list of entries.
use Rattle.std.proofs.Common.{◌≡◌, ◌↔◌, ◌⊎◌, ◌||◌, Bool, true, false, cond, List, [], ◌∷◌, refl, sym, ap, ◌∙◌, Some, inl, inr, true≢false}
use Rattle.std.specs.List.{list_any}
use Rattle.std.specs.declared.cmp.Ordering.{Ordering}
use Rattle.std.specs.Ordering.{eq_by_cmp}
use Rattle.std.specs.Cmp.{IsTotalOrder}
use Rattle.std.specs.FinMap as maps
use Rattle.std.specs.FinMap.Entries.{find}
use Rattle.ostore_graph_model.specs.Sets as sets
use Rattle.ostore_graph_model.proofs.SetFacts as set_facts
use Rattle.std.proofs.lemmas.Bool.{cases_Bool, or_cases}
use Rattle.std.proofs.lemmas.Option.{same_Some, none-some}
use Rattle.ostore_graph_model.proofs.OrderLaws.{tied_same, same_tied}

-- an entry is in a list of entries
abbrev pub IsEntry : {X : Type 0} → X → List X → Type 0
IsEntry x [] = ⊥
IsEntry x (first ∷ others) = (x ≡ first) ⊎ IsEntry x others

module _ {K X : Type 0} {R : K → K → Ordering} (o : IsTotalOrder R) (same : maps.IsAntisymmetric R) where
  find_entry : (k : K) (x : X) (entries : List (K × X)) → find R k entries ≡ Some x → IsEntry (k, x) entries
  find_entry k x [] e = absurd (none-some x e)
  find_entry k x (first ∷ others) e = elim (cases_Bool (eq_by_cmp R k first.0)) [
    | inl tied ↦
        let value : first.1 ≡ x = same_Some _ _ (sym (ap (λ b. cond b (Some first.1) (find R k others)) tied) ∙ e) in
        let key : k ≡ first.0 = tied_same same k first.0 tied in
        inl (λ i. (key i, sym value i))
    | inr apart ↦ inr (find_entry k x others (sym (ap (λ b. cond b (Some first.1) (find R k others)) apart) ∙ e))
  ]

  entry_found : (k : K) (x : X) (entries : List (K × X)) → IsEntry (k, x) entries → (y : X) × (find R k entries ≡ Some y)
  entry_found k x [] there = absurd there
  entry_found k x (first ∷ others) there = elim (cases_Bool (eq_by_cmp R k first.0)) [
    | inl tied ↦ (first.1, ap (λ b. cond b (Some first.1) (find R k others)) tied)
    | inr apart ↦ elim there [
      | inl here ↦ absurd (true≢false (sym (same_tied o k first.0 (ap (λ (e : K × X). e.0) here)) ∙ apart))
      | inr rest ↦ let found = entry_found k x others rest in (found.0, ap (λ b. cond b (Some first.1) (find R k others)) apart ∙ found.1)
    ]
  ]

  -- where no two entries bind a key to different values, the map of the entries answers them and nothing else
  pub map_of_entries : (entries : List (K × X)) → ((k : K) (x y : X) → IsEntry (k, x) entries → IsEntry (k, y) entries → x ≡ y)
      → (k : K) (x : X) → (maps.get (maps.from_entries {R = R} entries) k ≡ Some x) ↔ IsEntry (k, x) entries
  map_of_entries entries one k x = (
    λ e. find_entry k x entries (sym (maps.get-from_entries o entries k) ∙ e),
    λ there.
        let found = entry_found k x entries there in
        maps.get-from_entries o entries k ∙ found.1 ∙ ap Some (one k found.0 x (find_entry k found.0 entries found.1) there),
  )

module _ {K : Type 0} {R : K → K → Ordering} (o : IsTotalOrder R) (same : maps.IsAntisymmetric R) where
  any_entry : (k : K) (keys : List K) → list_any (eq_by_cmp R k) keys ≡ true → IsEntry k keys
  any_entry k [] e = absurd (true≢false (sym e))
  any_entry k (first ∷ others) e = elim (or_cases (eq_by_cmp R k first) (list_any (eq_by_cmp R k) others) e) [
    | inl tied ↦ inl (tied_same same k first tied)
    | inr rest ↦ inr (any_entry k others rest)
  ]

  entry_any : (k : K) (keys : List K) → IsEntry k keys → list_any (eq_by_cmp R k) keys ≡ true
  entry_any k [] there = absurd there
  entry_any k (first ∷ others) there = elim there [
    | inl here ↦ ap (λ b. b || list_any (eq_by_cmp R k) others) (same_tied o k first here)
    | inr rest ↦ ap (λ b. eq_by_cmp R k first || b) (entry_any k others rest) ∙ or_true (eq_by_cmp R k first)
  ]
    where
      or_true : (b : Bool) → (b || true) ≡ true
      or_true true = refl
      or_true false = refl

  -- the set of a list answers its items and nothing else
  pub set_of_entries : (keys : List K) (k : K) → (sets.contains (sets.from_list {R = R} keys) k ≡ true) ↔ IsEntry k keys
  set_of_entries keys k = (λ e. any_entry k keys (sym (set_facts.contains-from_list o keys k) ∙ e), λ there. set_facts.contains-from_list o keys k ∙ entry_any k keys there)
