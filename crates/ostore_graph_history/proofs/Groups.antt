-- A list by groups of its elements' keys: those of one key after the other, each group in the list's order.
use Rattle.std.proofs.Common.{◌≡◌, ◌≢◌, ℕ, zero, suc, ◌+◌, ◌<◌, ◌≤◌, Bool, List, [], ◌++◌, get_or, refl, sym, ap, subst, ◌∙◌, arith}
use Rattle.std.proofs.Common.{⊎_elim}
use Rattle.std.specs.Prelude.{All, AllPairs, IsPermutation, filter, not, ◌&&◌, nat_eq, nat_le}
use Rattle.std.proofs.lemmas.Bool.{cases_eq, cases_lt, eq-eqb, ne_eqb, eqb-true, le-leb, lt-leb}
use Rattle.std.proofs.lemmas.List.{append-nil, append_assoc}
use Rattle.std.proofs.lemmas.List.Elements.{All-nil, All-append, All-filter, filter-append, filter_passes}
use Rattle.std.proofs.lemmas.List.Kept.{AllPairs-filter}
use Rattle.std.proofs.lemmas.List.Sorted.{IsPermutation-refl, IsPermutation-trans, IsPermutation-append_right, IsPermutation-filter_both}
use Rattle.ostore_graph_history.proofs.ListLaws.{filter_both, filter_all, filter_none, filter_swap, pairs-nil, pairs-append}

-- ---- tests of a key

at_and_from : (n c : ℕ) → nat_eq n c ≡ (nat_eq n c && nat_le c n)
at_and_from n c =
    ⊎_elim
    (λ (same : n ≡ c). eq-eqb n c same ∙ sym (λ i. eq-eqb n c same i && le-leb c n (omega (arith, same)) i))
    (λ (apart : n ≢ c). ne_eqb n c apart ∙ sym (λ i. ne_eqb n c apart i && nat_le c n))
    (cases_eq n c)

behind : (n c : ℕ) → nat_le (c + 1) n ≡ (not (nat_eq n c) && nat_le c n)
behind n c =
    ⊎_elim
    (λ (same : n ≡ c). lt-leb (c + 1) n (omega (arith, same)) ∙ sym (λ i. not (eq-eqb n c same i) && nat_le c n))
    (λ (apart : n ≢ c). ⊎_elim
    (λ (below : n < c). lt-leb (c + 1) n (omega (arith, below)) ∙ sym (λ i. not (ne_eqb n c apart i) && lt-leb c n below i))
    (λ (above : c ≤ n). le-leb (c + 1) n (higher apart above) ∙ sym (λ i. not (ne_eqb n c apart i) && le-leb c n above i))
    (cases_lt n c))
    (cases_eq n c)
  where
    higher : n ≢ c → c ≤ n → c + 1 ≤ n
    higher apart above = ⊎_elim (λ (more : c < n). omega (arith, more)) (λ (less : n ≤ c). absurd (apart (omega (arith, less, above)))) (cases_lt c n)

module _ {X : Type 0} (key : X → ℕ) where
  abbrev pub is_at : ℕ → X → Bool
  is_at c x = nat_eq (key x) c

  abbrev is_from : ℕ → X → Bool
  is_from c x = nat_le c (key x)

  -- the groups of so many keys, of which the first is c
  abbrev pub groups : ℕ → ℕ → List X → List X
  groups c zero xs = []
  groups c (suc k) xs = filter (is_at c) xs ++ groups (c + 1) k xs

  one_group : (c : ℕ) (xs : List X) → IsPermutation (filter (is_from c) xs) (filter (is_at c) xs ++ filter (is_from (c + 1)) xs)
  one_group c xs =
      subst (λ (ys : List X). IsPermutation (filter (is_from c) xs) ys)
      (λ i. filter_both (is_at c) (is_from c) (is_at c) (λ x. at_and_from (key x) c) xs i
      ++ filter_both (λ x. not (is_at c x)) (is_from c) (is_from (c + 1)) (λ x. behind (key x) c) xs i)
      (IsPermutation-filter_both (is_at c) (λ x. not (is_at c x)) (λ x. refl) (filter (is_from c) xs))

  grouped_from : (c k : ℕ) (xs : List X) → IsPermutation (filter (is_from c) xs) (groups c k xs ++ filter (is_from (c + k)) xs)
  grouped_from c zero xs =
      let here : c ≡ c + 0 = omega arith in
      subst (λ (n : ℕ). IsPermutation (filter (is_from c) xs) (filter (is_from n) xs)) here (IsPermutation-refl _)
  grouped_from c (suc k) xs =
      let next : c + 1 + k ≡ c + suc k = omega arith in
      subst (λ (ys : List X). IsPermutation (filter (is_from c) xs) ys)
      (sym (append_assoc (filter (is_at c) xs) (groups (c + 1) k xs) (filter (is_from (c + 1 + k)) xs))
      ∙ ap (λ (n : ℕ). (filter (is_at c) xs ++ groups (c + 1) k xs) ++ filter (is_from n) xs) next)
      (IsPermutation-trans _ _ _ (one_group c xs) (IsPermutation-append_right (filter (is_at c) xs) _ _ (grouped_from (c + 1) k xs)))

  -- where all keys are below k, the groups are the list in another order
  pub grouped : (k : ℕ) (xs : List X) → All (λ x. key x < k) xs → IsPermutation xs (groups 0 k xs)
  grouped k xs below =
      let last : 0 + k ≡ k = omega arith in
      let all = filter_all (is_from 0) xs (λ i d lt. le-leb 0 (key (get_or xs i d)) (omega arith)) in
      let none = filter_none (is_from (0 + k)) xs (λ i d lt. lt-leb (0 + k) (key (get_or xs i d)) (omega (arith, below i d lt))) in
      subst (λ (ys : List X × List X). IsPermutation ys.0 ys.1)
      (λ i. (all i, (ap (λ (zs : List X). groups 0 k xs ++ zs) none ∙ append-nil (groups 0 k xs)) i))
      (grouped_from 0 k xs)

  pub groups-all : (P : X → Type 0) (c k : ℕ) (xs : List X) → All P xs → All P (groups c k xs)
  groups-all P c zero xs all = All-nil P
  groups-all P c (suc k) xs all = All-append P (filter (is_at c) xs) (groups (c + 1) k xs) (All-filter (is_at c) P xs all) (groups-all P (c + 1) k xs all)

  pub at_key : (c : ℕ) (xs : List X) → All (λ x. key x ≡ c) (filter (is_at c) xs)
  at_key c xs i d lt = eqb-true (key (get_or (filter (is_at c) xs) i d)) c (filter_passes (is_at c) xs i d lt)

  groups-from : (c k : ℕ) (xs : List X) → All (λ x. c ≤ key x) (groups c k xs)
  groups-from c zero xs = All-nil (λ x. c ≤ key x)
  groups-from c (suc k) xs =
      All-append (λ x. c ≤ key x) (filter (is_at c) xs) (groups (c + 1) k xs)
      (λ i d lt. omega (arith, at_key c xs i d lt))
      (λ i d lt. omega (arith, groups-from (c + 1) k xs i d lt))

  -- what holds of all pairs of the list, and of each two of which the first has the lower key, holds of all pairs
  pub groups-pairs : (R : X → X → Type 0) → ((x y : X) → key x < key y → R x y) → (c k : ℕ) (xs : List X) → AllPairs R xs → AllPairs R (groups c k xs)
  groups-pairs R lower c zero xs pairs = pairs-nil R
  groups-pairs R lower c (suc k) xs pairs =
      pairs-append R (filter (is_at c) xs) (groups (c + 1) k xs)
      (AllPairs-filter R (is_at c) xs pairs)
      (groups-pairs R lower (c + 1) k xs pairs)
      (λ i d lt j e within. lower _ _ (omega (arith, at_key c xs i d lt, groups-from (c + 1) k xs j e within)))

  pub groups-filter : (p : X → Bool) (c k : ℕ) (xs : List X) → filter p (groups c k xs) ≡ groups c k (filter p xs)
  groups-filter p c zero xs = refl
  groups-filter p c (suc k) xs =
      filter-append p (filter (is_at c) xs) (groups (c + 1) k xs)
      ∙ (λ i. filter_swap p (is_at c) xs i ++ groups-filter p (c + 1) k xs i)
