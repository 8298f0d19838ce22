-- Tests of a list that a function makes of the numbers from one on, place by place.
use Rattle.std.proofs.Common.{◌≡◌, ℕ, zero, suc, ◌+◌, ◌-◌, ◌%◌, ◌<◌, ◌≤◌, Bool, true, ◌&&◌, eqb, ltb, ◌∷◌, map, refl, ap, subst, arith, inl, inr}
use Rattle.std.specs.List.{range_with_len, list_all}
use Rattle.std.proofs.lemmas.Bool.{and_parts, and_from, eqb-true, eq-eqb, ltb-true, lt-ltb, cases_eq}
use Rattle.ostore_page_tags.specs.Rules.{rise_by_step, begin_at, end_behind}

-- the first number, or one of the others
at_or_behind : (P : ℕ → Type 0) (a n i : ℕ) → P a → (a + 1 ≤ i → P i) → a ≤ i → P i
at_or_behind P a n i here behind low = elim (cases_eq a i) [
  | inl same ↦ subst P same here
  | inr other ↦ behind (omega arith)
]

pub map-range-same : {X : Type 0} (f g : ℕ → X) (a n : ℕ) → ((i : ℕ) → a ≤ i → i < a + n → f i ≡ g i) → map f (range_with_len a n) ≡ map g (range_with_len a n)
map-range-same f g a zero same = refl
map-range-same f g a (suc n) same =
    let here : f a ≡ g a = same a (omega arith) (omega arith) in
    let others = map-range-same f g (a + 1) n (λ i low high. same i (omega arith) (omega arith)) in
    rw (here, others) refl

pub map-map-range : {X Y : Type 0} (g : X → Y) (f : ℕ → X) (a n : ℕ) → map g (map f (range_with_len a n)) ≡ map (λ i. g (f i)) (range_with_len a n)
map-map-range g f a zero = refl
map-map-range g f a (suc n) = ap (λ l. g (f a) ∷ l) (map-map-range g f (a + 1) n)

pub list_all_at-range : {X : Type 0} (p : X → Bool) (f : ℕ → X) (a n : ℕ) → list_all p (map f (range_with_len a n)) ≡ true → (i : ℕ) → a ≤ i → i < a + n → p (f i) ≡ true
list_all_at-range p f a zero h i low high = absurd (omega arith)
list_all_at-range p f a (suc n) h i low high =
    let parts = and_parts (p (f a)) (list_all p (map f (range_with_len (a + 1) n))) h in
    at_or_behind (λ k. p (f k) ≡ true) a n i parts.0 (λ behind. list_all_at-range p f (a + 1) n parts.1 i behind (omega arith)) low

pub list_all-range : {X : Type 0} (p : X → Bool) (f : ℕ → X) (a n : ℕ) → ((i : ℕ) → a ≤ i → i < a + n → p (f i) ≡ true) → list_all p (map f (range_with_len a n)) ≡ true
list_all-range p f a zero h = refl
list_all-range p f a (suc n) h =
    and_from (p (f a)) (list_all p (map f (range_with_len (a + 1) n))) (h a (omega arith) (omega arith)) (list_all-range p f (a + 1) n (λ i low high. h i (omega arith) (omega arith)))

-- one offset and the next
abbrev pub Rises : (ℕ → ℕ) → ℕ → Type 0
Rises f i = (f i < f (i + 1)) × ((f (i + 1) - f i) % 4 ≡ 0)

pub rises_at-range : (f : ℕ → ℕ) (a n : ℕ) → rise_by_step (map f (range_with_len a n)) ≡ true → (i : ℕ) → a ≤ i → i + 1 < a + n → Rises f i
rises_at-range f a zero h i low high = absurd (omega arith)
rises_at-range f a (suc zero) h i low high = absurd (omega arith)
rises_at-range f a (suc (suc n)) h i low high =
    let outer = and_parts (ltb (f a) (f (a + 1)) && eqb ((f (a + 1) - f a) % 4) 0) (rise_by_step (map f (range_with_len (a + 1) (suc n)))) h in
    let inner = and_parts (ltb (f a) (f (a + 1))) (eqb ((f (a + 1) - f a) % 4) 0) outer.0 in
    at_or_behind (Rises f) a n i (ltb-true (f a) (f (a + 1)) inner.0, eqb-true _ 0 inner.1) (λ behind. rises_at-range f (a + 1) (suc n) outer.1 i behind (omega arith)) low

pub rises-range : (f : ℕ → ℕ) (a n : ℕ) → ((i : ℕ) → a ≤ i → i + 1 < a + n → Rises f i) → rise_by_step (map f (range_with_len a n)) ≡ true
rises-range f a zero h = refl
rises-range f a (suc zero) h = refl
rises-range f a (suc (suc n)) h =
    let here = h a (omega arith) (omega arith) in
    and_from (ltb (f a) (f (a + 1)) && eqb ((f (a + 1) - f a) % 4) 0) (rise_by_step (map f (range_with_len (a + 1) (suc n))))
    (and_from (ltb (f a) (f (a + 1))) (eqb ((f (a + 1) - f a) % 4) 0) (lt-ltb (f a) (f (a + 1)) here.0) (eq-eqb _ 0 here.1))
    (rises-range f (a + 1) (suc n) (λ i low high. h i (omega arith) (omega arith)))

pub begins_at-range : (first : ℕ) (f : ℕ → ℕ) (a n : ℕ) → begin_at first (map f (range_with_len a n)) ≡ true → 0 < n → f a ≡ first
begins_at-range first f a zero h some = absurd (omega arith)
begins_at-range first f a (suc n) h some = eqb-true (f a) first h

pub begins-range : (first : ℕ) (f : ℕ → ℕ) (a n : ℕ) → (0 < n → f a ≡ first) → begin_at first (map f (range_with_len a n)) ≡ true
begins-range first f a zero h = refl
begins-range first f a (suc n) h = eq-eqb (f a) first (h (omega arith))

pub none_behind-range : (end : ℕ) (f : ℕ → ℕ) (a n : ℕ) → end_behind end (map f (range_with_len a n)) ≡ true → n ≡ 0 → end ≡ 32
none_behind-range end f a zero h none = eqb-true end 32 h
none_behind-range end f a (suc n) h none = absurd (omega arith)

pub last_behind-range : (end : ℕ) (f : ℕ → ℕ) (a n : ℕ) → end_behind end (map f (range_with_len a n)) ≡ true → (i : ℕ) → a ≤ i → i + 1 ≡ a + n → f i < end
last_behind-range end f a zero h i low last = absurd (omega arith)
last_behind-range end f a (suc zero) h i low last =
    let same : a ≡ i = omega arith in
    subst (λ k. f k < end) same (ltb-true (f a) end h)
last_behind-range end f a (suc (suc n)) h i low last = last_behind-range end f (a + 1) (suc n) h i (omega arith) (omega arith)

pub ends_behind-range : (end : ℕ) (f : ℕ → ℕ) (a n : ℕ) → (n ≡ 0 → end ≡ 32) → ((i : ℕ) → a ≤ i → i + 1 ≡ a + n → f i < end) → end_behind end (map f (range_with_len a n)) ≡ true
ends_behind-range end f a zero none last = eq-eqb end 32 (none refl)
ends_behind-range end f a (suc zero) none last = lt-ltb (f a) end (last a (omega arith) (omega arith))
ends_behind-range end f a (suc (suc n)) none last = ends_behind-range end f (a + 1) (suc n) (λ e. absurd (omega arith)) (λ i low at. last i (omega arith) (omega arith))
