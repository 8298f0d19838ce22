-- Filters of filters, and pairs of joined and mapped lists.
use Rattle.std.proofs.Common.{◌≡◌, suc, Bool, true, false, cond, List, [], ◌∷◌, ◌++◌, map, refl, sym, ap, ◌∙◌, arith}
use Rattle.std.specs.Prelude.{All, AllPairs, filter, ◌&&◌}
use Rattle.std.proofs.lemmas.List.Elements.{All-head, All-tail, All-cons, All-append, All-map}
use Rattle.std.proofs.lemmas.List.Kept.{AllPairs-cons}

-- ---- filters

pub and-comm : (a b : Bool) → (a && b) ≡ (b && a)
and-comm true true = refl
and-comm true false = refl
and-comm false true = refl
and-comm false false = refl

twice : {X : Type 0} (a b : Bool) (x : X) (xs : List X) → cond b (cond a (x ∷ xs) xs) xs ≡ cond (a && b) (x ∷ xs) xs
twice true true x xs = refl
twice true false x xs = refl
twice false true x xs = refl
twice false false x xs = refl

module _ {X : Type 0} (p : X → Bool) where
  filter_of : (b : Bool) (xs ys : List X) → filter p (cond b xs ys) ≡ cond b (filter p xs) (filter p ys)
  filter_of true xs ys = refl
  filter_of false xs ys = refl

  -- what passes two tests
  pub filter_both : (q r : X → Bool) → ((x : X) → r x ≡ (p x && q x)) → (xs : List X) → filter p (filter q xs) ≡ filter r xs
  filter_both q r same [] = refl
  filter_both q r same (x ∷ xs) =
      filter_of (q x) (x ∷ filter q xs) (filter q xs)
      ∙ twice (p x) (q x) x (filter p (filter q xs))
      ∙ (λ i. cond (sym (same x) i) (x ∷ filter_both q r same xs i) (filter_both q r same xs i))

  pub filter_all : (xs : List X) → All (λ x. p x ≡ true) xs → filter p xs ≡ xs
  filter_all [] all = refl
  filter_all (x ∷ xs) all = λ i. cond (All-head (λ y. p y ≡ true) x xs all i) (x ∷ filter_all xs (All-tail (λ y. p y ≡ true) x xs all) i) (filter_all xs (All-tail (λ y. p y ≡ true) x xs all) i)

  pub filter_none : (xs : List X) → All (λ x. p x ≡ false) xs → filter p xs ≡ []
  filter_none [] all = refl
  filter_none (x ∷ xs) all = ap (λ (b : Bool). cond b (x ∷ filter p xs) (filter p xs)) (All-head (λ y. p y ≡ false) x xs all) ∙ filter_none xs (All-tail (λ y. p y ≡ false) x xs all)

pub filter_swap : {X : Type 0} (p q : X → Bool) (xs : List X) → filter p (filter q xs) ≡ filter q (filter p xs)
filter_swap p q xs = filter_both p q (λ x. p x && q x) (λ x. refl) xs ∙ sym (filter_both q p (λ x. p x && q x) (λ x. and-comm (p x) (q x)) xs)

module _ {X Y : Type 0} (p : Y → Bool) (f : X → Y) where
  map_of : (b : Bool) (x : X) (xs : List X) → cond b (f x ∷ map f xs) (map f xs) ≡ map f (cond b (x ∷ xs) xs)
  map_of true x xs = refl
  map_of false x xs = refl

  pub filter_mapped : (xs : List X) → filter p (map f xs) ≡ map f (filter (λ x. p (f x)) xs)
  filter_mapped [] = refl
  filter_mapped (x ∷ xs) =
      ap (λ (ys : List Y). cond (p (f x)) (f x ∷ ys) ys) (filter_mapped xs) ∙ map_of (p (f x)) x (filter (λ y. p (f y)) xs)

pub All-unmap : {X Y : Type 0} (P : Y → Type 0) (f : X → Y) (xs : List X) → All P (map f xs) → All (λ x. P (f x)) xs
All-unmap P f [] all = λ i d lt. absurd (omega (arith, lt))
All-unmap P f (x ∷ xs) all = All-cons (λ y. P (f y)) x xs (All-head P (f x) (map f xs) all) (All-unmap P f xs (All-tail P (f x) (map f xs) all))

-- ---- pairs

pub pairs-nil : {X : Type 0} (R : X → X → Type 0) → AllPairs R []
pairs-nil R i j d lt within = absurd (omega (arith, within))

pub pairs-head : {X : Type 0} (R : X → X → Type 0) (x : X) (xs : List X) → AllPairs R (x ∷ xs) → All (R x) xs
pairs-head R x xs pairs j d within = pairs 0 (suc j) d (omega arith) (omega (arith, within))

pub pairs-tail : {X : Type 0} (R : X → X → Type 0) (x : X) (xs : List X) → AllPairs R (x ∷ xs) → AllPairs R xs
pairs-tail R x xs pairs i j d lt within = pairs (suc i) (suc j) d (omega (arith, lt)) (omega (arith, within))

pub pairs-append : {X : Type 0} (R : X → X → Type 0) (xs ys : List X) → AllPairs R xs → AllPairs R ys → All (λ x. All (R x) ys) xs → AllPairs R (xs ++ ys)
pairs-append R [] ys first second cross = second
pairs-append R (x ∷ xs) ys first second cross =
    AllPairs-cons R x (xs ++ ys)
    (All-append (R x) xs ys (pairs-head R x xs first) (All-head (λ y. All (R y) ys) x xs cross))
    (pairs-append R xs ys (pairs-tail R x xs first) second (All-tail (λ y. All (R y) ys) x xs cross))

pub pairs-map : {X Y : Type 0} (R : Y → Y → Type 0) (f : X → Y) (xs : List X) → AllPairs (λ x y. R (f x) (f y)) xs → AllPairs R (map f xs)
pairs-map R f [] pairs = pairs-nil R
pairs-map R f (x ∷ xs) pairs =
    AllPairs-cons R (f x) (map f xs)
    (All-map (R (f x)) f xs (pairs-head (λ y z. R (f y) (f z)) x xs pairs))
    (pairs-map R f xs (pairs-tail (λ y z. R (f y) (f z)) x xs pairs))

pub pairs-unmap : {X Y : Type 0} (R : Y → Y → Type 0) (f : X → Y) (xs : List X) → AllPairs R (map f xs) → AllPairs (λ x y. R (f x) (f y)) xs
pairs-unmap R f [] pairs = pairs-nil (λ x y. R (f x) (f y))
pairs-unmap R f (x ∷ xs) pairs =
    AllPairs-cons (λ y z. R (f y) (f z)) x xs
    (All-unmap (R (f x)) f xs (pairs-head R (f x) (map f xs) pairs))
    (pairs-unmap R f xs (pairs-tail R (f x) (map f xs) pairs))
