-- Finite predicates: those of the entries of a list.
use Rattle.std.proofs.Common.{◌≡◌, ◌↔◌, ◌⊎◌, ℕ, ◌<◌, zero, suc, List, [], ◌∷◌, ◌++◌, length, get_or, refl, sym, ap, subst, ◌∙◌, arith, Option, Some, None, inl, inr}
use Rattle.std.specs.List.{Contains}
use Rattle.std.proofs.lemmas.Bool.{cases_eq}
use Rattle.std.proofs.lemmas.Option.{same_Some, none-some}
use Rattle.ostore_graph_model.proofs.ExistsLaws.{IsEntry}

abbrev pub IsFinite : {X : Type 0} → (X → Type 0) → Type 0
IsFinite {X} P = (list : List X) × ((x : X) → IsEntry x list ↔ P x)

pub finite_none : {X : Type 0} (P : X → Type 0) → ((x : X) → P x → ⊥) → IsFinite P
finite_none P none = ([], λ x. (λ h. absurd h, λ h. none x h))

pub finite_one : {X : Type 0} (P : X → Type 0) (a : X) → P a → ((x : X) → P x → x ≡ a) → IsFinite P
finite_one P a is only = (a ∷ [], λ x. (λ h. elim h [ inl same ↦ subst P (sym same) is | inr no_more ↦ absurd no_more ], λ h. inl (only x h)))

pub finite_iff : {X : Type 0} (P Q : X → Type 0) → ((x : X) → P x ↔ Q x) → IsFinite P → IsFinite Q
finite_iff P Q same finite = (finite.0, λ x. (λ h. (same x).0 ((finite.1 x).0 h), λ h. (finite.1 x).1 ((same x).1 h)))

entry_append : {X : Type 0} (x : X) (xs ys : List X) → IsEntry x (xs ++ ys) ↔ (IsEntry x xs ⊎ IsEntry x ys)
entry_append x [] ys = (λ h. inr h, λ h. elim h [ inl none ↦ absurd none | inr there ↦ there ])
entry_append x (first ∷ others) ys =
    let rest = entry_append x others ys in (
      λ h. elim h [ inl here ↦ inl (inl here) | inr there ↦ elim (rest.0 there) [ inl left ↦ inl (inr left) | inr right ↦ inr right ] ],
      λ h. elim h [ inl left ↦ elim left [ inl here ↦ inl here | inr there ↦ inr (rest.1 (inl there)) ] | inr right ↦ inr (rest.1 (inr right)) ],
    )

pub finite_or : {X : Type 0} (P Q : X → Type 0) → IsFinite P → IsFinite Q → IsFinite (λ x. P x ⊎ Q x)
finite_or P Q one two = (
  one.0 ++ two.0,
  λ x.
      let both = entry_append x one.0 two.0 in (
        λ h. elim (both.0 h) [ inl left ↦ inl ((one.1 x).0 left) | inr right ↦ inr ((two.1 x).0 right) ],
        λ h. both.1 (elim h [ inl left ↦ inl ((one.1 x).1 left) | inr right ↦ inr ((two.1 x).1 right) ]),
      ),
)

pub finite_below : {X : Type 0} (P : ℕ → X → Type 0) (n : ℕ) → ((k : ℕ) → IsFinite (P k)) → IsFinite (λ x. (k : ℕ) × (k < n) × P k x)
finite_below P zero finite = finite_none (λ x. (k : ℕ) × (k < 0) × P k x) (λ x h. let low = h.1 in omega arith)
finite_below P (suc n) finite =
    finite_iff (λ x. ((k : ℕ) × (k < n) × P k x) ⊎ P n x) (λ x. (k : ℕ) × (k < suc n) × P k x)
    (λ x. (
      λ h. elim h [ inl below ↦ (below.0, let low = below.1 in omega arith, below.2) | inr here ↦ (n, omega arith, here) ],
      λ h. elim (cases_eq h.0 n) [ inl same ↦ inr (subst (λ k. P k x) same h.2) | inr apart ↦ inl (h.0, let low = h.1 in omega arith, h.2) ],
    ))
    (finite_or (λ x. (k : ℕ) × (k < n) × P k x) (P n) (finite_below P n finite) (finite n))

-- what a partial function gives of the entries
abbrev add : {Y : Type 0} → Option Y → List Y → List Y
add None ys = ys
add (Some y) ys = y ∷ ys

abbrev images : {X Y : Type 0} → (X → Option Y) → List X → List Y
images f [] = []
images f (x ∷ xs) = add (f x) (images f xs)

entry_add : {Y : Type 0} (y : Y) (found : Option Y) (ys : List Y) → IsEntry y (add found ys) ↔ ((found ≡ Some y) ⊎ IsEntry y ys)
entry_add y None ys = (λ h. inr h, λ h. elim h [ inl none ↦ absurd (none-some y none) | inr there ↦ there ])
entry_add y (Some z) ys = (λ h. elim h [ inl here ↦ inl (ap Some (sym here)) | inr there ↦ inr there ], λ h. elim h [ inl same ↦ inl (sym (same_Some z y same)) | inr there ↦ inr there ])

entry_images : {X Y : Type 0} (f : X → Option Y) (xs : List X) (y : Y) → IsEntry y (images f xs) ↔ ((x : X) × IsEntry x xs × (f x ≡ Some y))
entry_images f [] y = (λ h. absurd h, λ h. absurd h.1)
entry_images f (x ∷ xs) y =
    let rest = entry_images f xs y in
    let here = entry_add y (f x) (images f xs) in (
      λ h. elim (here.0 h) [ inl this ↦ (x, inl refl, this) | inr there ↦ let found = rest.0 there in (found.0, inr found.1, found.2) ],
      λ h. here.1 (elim h.1 [ inl same ↦ inl (ap f (sym same) ∙ h.2) | inr there ↦ inr (rest.1 (h.0, there, h.2)) ]),
    )

pub finite_image : {X Y : Type 0} (f : X → Option Y) (P : X → Type 0) → IsFinite P → IsFinite (λ y. (x : X) × P x × (f x ≡ Some y))
finite_image f P finite = (
  images f finite.0,
  λ y.
      let found = entry_images f finite.0 y in
      (λ h. let x = found.0 h in (x.0, (finite.1 x.0).0 x.1, x.2), λ h. found.1 (h.0, (finite.1 h.0).1 h.1, h.2)),
)

-- entries and what a list contains
entry_at : {X : Type 0} (x : X) (xs : List X) (k : ℕ) → k < length xs → get_or xs k x ≡ x → IsEntry x xs
entry_at x [] k below is = absurd (omega arith)
entry_at x (first ∷ others) zero below is = inl (sym is)
entry_at x (first ∷ others) (suc k) below is = inr (entry_at x others k (omega arith) is)

contains_entry : {X : Type 0} (x : X) (xs : List X) → IsEntry x xs → Contains xs x
contains_entry x [] h = absurd h
contains_entry x (first ∷ others) h = elim h [
  | inl here ↦ (0, omega arith, sym here)
  | inr there ↦ let found = contains_entry x others there in (suc found.0, let low = found.1 in omega arith, found.2)
]

pub entry_contains : {X : Type 0} (x : X) (xs : List X) → IsEntry x xs ↔ Contains xs x
entry_contains x xs = (contains_entry x xs, λ h. entry_at x xs h.0 h.1 h.2)

pub finite_list : {X : Type 0} (xs : List X) → IsFinite (λ x. Contains xs x)
finite_list xs = (xs, λ x. entry_contains x xs)
