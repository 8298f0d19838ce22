-- Lists whose items have names: what a name finds, and that no name stands twice.
use Rattle.std.proofs.Common.{◌≡◌, ◌≢◌, ℕ, zero, suc, ◌+◌, ◌<◌, ◌≤◌, Bool, true, false, List, [], ◌∷◌, ◌++◌, length, Option, Some, None, refl, sym, ap, subst, ◌∙◌, append_assoc, arith, length-append, inl, inr}
use Rattle.std.specs.Prelude.{map}
use Rattle.std.specs.List.{slice_get, find, flat_map, position_or_len, AllByRecursion}
use Rattle.std.specs.Option.{option_map}
use Rattle.std.specs.Str.{bytes_eq}
use Rattle.std.proofs.lemmas.Bool.{cases_Bool, cond-true, cond-false, false_from_ne_true, both_ways, true≢false}
use Rattle.std.proofs.lemmas.List.{append-nil}
use Rattle.std.proofs.lemmas.List.Folds.{find_at}
use Rattle.std.proofs.lemmas.Option.{same_Some, none-some, slice_get-map}
use Rattle.std.proofs.lemmas.Slice.Eq.{bytes_eq-Decides}
use Rattle.ostore_schema_layout.specs.Cells.{ArePairwise}
use Rattle.ostore_schema_layout.specs.Faults.{is_there}

-- ---- names

pub bytes_same : (a b : List ℕ) → bytes_eq a b ≡ true → a ≡ b
bytes_same a b h = (bytes_eq-Decides a b).0 h

pub same_bytes : (a b : List ℕ) → a ≡ b → bytes_eq a b ≡ true
same_bytes a b h = (bytes_eq-Decides a b).1 h

pub other_bytes : (a b : List ℕ) → a ≢ b → bytes_eq a b ≡ false
other_bytes a b h = false_from_ne_true (bytes_eq a b) (λ e. h (bytes_same a b e))

-- ---- items by their places

pub All_at : {X : Type 0} (P : X → Type 0) (xs : List X) (k : ℕ) (x : X) → AllByRecursion P xs → slice_get xs k ≡ Some x → P x
All_at P [] k x h e = absurd (none-some x e)
All_at P (y ∷ ys) zero x h e = subst P (same_Some y x e) h.0
All_at P (y ∷ ys) (suc k) x h e = All_at P ys k x h.1 e

pub All_by_place : {X : Type 0} (P : X → Type 0) (xs : List X) → ((k : ℕ) (x : X) → slice_get xs k ≡ Some x → P x) → AllByRecursion P xs
All_by_place P [] h = tt
All_by_place P (x ∷ xs) h = (h zero x refl, All_by_place P xs (λ k y e. h (suc k) y e))

pub All_map : {X Y : Type 0} (P : Y → Type 0) (f : X → Y) (xs : List X) → AllByRecursion (λ x. P (f x)) xs → AllByRecursion P (map f xs)
All_map P f [] h = tt
All_map P f (x ∷ xs) h = (h.0, All_map P f xs h.1)

pub map_same : {X : Type 0} (f : X → X) (xs : List X) → AllByRecursion (λ x. f x ≡ x) xs → map f xs ≡ xs
map_same f [] h = refl
map_same f (x ∷ xs) h = let e : f x ≡ x = h.0 in let r : map f xs ≡ xs = map_same f xs h.1 in cc

pub map_map : {X Y Z : Type 0} (g : Y → Z) (f : X → Y) (xs : List X) → map g (map f xs) ≡ map (λ x. g (f x)) xs
map_map g f [] = refl
map_map g f (x ∷ xs) = ap (λ (r : List _). g (f x) ∷ r) (map_map g f xs)

pub map_alike : {X Y : Type 0} (f g : X → Y) (xs : List X) → AllByRecursion (λ x. f x ≡ g x) xs → map f xs ≡ map g xs
map_alike f g [] h = refl
map_alike f g (x ∷ xs) h = let e : f x ≡ g x = h.0 in let r : map f xs ≡ map g xs = map_alike f g xs h.1 in cc

pub All_each : {X : Type 0} (P : X → Type 0) (xs : List X) → ((x : X) → P x) → AllByRecursion P xs
All_each P [] h = tt
All_each P (x ∷ xs) h = (h x, All_each P xs h)

pub All_then : {X : Type 0} (P Q : X → Type 0) (xs : List X) → ((x : X) → P x → Q x) → AllByRecursion P xs → AllByRecursion Q xs
All_then P Q [] f h = tt
All_then P Q (x ∷ xs) f h = (f x h.0, All_then P Q xs f h.1)

pub map_through : {X Y Z : Type 0} (g : Y → Z) (f : X → Y) (h : X → Z) (xs : List X) → AllByRecursion (λ x. g (f x) ≡ h x) xs → map g (map f xs) ≡ map h xs
map_through g f h xs e = map_map g f xs ∙ map_alike (λ x. g (f x)) h xs e

pub flat_map_through : {X Y A : Type 0} (g : Y → List A) (f : X → Y) (h : X → List A) (xs : List X) → AllByRecursion (λ x. g (f x) ≡ h x) xs → flat_map g (map f xs) ≡ flat_map h xs
flat_map_through g f h [] e = refl
flat_map_through g f h (x ∷ xs) e = let head : g (f x) ≡ h x = e.0 in λ i. head i ++ flat_map_through g f h xs e.1 i

pub mapped_at : {X Y : Type 0} (f : X → Y) (xs : List X) (k : ℕ) (x : X) → slice_get xs k ≡ Some x → slice_get (map f xs) k ≡ Some (f x)
mapped_at f xs k x e = slice_get-map f xs k ∙ ap (option_map f) e

unmapped : {X Y : Type 0} (f : X → Y) (o : Option X) (y : Y) → option_map f o ≡ Some y → (x : X) × (o ≡ Some x) × (f x ≡ y)
unmapped f None y e = absurd (none-some y e)
unmapped f (Some x) y e = (x, refl, same_Some (f x) y e)

pub unmapped_at : {X Y : Type 0} (f : X → Y) (xs : List X) (k : ℕ) (y : Y) → slice_get (map f xs) k ≡ Some y → (x : X) × (slice_get xs k ≡ Some x) × (f x ≡ y)
unmapped_at f xs k y e = unmapped f (slice_get xs k) y (sym (slice_get-map f xs k) ∙ e)

pub item_at : {X : Type 0} (xs : List X) (k : ℕ) → k < length xs → (x : X) × (slice_get xs k ≡ Some x)
item_at [] k h = absurd (omega arith)
item_at (x ∷ xs) zero h = (x, refl)
item_at (x ∷ xs) (suc k) h = item_at xs k (omega arith)

-- ---- what a test finds

pub find_passes : {X : Type 0} (p : X → Bool) (xs : List X) (x : X) → find p xs ≡ Some x → p x ≡ true
find_passes p [] x e = absurd (none-some x e)
find_passes p (y ∷ ys) x e =
    elim (cases_Bool (p y)) [
      | inl hit ↦ subst (λ z. p z ≡ true) (same_Some y x (sym (cond-true (p y) (Some y) (find p ys) hit) ∙ e)) hit
      | inr miss ↦ find_passes p ys x (sym (cond-false (p y) (Some y) (find p ys) miss) ∙ e)
    ]

pub find_mapped : {X Y : Type 0} (p : Y → Bool) (f : X → Y) (xs : List X) → find p (map f xs) ≡ option_map f (find (λ x. p (f x)) xs)
find_mapped p f [] = refl
find_mapped p f (x ∷ xs) =
    elim (cases_Bool (p (f x))) [
      | inl hit ↦ rw hit refl
      | inr miss ↦ rw miss (find_mapped p f xs)
    ]

pub place_mapped : {X Y : Type 0} (p : Y → Bool) (f : X → Y) (xs : List X) → position_or_len p (map f xs) ≡ position_or_len (λ x. p (f x)) xs
place_mapped p f [] = refl
place_mapped p f (x ∷ xs) =
    elim (cases_Bool (p (f x))) [
      | inl hit ↦ rw hit refl
      | inr miss ↦ rw (miss, place_mapped p f xs) refl
    ]

pub there_mapped : {X Y : Type 0} (f : X → Y) (o : Option X) → is_there (option_map f o) ≡ is_there o
there_mapped f None = refl
there_mapped f (Some x) = refl

pub there_some : {X : Type 0} (o : Option X) → is_there o ≡ true → (x : X) × (o ≡ Some x)
there_some None h = absurd (true≢false (sym h))
there_some (Some x) h = (x, refl)

pub some_there : {X : Type 0} (o : Option X) (x : X) → o ≡ Some x → is_there o ≡ true
some_there o x e = ap is_there e

-- ---- distinct names

-- two items have two names
abbrev pub Differ : {X : Type 0} → (X → List ℕ) → X → X → Type 0
Differ key a b = key a ≢ key b

-- an item is found by its name at its place
pub place_at : {X : Type 0} (key : X → List ℕ) (xs : List X) (k : ℕ) (x : X) → ArePairwise (Differ key) xs → slice_get xs k ≡ Some x → position_or_len (λ y. bytes_eq (key y) (key x)) xs ≡ k
place_at key [] k x d e = absurd (none-some x e)
place_at key (y ∷ ys) zero x d e =
    let hit : bytes_eq (key y) (key x) ≡ true = same_bytes (key y) (key x) (ap key (same_Some y x e)) in
    rw hit refl
place_at key (y ∷ ys) (suc k) x d e =
    let miss : bytes_eq (key y) (key x) ≡ false = other_bytes (key y) (key x) (All_at (λ z. Differ key y z) ys k x d.0 e) in
    rw (miss, place_at key ys k x d.1 e) (omega arith)

pub found_at : {X : Type 0} (key : X → List ℕ) (xs : List X) (k : ℕ) (x : X) → ArePairwise (Differ key) xs → slice_get xs k ≡ Some x → find (λ y. bytes_eq (key y) (key x)) xs ≡ Some x
found_at key xs k x d e = find_at (λ y. bytes_eq (key y) (key x)) xs ∙ ap (slice_get xs) (place_at key xs k x d e) ∙ e

-- what a name finds has the name, and stands at the place
pub found_place : {X : Type 0} (p : X → Bool) (xs : List X) (x : X) → find p xs ≡ Some x → slice_get xs (position_or_len p xs) ≡ Some x
found_place p xs x e = sym (find_at p xs) ∙ e

pub pairwise_map : {X Y : Type 0} (key : Y → List ℕ) (f : X → Y) (xs : List X) → ArePairwise (Differ (λ x. key (f x))) xs → ArePairwise (Differ key) (map f xs)
pairwise_map key f [] d = tt
pairwise_map key f (x ∷ xs) d = (All_map (λ z. Differ key (f x) z) f xs d.0, pairwise_map key f xs d.1)

-- ---- items one after the other, each behind earlier ones

none_named : {X : Type 0} (key : X → List ℕ) (name : List ℕ) (xs : List X) → is_there (find (λ y. bytes_eq (key y) name) xs) ≡ false → AllByRecursion (λ y. key y ≢ name) xs
none_named key name [] h = tt
none_named key name (y ∷ ys) h =
    elim (cases_Bool (bytes_eq (key y) name)) [
      | inl hit ↦ absurd (true≢false (rw hit at h))
      | inr miss ↦ (λ same. both_ways (bytes_eq (key y) name) miss (same_bytes (key y) name same), none_named key name ys (rw miss at h))
    ]

not_named : {X : Type 0} (key : X → List ℕ) (name : List ℕ) (xs : List X) → AllByRecursion (λ y. key y ≢ name) xs → is_there (find (λ y. bytes_eq (key y) name) xs) ≡ false
not_named key name [] h = refl
not_named key name (y ∷ ys) h = rw (other_bytes (key y) name h.0) (not_named key name ys h.1)

-- no item is named as one before it, fewer than so many are before it, and each is so
abbrev pub Told : {X : Type 0} → (X → List ℕ) → ℕ → (X → Type 0) → List X → List X → Type 0
Told key limit P earlier [] = Unit {0}
Told key limit P earlier (x ∷ xs) =
    (is_there (find (λ y. bytes_eq (key y) (key x)) earlier) ≡ false) × (length earlier < limit) × P x × Told key limit P (earlier ++ x ∷ []) xs

All_push : {X : Type 0} (P : X → Type 0) (xs : List X) (x : X) → AllByRecursion P xs → P x → AllByRecursion P (xs ++ x ∷ [])
All_push P [] x h last = (last, tt)
All_push P (y ∷ ys) x h last = (h.0, All_push P ys x h.1 last)

pairwise_push : {X : Type 0} (key : X → List ℕ) (xs : List X) (x : X) → ArePairwise (Differ key) xs → AllByRecursion (λ y. key y ≢ key x) xs → ArePairwise (Differ key) (xs ++ x ∷ [])
pairwise_push key [] x d h = (tt, tt)
pairwise_push key (y ∷ ys) x d h = (All_push (λ z. Differ key y z) ys x d.0 h.0, pairwise_push key ys x d.1 h.1)

told_behind : {X : Type 0} (key : X → List ℕ) (limit : ℕ) (P : X → Type 0) (earlier xs : List X) → ArePairwise (Differ key) earlier → Told key limit P earlier xs → ArePairwise (Differ key) (earlier ++ xs)
told_behind key limit P earlier [] d h = subst (λ l. ArePairwise (Differ key) l) (sym (append-nil earlier)) d
told_behind key limit P earlier (x ∷ xs) d h =
    subst (λ l. ArePairwise (Differ key) l) (append_assoc earlier (x ∷ []) xs)
    (told_behind key limit P (earlier ++ x ∷ []) xs (pairwise_push key earlier x d (none_named key (key x) earlier h.0)) h.3)

pub told_names : {X : Type 0} (key : X → List ℕ) (limit : ℕ) (P : X → Type 0) (xs : List X) → Told key limit P [] xs → ArePairwise (Differ key) xs
told_names key limit P xs h = told_behind key limit P [] xs tt h

told_count : {X : Type 0} (key : X → List ℕ) (limit : ℕ) (P : X → Type 0) (earlier xs : List X) → length earlier ≤ limit → Told key limit P earlier xs → length earlier + length xs ≤ limit
told_count key limit P earlier [] low h = omega arith
told_count key limit P earlier (x ∷ xs) low h =
    let more = length-append earlier (x ∷ []) in
    let rest : length (earlier ++ x ∷ []) + length xs ≤ limit = told_count key limit P (earlier ++ x ∷ []) xs (omega (arith, more, h.1)) h.3 in
    omega (arith, more, rest)

pub told_few : {X : Type 0} (key : X → List ℕ) (limit : ℕ) (P : X → Type 0) (xs : List X) → Told key limit P [] xs → length xs ≤ limit
told_few key limit P xs h = let r = told_count key limit P [] xs (omega arith) h in omega (arith, r)

told_all : {X : Type 0} (key : X → List ℕ) (limit : ℕ) (P : X → Type 0) (earlier xs : List X) → Told key limit P earlier xs → AllByRecursion P xs
told_all key limit P earlier [] h = tt
told_all key limit P earlier (x ∷ xs) h = (h.2, told_all key limit P (earlier ++ x ∷ []) xs h.3)

pub told_each : {X : Type 0} (key : X → List ℕ) (limit : ℕ) (P : X → Type 0) (xs : List X) → Told key limit P [] xs → AllByRecursion P xs
told_each key limit P xs h = told_all key limit P [] xs h

-- and back

differ_before : {X : Type 0} (key : X → List ℕ) (earlier : List X) (x : X) (xs : List X) → ArePairwise (Differ key) (earlier ++ x ∷ xs) → AllByRecursion (λ y. key y ≢ key x) earlier
differ_before key [] x xs d = tt
differ_before key (y ∷ ys) x xs d = (All_middle ys x xs d.0, differ_before key ys x xs d.1)
  where
    All_middle : (ys : List _) (x : _) (xs : List _) → AllByRecursion (λ z. key y ≢ key z) (ys ++ x ∷ xs) → key y ≢ key x
    All_middle [] x xs h = h.0
    All_middle (z ∷ zs) x xs h = All_middle zs x xs h.1

told_from : {X : Type 0} (key : X → List ℕ) (limit : ℕ) (P : X → Type 0) (earlier xs : List X) → ArePairwise (Differ key) (earlier ++ xs) → length earlier + length xs ≤ limit → AllByRecursion P xs → Told key limit P earlier xs
told_from key limit P earlier [] d few h = tt
told_from key limit P earlier (x ∷ xs) d few h =
    let more = length-append earlier (x ∷ []) in (
      not_named key (key x) earlier (differ_before key earlier x xs d),
      omega arith,
      h.0,
      told_from key limit P (earlier ++ x ∷ []) xs (subst (λ l. ArePairwise (Differ key) l) (sym (append_assoc earlier (x ∷ []) xs)) d) (omega (arith, more)) h.1,
    )

pub all_told : {X : Type 0} (key : X → List ℕ) (limit : ℕ) (P : X → Type 0) (xs : List X) → ArePairwise (Differ key) xs → length xs ≤ limit → AllByRecursion P xs → Told key limit P [] xs
all_told key limit P xs d few h = told_from key limit P [] xs d (omega arith) h
