-- A walk over the rows of a page, from one to the next.
use Rattle.std.proofs.Common.{◌≡◌, ℕ, zero, suc, ◌+◌, ◌-◌, ◌%◌, ◌<◌, ◌≤◌, Bool, true, false, ◌&&◌, eqb, ltb, cond, List, [], ◌∷◌, map, Option, Some, None, refl, sym, ap, ◌∙◌, inl, inr, arith}
use Rattle.std.specs.List.{range_with_len, list_all, find}
use Rattle.std.proofs.lemmas.Bool.{cases_lt}
use Rattle.ostore_page_tags.specs.declared.tag_rows.Row.{Row}
use Rattle.ostore_page_tags.specs.Rules.{begin_at, rise_by_step, end_behind}

-- what stands at the places from i up to n
abbrev pub from_place : {X : Type 0} → (ℕ → X) → ℕ → ℕ → List X
from_place f i n = map f (range_with_len i (n - i))

pub from_place-turn : {X : Type 0} (f : ℕ → X) (i n : ℕ) → i < n → from_place f i n ≡ f i ∷ from_place f (i + 1) n
from_place-turn f i n h =
    let e : n - i ≡ suc (n - (i + 1)) = omega arith in
    rw e refl

pub from_place-end : {X : Type 0} (f : ℕ → X) (i n : ℕ) → n ≤ i → from_place f i n ≡ []
from_place-end f i n h =
    let e : n - i ≡ 0 = omega arith in
    rw e refl

-- a walk begins with all that stands at the places
pub at_start : {X Y : Type 0} (F : List X → Y) (f : ℕ → X) (m n : ℕ) → m ≡ n → F (from_place f 0 m) ≡ F (map f (range_with_len 0 n))
at_start F f m n h =
    let e : m - 0 ≡ n = omega arith in
    ap (λ (k : ℕ). F (map f (range_with_len 0 k))) e

-- a walk that meets one that fails, goes on, or ends
pub list_all-fails : {X : Type 0} (p : X → Bool) (f : ℕ → X) (i n : ℕ) (x : X) (all : Bool) → list_all p (from_place f i n) ≡ all → i < n → x ≡ f i → p x ≡ false → false ≡ all
list_all-fails p f i n x all walked h e fails =
    let turn = ap (list_all p) (from_place-turn f i n h) in
    let here : p (f i) ≡ false = ap p (sym e) ∙ fails in
    sym (ap (λ (b : Bool). b && list_all p (from_place f (i + 1) n)) here) ∙ sym turn ∙ walked

pub list_all-goes_on : {X : Type 0} (p : X → Bool) (f : ℕ → X) (i n : ℕ) (x : X) (all : Bool) → list_all p (from_place f i n) ≡ all → i < n → x ≡ f i → p x ≡ true → list_all p (from_place f (i + 1) n) ≡ all
list_all-goes_on p f i n x all walked h e passes =
    let turn = ap (list_all p) (from_place-turn f i n h) in
    let here : p (f i) ≡ true = ap p (sym e) ∙ passes in
    sym (ap (λ (b : Bool). b && list_all p (from_place f (i + 1) n)) here) ∙ sym turn ∙ walked

pub list_all-ends : {X : Type 0} (p : X → Bool) (f : ℕ → X) (i n : ℕ) (all : Bool) → list_all p (from_place f i n) ≡ all → n ≤ i → true ≡ all
list_all-ends p f i n all walked h = sym (ap (list_all p) (from_place-end f i n h)) ∙ walked

-- a search that finds one, goes on, or ends
pub find-found : {X : Type 0} (p : X → Bool) (f : ℕ → X) (i n : ℕ) (x : X) (found : Option X) → find p (from_place f i n) ≡ found → i < n → x ≡ f i → p x ≡ true → Some x ≡ found
find-found {X = X} p f i n x found walked h e passes =
    let turn = ap (find p) (from_place-turn f i n h) in
    let here : p (f i) ≡ true = ap p (sym e) ∙ passes in
    ap (λ (y : X). Some y) e ∙ sym (ap (λ (b : Bool). cond b (Some (f i)) (find p (from_place f (i + 1) n))) here) ∙ sym turn ∙ walked

pub find-goes_on : {X : Type 0} (p : X → Bool) (f : ℕ → X) (i n : ℕ) (x : X) (found : Option X) → find p (from_place f i n) ≡ found → i < n → x ≡ f i → p x ≡ false → find p (from_place f (i + 1) n) ≡ found
find-goes_on p f i n x found walked h e fails =
    let turn = ap (find p) (from_place-turn f i n h) in
    let here : p (f i) ≡ false = ap p (sym e) ∙ fails in
    sym (ap (λ (b : Bool). cond b (Some (f i)) (find p (from_place f (i + 1) n))) here) ∙ sym turn ∙ walked

pub find-ends : {X : Type 0} (p : X → Bool) (f : ℕ → X) (i n : ℕ) (found : Option X) → find p (from_place f i n) ≡ found → n ≤ i → None ≡ found
find-ends p f i n found walked h = sym (ap (find p) (from_place-end f i n h)) ∙ walked

-- ---- the offsets of rows

abbrev pub offsets : List Row → List ℕ
offsets rows = map (λ row. row.offset) rows

-- one more step of a walk over neighbours
abbrev pub rises : Row → Row → Bool
rises row next = ltb row.offset next.offset && eqb ((next.offset - row.offset) % 4) 0

rise-turn : (f : ℕ → Row) (i n : ℕ) → i + 1 < n → rise_by_step (offsets (from_place f i n)) ≡ (rises (f i) (f (i + 1)) && rise_by_step (offsets (from_place f (i + 1) n)))
rise-turn f i n h =
    let rise = λ (rows : List Row). rise_by_step (offsets rows) in
    let two = ap (λ (rows : List Row). f i ∷ rows) (from_place-turn f (i + 1) n h) in
    let again = ap (λ (rows : List Row). rises (f i) (f (i + 1)) && rise rows) (from_place-turn f (i + 1) n h) in
    ap rise (from_place-turn f i n (omega arith) ∙ two) ∙ sym again

pub rise-fails : (f : ℕ → Row) (i n : ℕ) (x y : Row) (all : Bool) → rise_by_step (offsets (from_place f i n)) ≡ all → i + 1 < n → x ≡ f i → y ≡ f (i + 1) → rises x y ≡ false → false ≡ all
rise-fails f i n x y all walked h e d fails =
    let here : rises (f i) (f (i + 1)) ≡ false = ap (λ (row : Row). rises row (f (i + 1))) (sym e) ∙ ap (rises x) (sym d) ∙ fails in
    sym (ap (λ (b : Bool). b && rise_by_step (offsets (from_place f (i + 1) n))) here) ∙ sym (rise-turn f i n h) ∙ walked

pub rise-goes_on : (f : ℕ → Row) (i n : ℕ) (x y : Row) (all : Bool) → rise_by_step (offsets (from_place f i n)) ≡ all → i + 1 < n → x ≡ f i → y ≡ f (i + 1) → rises x y ≡ true → rise_by_step (offsets (from_place f (i + 1) n)) ≡ all
rise-goes_on f i n x y all walked h e d passes =
    let here : rises (f i) (f (i + 1)) ≡ true = ap (λ (row : Row). rises row (f (i + 1))) (sym e) ∙ ap (rises x) (sym d) ∙ passes in
    sym (ap (λ (b : Bool). b && rise_by_step (offsets (from_place f (i + 1) n))) here) ∙ sym (rise-turn f i n h) ∙ walked

pub rise-ends : (f : ℕ → Row) (i n : ℕ) (all : Bool) → rise_by_step (offsets (from_place f i n)) ≡ all → n ≤ i + 1 → true ≡ all
rise-ends f i n all walked h =
    let rise = λ (rows : List Row). rise_by_step (offsets rows) in
    elim (cases_lt i n) [
      | inl below ↦
          let one = from_place-turn f i n below ∙ ap (λ (rows : List Row). f i ∷ rows) (from_place-end f (i + 1) n h) in
          sym (ap rise one) ∙ walked
      | inr past ↦ sym (ap rise (from_place-end f i n past)) ∙ walked
    ]

pub begin_at-first : (f : ℕ → Row) (n first : ℕ) → 0 < n → begin_at first (offsets (map f (range_with_len 0 n))) ≡ eqb (f 0).offset first
begin_at-first f zero first h = absurd (omega arith)
begin_at-first f (suc n) first h = refl

end_behind-from : (f : ℕ → Row) (end m i j : ℕ) → i + m ≡ j → end_behind end (offsets (map f (range_with_len i (suc m)))) ≡ ltb (f j).offset end
end_behind-from f end zero i j e =
    let same : i ≡ j = omega arith in
    ap (λ (k : ℕ). ltb (f k).offset end) same
end_behind-from f end (suc m) i j e = end_behind-from f end m (i + 1) j (omega arith)

pub end_behind-last : (f : ℕ → Row) (end n last : ℕ) → last + 1 ≡ n → end_behind end (offsets (map f (range_with_len 0 n))) ≡ ltb (f last).offset end
end_behind-last f end zero last e = absurd (omega arith)
end_behind-last f end (suc n) last e = end_behind-from f end n 0 last (omega arith)

pub end_behind-none : (f : ℕ → Row) (end n : ℕ) → n ≡ 0 → end_behind end (offsets (map f (range_with_len 0 n))) ≡ eqb end 32
end_behind-none f end n e = ap (λ (k : ℕ). end_behind end (offsets (map f (range_with_len 0 k)))) e
