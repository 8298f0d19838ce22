-- The pointers of the page of roots.
use Rattle.std.proofs.Common.{◌≡◌, ◌≢◌, ℕ, zero, suc, ◌+◌, ◌-◌, ◌<◌, ◌≤◌, cond, eqb, List, [], ◌∷◌, ◌++◌, length, refl, sym, ap, subst, ◌∙◌, arith, inl, inr}
use Rattle.std.specs.List.{flat_map, range_with_len}
use Rattle.std.proofs.lemmas.Bool.{cases_lt, cases_eq, eq-eqb, ne_eqb}
use Rattle.ostore_page_tags.specs.Numbers.{number_at}
use Rattle.ostore_page_tags.proofs.bytes.ImageLaws.{number_at-same}
use Rattle.ostore_relocation.specs.Places.{IsOutside, LieBetween, root_place, root_pointer, root_pointers}
use Rattle.ostore_relocation.specs.Pointers.{with_pointer, with_pointers}
use Rattle.ostore_relocation.proofs.PlaceLaws.{lie_append}
use Rattle.ostore_relocation.proofs.ChangeLaws.{byte_kept, long_changed}
use Rattle.ostore_relocation.proofs.PageLaws.{changed_append}

-- two images have the same names' lengths in their root rows
abbrev pub SameRoots : List ℕ → List ℕ → Type 0
SameRoots first second = (j : ℕ) → number_at 1 (root_place j) first ≡ number_at 1 (root_place j) second

pub same_pointer : (first second : List ℕ) (j : ℕ) → SameRoots first second → root_pointer first j ≡ root_pointer second j
same_pointer first second j same = ap (λ (n : ℕ). cond (eqb n 0) [] ((root_place j + 32) ∷ [])) (same j)

pub same_pointers : (first second : List ℕ) (a n : ℕ) → SameRoots first second → flat_map (root_pointer first) (range_with_len a n) ≡ flat_map (root_pointer second) (range_with_len a n)
same_pointers first second a zero same = refl
same_pointers first second a (suc n) same =
    ap (λ (l : List ℕ). l ++ flat_map (root_pointer first) (range_with_len (a + 1) n)) (same_pointer first second a same)
    ∙ ap (λ (l : List ℕ). root_pointer second a ++ l) (same_pointers first second (a + 1) n same)

-- no root's pointer has the byte of a name's length
pub outside_roots : (i j : ℕ) → IsOutside (root_place j) (root_place i + 32)
outside_roots i j = elim (cases_lt i j) [ inl later ↦ inr (omega arith) | inr not_later ↦ inl (omega arith) ]

pub root_changed : (change : ℕ → ℕ) (i : ℕ) (bytes : List ℕ) → root_place i + 32 + 4 ≤ length bytes → SameRoots (with_pointer change (root_place i + 32) bytes) bytes
root_changed change i bytes within j =
    number_at-same 1 (root_place j) (with_pointer change (root_place i + 32) bytes) bytes (record {
      bytes = λ k low high.
          let is : root_place j ≡ k = omega arith in
          byte_kept change (root_place i + 32) k bytes within (subst (λ (n : ℕ). IsOutside n (root_place i + 32)) is (outside_roots i j));
    })

pub lie_root : (bytes : List ℕ) (i : ℕ) → LieBetween (root_place i) (root_pointer bytes i) (root_place (i + 1))
lie_root bytes i = elim (cases_eq (number_at 1 (root_place i) bytes) 0) [
  | inl free ↦ rw (eq-eqb _ 0 free) (omega arith)
  | inr used ↦ rw (ne_eqb _ 0 used) (omega arith, omega arith)
]

pub lie_roots_from : (bytes : List ℕ) (a n : ℕ) → LieBetween (root_place a) (flat_map (root_pointer bytes) (range_with_len a n)) (root_place (a + n))
lie_roots_from bytes a zero = omega arith
lie_roots_from bytes a (suc n) =
    let end : root_place (a + 1 + n) ≡ root_place (a + suc n) = omega arith in
    lie_append (root_place a) (root_place (a + 1)) (root_place (a + suc n)) (root_pointer bytes a) _ (lie_root bytes a)
    (subst (λ (m : ℕ). LieBetween (root_place (a + 1)) (flat_map (root_pointer bytes) (range_with_len (a + 1) n)) m) end (lie_roots_from bytes (a + 1) n))

-- all roots' pointers, where a number of rows is named
pub roots_are : (bytes : List ℕ) (rows : ℕ) → rows ≡ 101 → flat_map (root_pointer bytes) (range_with_len 0 rows) ≡ root_pointers bytes
unfolding root_pointers
roots_are bytes rows is = ap (λ (n : ℕ). flat_map (root_pointer bytes) (range_with_len 0 n)) is

lie_roots_as : (bytes : List ℕ) (rows : ℕ) → rows ≡ 101 → LieBetween 32 (root_pointers bytes) 4072
lie_roots_as bytes rows is =
    let end : root_place (0 + rows) ≡ 4072 = omega arith in
    subst (λ (n : ℕ). LieBetween 32 (root_pointers bytes) n) end
    (subst (λ (l : List ℕ). LieBetween 32 l (root_place (0 + rows))) (roots_are bytes rows is) (lie_roots_from bytes 0 rows))

pub lie_roots : (bytes : List ℕ) → LieBetween 32 (root_pointers bytes) 4072
lie_roots bytes = lie_roots_as bytes 101 refl

-- the pointers of two images with the same names' lengths
pub same_roots : (first second : List ℕ) → SameRoots first second → root_pointers first ≡ root_pointers second
unfolding root_pointers
same_roots first second same = same_pointers first second 0 101 same

-- ---- a walk over the rows

pub record RootTurns (change : ℕ → ℕ) (start now : List ℕ) (i : ℕ) (whole : List ℕ) : Type 0 where
  pub long : length now ≡ length start
  pub same : SameRoots now start
  pub left : with_pointers change (flat_map (root_pointer start) (range_with_len i (101 - i))) now ≡ whole

pub root_start : (change : ℕ → ℕ) (start : List ℕ) (rows : ℕ) → rows ≡ 101 → RootTurns change start start 0 (with_pointers change (root_pointers start) start)
root_start change start rows is = record {
  long = refl;
  same = λ j. refl;
  left =
      let all : 101 - 0 ≡ rows = omega arith in
      ap (λ (n : ℕ). with_pointers change (flat_map (root_pointer start) (range_with_len 0 n)) start) all ∙ ap (λ (l : List ℕ). with_pointers change l start) (roots_are start rows is);
}

record KeepsRoots (old new : List ℕ) : Type 0 where
  long : length new ≡ length old
  same : SameRoots new old

keeps_roots : (change : ℕ → ℕ) (i : ℕ) (bytes : List ℕ) → root_place i + 32 + 4 ≤ length bytes → KeepsRoots bytes (with_pointers change (root_pointer bytes i) bytes)
keeps_roots change i bytes within = elim (cases_eq (number_at 1 (root_place i) bytes) 0) [
  | inl free ↦ rw (eq-eqb _ 0 free) (record { long = refl; same = λ j. refl })
  | inr used ↦ rw (ne_eqb _ 0 used) (record { long = long_changed change (root_place i + 32) bytes within; same = root_changed change i bytes within })
]

pub root_turns : (change : ℕ → ℕ) (start old new whole : List ℕ) (i : ℕ) → RootTurns change start old i whole → i < 101 → 4096 ≤ length start → new ≡ with_pointers change (root_pointer old i) old → RootTurns change start new (i + 1) whole
root_turns change start old new whole i so_far below room is =
    let long = so_far.long in
    let kept : KeepsRoots old new = subst (λ (b : List ℕ). KeepsRoots old b) (sym is) (keeps_roots change i old (omega arith)) in
    let here : root_pointer old i ≡ root_pointer start i = same_pointer old start i so_far.same in
    let count : 101 - i ≡ suc (101 - (i + 1)) = omega arith in
    let rest : List ℕ = flat_map (root_pointer start) (range_with_len (i + 1) (101 - (i + 1))) in
    let split : flat_map (root_pointer start) (range_with_len i (101 - i)) ≡ root_pointer start i ++ rest = ap (λ (n : ℕ). flat_map (root_pointer start) (range_with_len i n)) count in
    record {
      long = kept.long ∙ so_far.long;
      same = λ j. kept.same j ∙ so_far.same j;
      left =
          ap (with_pointers change rest) (is ∙ ap (λ (l : List ℕ). with_pointers change l old) here)
          ∙ sym (changed_append change (root_pointer start i) rest old) ∙ ap (λ (l : List ℕ). with_pointers change l old) (sym split) ∙ so_far.left;
    }

pub root_end : (change : ℕ → ℕ) (start now whole : List ℕ) (i : ℕ) → RootTurns change start now i whole → 101 ≤ i → now ≡ whole
root_end change start now whole i so_far past =
    let none : 101 - i ≡ 0 = omega arith in
    sym (ap (λ (n : ℕ). with_pointers change (flat_map (root_pointer start) (range_with_len i n)) now) none) ∙ so_far.left

-- a row that is free, and one that isn't
pub free_root : (bytes : List ℕ) (i n : ℕ) → n ≡ number_at 1 (root_place i) bytes → n ≡ 0 → root_pointer bytes i ≡ []
free_root bytes i n read free = rw (eq-eqb (number_at 1 (root_place i) bytes) 0 (sym read ∙ free)) refl

pub used_root : (bytes : List ℕ) (i n : ℕ) → n ≡ number_at 1 (root_place i) bytes → n ≢ 0 → root_pointer bytes i ≡ (root_place i + 32) ∷ []
used_root bytes i n read used = rw (ne_eqb (number_at 1 (root_place i) bytes) 0 (λ e. used (read ∙ e))) refl

pub roots_split : (bytes : List ℕ) (i : ℕ) → i < 101 → flat_map (root_pointer bytes) (range_with_len i (101 - i)) ≡ root_pointer bytes i ++ flat_map (root_pointer bytes) (range_with_len (i + 1) (101 - (i + 1)))
roots_split bytes i below =
    let count : 101 - i ≡ suc (101 - (i + 1)) = omega arith in
    ap (λ (n : ℕ). flat_map (root_pointer bytes) (range_with_len i n)) count
