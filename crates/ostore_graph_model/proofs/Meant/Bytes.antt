-- Numbers, ints and texts in lists of bytes, and the bytes of cells.
use Rattle.std.proofs.Common.{◌≡◌, ℕ, zero, suc, ◌+◌, ◌^◌, ◌<◌, ◌≤◌, Bool, cond, List, [], ◌∷◌, length, take, drop, get_or, sym, ap, subst, ◌∙◌, arith, mod-eq_of_lt, Some, inl, inr, w64}
use Rattle.std.specs.Prelude.{pos, FitsSigned, ◌-◌}
use Rattle.std.specs.Int.{cast_signed, int_wrap}
use Rattle.std.specs.List.{find, AllByRecursion}
use Rattle.std.proofs.lemmas.Bool.{cases_Bool}
use Rattle.std.proofs.lemmas.Int.{SFits-int_wrap}
use Rattle.std.proofs.lemmas.List.{length-take}
use Rattle.std.proofs.lemmas.Option.{same_Some, none-some}
use Rattle.byteorder.specs.Numbers.{little_from-lt}
use Rattle.ostore_page_tags.specs.declared.tag_rows.Row.{Row}
use Rattle.ostore_page_tags.specs.Numbers.{number_at, int_at}
use Rattle.ostore_page_tags.specs.Cells.{Cell, between, cells_from}
use Rattle.ostore_graph_model.specs.MemberValues.{text_at}

-- ---- bytes

abbrev pub AreSmall : List ℕ → Type 0
AreSmall bytes = (k : ℕ) → get_or bytes k 0 < 256

pub small_drop : (n : ℕ) (bytes : List ℕ) → AreSmall bytes → AreSmall (drop n bytes)
small_drop zero bytes small k = small k
small_drop (suc n) [] small k = small k
small_drop (suc n) (byte ∷ bytes) small k = small_drop n bytes (λ i. small (suc i)) k

pub small_take : (n : ℕ) (bytes : List ℕ) → AreSmall bytes → AreSmall (take n bytes)
small_take zero bytes small k = omega arith
small_take (suc n) [] small k = small k
small_take (suc n) (byte ∷ bytes) small zero = small zero
small_take (suc n) (byte ∷ bytes) small (suc k) = small_take n bytes (λ i. small (suc i)) k

pub small_between : (start stop : ℕ) (bytes : List ℕ) → AreSmall bytes → AreSmall (between start stop bytes)
small_between start stop bytes small = small_take (stop - start) (drop start bytes) (small_drop start bytes small)

-- ---- what is read of them

pub number_fits : (n at : ℕ) (bytes : List ℕ) → AreSmall bytes → number_at n at bytes < 256 ^ n
number_fits n at bytes small = little_from-lt 0 n (drop at bytes) (small_drop at bytes small)

signed_fits : (n : ℕ) → n < 2 ^ 64 → FitsSigned w64 (cast_signed w64 n)
unfolding int_wrap
signed_fits n low = subst (λ m. FitsSigned w64 (cast_signed w64 m)) (mod-eq_of_lt low) (SFits-int_wrap w64 (pos n))

pub int_fits : (at : ℕ) (bytes : List ℕ) → AreSmall bytes → FitsSigned w64 (int_at at bytes)
int_fits at bytes small = signed_fits (number_at 8 at bytes) (let low = number_fits 8 at bytes small in omega (arith, low))

pub text_short : (at max : ℕ) (bytes : List ℕ) → length (text_at at max bytes) ≤ max
text_short at max bytes =
    let text = length-take (number_at 1 at bytes) (between (at + 1) (at + 1 + max) bytes) in
    let room = length-take (at + 1 + max - (at + 1)) (drop (at + 1) bytes) in
    omega (arith, text, room)

-- ---- cells

-- what holds of all holds of the one that is found
pub found_one : {X : Type 0} (test : X → Bool) (P : X → Type 0) (xs : List X) (x : X) → AllByRecursion P xs → find test xs ≡ Some x → P x
found_one test P [] x all e = absurd (none-some x e)
found_one test P (first ∷ others) x all e = elim (cases_Bool (test first)) [
  | inl hit ↦ subst P (same_Some first x (sym (ap (λ b. cond b (Some first) (find test others)) hit) ∙ e)) all.0
  | inr miss ↦ found_one test P others x all.1 (sym (ap (λ b. cond b (Some first) (find test others)) miss) ∙ e)
]

pub small_cells : (end : ℕ) (bytes : List ℕ) (rows : List Row) → AreSmall bytes → AllByRecursion (λ (cell : Cell). AreSmall cell.bytes) (cells_from end bytes rows)
small_cells end bytes [] small = tt
small_cells end bytes (row ∷ []) small = (small_between row.offset end bytes small, tt)
small_cells end bytes (row ∷ next ∷ rows) small = (small_between row.offset next.offset bytes small, small_cells end bytes (next ∷ rows) small)

-- what holds of all rows holds of the rows of all cells
pub row_cells : (P : Row → Type 0) (end : ℕ) (bytes : List ℕ) (rows : List Row) → AllByRecursion P rows → AllByRecursion (λ (cell : Cell). P cell.row) (cells_from end bytes rows)
row_cells P end bytes [] all = tt
row_cells P end bytes (row ∷ []) all = (all.0, tt)
row_cells P end bytes (row ∷ next ∷ rows) all = (all.0, row_cells P end bytes (next ∷ rows) all.1)
