-- Which cells are the schema's, row by row, and which pointers lead to pages, one by one.
use Rattle.std.proofs.Common.{◌≡◌, ℕ, zero, suc, ◌+◌, ◌<◌, ◌≤◌, ◌↔◌, Bool, true, false, List, [], ◌∷◌, ◌++◌, length, map, drop, Some, refl, sym, ap, subst, ◌∙◌, arith, inl, inr}
use Rattle.std.specs.Prelude.{IsTrue}
use Rattle.std.specs.List.{AllByRecursion, range_with_len, slice_get}
use Rattle.std.specs.Option.{option_map}
use Rattle.std.proofs.lemmas.Bool.{cases_eq, false≢true}
use Rattle.std.proofs.lemmas.Option.{same_Some}
use Rattle.ostore_schema_layout.specs.declared.schema.Schema.{Schema}
use Rattle.ostore_page_tags.specs.declared.tag_rows.Row.{Row}
use Rattle.ostore_page_tags.specs.Numbers.{number_at}
use Rattle.ostore_page_tags.specs.Rows.{row_in, rows_of}
use Rattle.ostore_page_tags.specs.Cells.{Cell, cells_of}
use Rattle.ostore_page_tags.specs.Rules.{IsPage}
use Rattle.ostore_page_tags.proofs.shape.PageShape.{rows_in, end_in}
use Rattle.ostore_page_tags.proofs.walks.NthLaws.{cell_stop, rows_counted, slice_get-range}
use Rattle.ostore_page_tags.proofs.parts.CellLaws.{cell_in, cells_are}
use Rattle.ostore_relocation.specs.Pointers.{target}
use Rattle.ostore_relocation.specs.Fitness.{HasCells, IsCellOf, LeadToPages}
use Rattle.ostore_relocation.specs.inside.RowFit.{IsRowFit}
use Rattle.ostore_relocation.proofs.PageLaws.{all_at-range}

-- ---- cells

-- the cell of a row by its number
abbrev pub cell_at : List ℕ → ℕ → Cell
cell_at bytes i = cell_in (rows_in bytes) (end_in bytes) bytes (row_in bytes) i

all-range : {X : Type 0} (P : X → Type 0) (f : ℕ → X) (a n : ℕ) → ((i : ℕ) → a ≤ i → i < a + n → P (f i)) → AllByRecursion P (map f (range_with_len a n))
all-range P f a zero each = tt
all-range P f a (suc n) each = (each a (omega arith) (omega arith), all-range P f (a + 1) n (λ i low high. each i (omega arith) (omega arith)))

-- a row that is walked to, and the end of its cell, are those of the cell
record Walked (bytes : List ℕ) (i : ℕ) (row : Row) (end : ℕ) : Type 0 where
  here : (cell_at bytes i).row ≡ row
  stop : row.offset + length (cell_at bytes i).bytes ≡ end

walked : (bytes : List ℕ) (i : ℕ) (row : Row) (end : ℕ) → i < length (rows_of bytes) → slice_get (rows_of bytes) i ≡ Some row → option_map cell_stop (slice_get (cells_of bytes) i) ≡ Some end → Walked bytes i row end
walked bytes i row end there told ends =
    let below : i < rows_in bytes = omega (arith, rows_counted bytes) in
    let is : row_in bytes i ≡ row = same_Some (row_in bytes i) row (sym (slice_get-range (row_in bytes) (rows_in bytes) i below) ∙ told) in
    let cell : slice_get (cells_of bytes) i ≡ Some (cell_at bytes i) =
    ap (λ (cells : List Cell). slice_get cells i) (cells_are (rows_in bytes) (end_in bytes) bytes refl refl) ∙ slice_get-range (cell_at bytes) (rows_in bytes) i below in
    let stop : (row_in bytes i).offset + length (cell_at bytes i).bytes ≡ end = same_Some _ end (sym (ap (option_map cell_stop) cell) ∙ ends) in
    record { here = is; stop = ap (λ (r : Row). r.offset + length (cell_at bytes i).bytes) (sym is) ∙ stop }

fit_cell : (schema : Schema) (cell : Cell) (row : Row) (end : ℕ) → cell.row ≡ row → row.offset + length cell.bytes ≡ end → IsRowFit schema row end → IsCellOf schema cell
fit_cell schema cell row end is ends fit =
    subst (λ (r : Row). IsRowFit schema r end → r.offset + length cell.bytes ≡ end → IsCellOf schema cell) is (λ fits stops live. let size = (fits live).1 in ((fits live).0, omega arith)) fit ends

cell_fit : (schema : Schema) (cell : Cell) (row : Row) (end : ℕ) → cell.row ≡ row → row.offset + length cell.bytes ≡ end → IsCellOf schema cell → IsRowFit schema row end
cell_fit schema cell row end is ends of_schema =
    subst (λ (r : Row). r.offset + length cell.bytes ≡ end → IsRowFit schema r end) is (λ stops live. let size = (of_schema live).1 in ((of_schema live).0, omega arith)) ends

-- one cell more is the schema's
pub one_fits : (schema : Schema) (bytes : List ℕ) (i : ℕ) (row : Row) (end : ℕ) → i < length (rows_of bytes) → slice_get (rows_of bytes) i ≡ Some row → option_map cell_stop (slice_get (cells_of bytes) i) ≡ Some end → IsRowFit schema row end
    → ((k : ℕ) → k < i → IsCellOf schema (cell_at bytes k)) → (k : ℕ) → k < i + 1 → IsCellOf schema (cell_at bytes k)
one_fits schema bytes i row end there told ends fit so_far k below = elim (cases_eq k i) [
  | inl last ↦ let w = walked bytes i row end there told ends in subst (λ (n : ℕ). IsCellOf schema (cell_at bytes n)) (sym last) (fit_cell schema (cell_at bytes i) row end w.here w.stop fit)
  | inr other ↦ so_far k (omega arith)
]

pub all_fit : (schema : Schema) (bytes : List ℕ) (i : ℕ) → IsPage bytes → length (rows_of bytes) ≤ i → ((k : ℕ) → k < i → IsCellOf schema (cell_at bytes k)) → HasCells schema bytes
all_fit schema bytes i page past each = record {
  page = page;
  cells = subst (λ (l : List Cell). AllByRecursion (IsCellOf schema) l) (sym (cells_are (rows_in bytes) (end_in bytes) bytes refl refl))
      (all-range (IsCellOf schema) (cell_at bytes) 0 (rows_in bytes) (λ k low high. each k (omega (arith, rows_counted bytes))));
}

pub one_misfits : (schema : Schema) (bytes : List ℕ) (i : ℕ) (row : Row) (end : ℕ) → i < length (rows_of bytes) → slice_get (rows_of bytes) i ≡ Some row → option_map cell_stop (slice_get (cells_of bytes) i) ≡ Some end → HasCells schema bytes → IsRowFit schema row end
one_misfits schema bytes i row end there told ends has =
    let w = walked bytes i row end there told ends in
    let cells = subst (λ (l : List Cell). AllByRecursion (IsCellOf schema) l) (cells_are (rows_in bytes) (end_in bytes) bytes refl refl) has.cells in
    cell_fit schema (cell_at bytes i) row end w.here w.stop (all_at-range (IsCellOf schema) (cell_at bytes) 0 (rows_in bytes) cells i (omega arith) (omega (arith, rows_counted bytes)))

-- ---- targets

-- what is left of some places decides whether the pointers at all of them lead to pages
pub record Decides (bytes rest all : List ℕ) : Type 0 where
  pub on : LeadToPages bytes rest → LeadToPages bytes all
  pub back : LeadToPages bytes all → LeadToPages bytes rest

pub decides_start : (bytes places all : List ℕ) → places ≡ all → Decides bytes places all
decides_start bytes places all is = record { on = λ lead. subst (LeadToPages bytes) is lead; back = λ lead. subst (LeadToPages bytes) (sym is) lead }

lead_both : (bytes first second : List ℕ) → LeadToPages bytes first → LeadToPages bytes second → LeadToPages bytes (first ++ second)
lead_both bytes [] second a b = b
lead_both bytes (at ∷ first) second a b = (a.0, lead_both bytes first second a.1 b)

lead_front : (bytes first second : List ℕ) → LeadToPages bytes (first ++ second) → LeadToPages bytes first
lead_front bytes [] second all = tt
lead_front bytes (at ∷ first) second all = (all.0, lead_front bytes first second all.1)

lead_back : (bytes first second : List ℕ) → LeadToPages bytes (first ++ second) → LeadToPages bytes second
lead_back bytes [] second all = all
lead_back bytes (at ∷ first) second all = lead_back bytes first second all.1

-- some of the places that are left lead to pages, and the others are left
pub decides_next : (bytes places first second all : List ℕ) → Decides bytes places all → places ≡ first ++ second → LeadToPages bytes first → Decides bytes second all
decides_next bytes places first second all decides split lead = record {
  on = λ rest. decides.on (subst (LeadToPages bytes) (sym split) (lead_both bytes first second lead rest));
  back = λ whole. lead_back bytes first second (subst (LeadToPages bytes) split (decides.back whole));
}

-- some of the places that are left would lead to pages, if all did
pub decides_first : (bytes places first second all : List ℕ) → Decides bytes places all → places ≡ first ++ second → LeadToPages bytes all → LeadToPages bytes first
decides_first bytes places first second all decides split whole = lead_front bytes first second (subst (LeadToPages bytes) split (decides.back whole))

-- what is left of a cell: places on the page, which decide
pub record CellDecides (bytes : List ℕ) (offset : ℕ) (pointers all : List ℕ) : Type 0 where
  pub within : AllByRecursion (λ at. offset + at + 4 ≤ 4096) pointers
  pub decides : Decides bytes (map (λ at. offset + at) pointers) all

pub cell_decides_next : (bytes : List ℕ) (offset : ℕ) (pointers rest : List ℕ) (at : ℕ) (all : List ℕ) → CellDecides bytes offset pointers all → Some at ≡ slice_get pointers 0 → rest ≡ drop 1 pointers → target (number_at 4 (offset + at) bytes) < 16384 → CellDecides bytes offset rest all
cell_decides_next bytes offset [] rest at all so_far next behind leads = cc
cell_decides_next bytes offset (p ∷ pointers) rest at all so_far next behind leads =
    let is : at ≡ p = same_Some at p next in
    let leads_p : target (number_at 4 (offset + p) bytes) < 16384 = subst (λ (n : ℕ). target (number_at 4 (offset + n) bytes) < 16384) is leads in
    subst (λ (l : List ℕ). CellDecides bytes offset l all) (sym behind) (record {
      within = so_far.within.1;
      decides = decides_next bytes (map (λ a. offset + a) (p ∷ pointers)) ((offset + p) ∷ []) (map (λ a. offset + a) pointers) all so_far.decides refl (leads_p, tt);
    })

pub cell_decides_here : (bytes : List ℕ) (offset : ℕ) (pointers : List ℕ) (at : ℕ) (all : List ℕ) → CellDecides bytes offset pointers all → Some at ≡ slice_get pointers 0 → LeadToPages bytes all → target (number_at 4 (offset + at) bytes) < 16384
cell_decides_here bytes offset [] at all so_far next whole = cc
cell_decides_here bytes offset (p ∷ pointers) at all so_far next whole =
    let is : at ≡ p = same_Some at p next in
    subst (λ (n : ℕ). target (number_at 4 (offset + n) bytes) < 16384) (sym is) (so_far.decides.back whole).0

-- ---- answers

-- an answer is no, since what was asked last is not so, and would be if all were
pub answer_no : (all last : Type 0) (answer : Bool) → answer ≡ false → (IsTrue answer ↔ last) → (all → last) → (IsTrue false ↔ all)
answer_no all last answer is asked some = (λ never. absurd (false≢true never), λ whole. subst IsTrue is (asked.1 (some whole)))

-- an answer is yes, since all is so
pub answer_yes : (all : Type 0) → all → (IsTrue true ↔ all)
answer_yes all holds = (λ _. holds, λ _. refl)

pub asked_yes : (last : Type 0) (answer : Bool) → answer ≡ true → (IsTrue answer ↔ last) → last
asked_yes last answer is asked = asked.0 is
