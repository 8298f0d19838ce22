-- The rules of a page of objects, each about numbers and places: what a good page says, and what makes a
-- page good.
use Rattle.std.proofs.Common.{◌≡◌, ℕ, zero, suc, ◌+◌, ◌-◌, ◌*◌, ◌%◌, ◌<◌, ◌≤◌, max, Bool, true, false, ◌&&◌, not, cond, eqb, leb, ltb, List, [], ◌∷◌, length, get_or, map, Some, None, refl, sym, ap, subst, ◌∙◌, arith, inl, inr}
use Rattle.std.specs.List.{range_with_len, list_all}
use Rattle.std.proofs.lemmas.Bool.{and_parts, and_from, eqb-true, eq-eqb, leb-true, le-leb, lt-ltb, le-ltb, cases_lt}
use Rattle.ostore_base.specs.declared.page.TheConstants.{PAGE_SIZE}
use Rattle.ostore_page_tags.specs.declared.layout.TheConstants.{ROW_BYTES}
use Rattle.ostore_page_tags.specs.declared.check.PageFault.TheVariants.{BadHeader, RowsOverlap, RowOrder, BadType, CellPastEnd}
use Rattle.ostore_page_tags.specs.Numbers.{number_at}
use Rattle.ostore_page_tags.specs.Header.{header_of}
use Rattle.ostore_page_tags.specs.Rows.{row_in, state_in, states_of}
use Rattle.ostore_page_tags.specs.Cells.{between}
use Rattle.ostore_page_tags.specs.Rules.{are_zero, gap_of, has_good_header, have_rows_room, begin_at, rise_by_step, offsets_of, are_rows_in_order, is_tag, have_rows_types, end_behind, is_end_behind_cells, first_fault, IsPage}
use Rattle.ostore_page_tags.proofs.bytes.ImageLaws.{length-between, between_read}
use Rattle.ostore_page_tags.proofs.shape.RangeLaws.{map-map-range, list_all_at-range, list_all-range, Rises, rises_at-range, rises-range, begins_at-range, begins-range, none_behind-range, last_behind-range, ends_behind-range}

-- the bytes from one place up to another are zero
pub record ZeroOn (start stop : ℕ) (bytes : List ℕ) : Type 0 where
  pub zeros : (k : ℕ) → start ≤ k → k < stop → get_or bytes k 0 ≡ 0

-- offsets rise from the header's end by multiples of 4 and stay below the cells' end
pub record Offsets (rows end : ℕ) (offset : ℕ → ℕ) : Type 0 where
  pub first : 0 < rows → offset 0 ≡ 32
  pub rise : (i : ℕ) → i + 1 < rows → Rises offset i
  pub none : rows ≡ 0 → end ≡ 32
  pub last : (i : ℕ) → i + 1 ≡ rows → offset i < end
  pub end_fours : end % 4 ≡ 0

abbrev pub rows_in : List ℕ → ℕ
rows_in bytes = (header_of bytes).rows

abbrev pub end_in : List ℕ → ℕ
end_in bytes = (header_of bytes).end

abbrev pub offset_in : List ℕ → ℕ → ℕ
offset_in bytes i = (row_in bytes i).offset

pub record Shape (bytes : List ℕ) : Type 0 where
  pub whole : length bytes ≡ PAGE_SIZE
  pub kind : (header_of bytes).kind ≡ 2
  pub spare : number_at 2 6 bytes ≡ 0
  pub tail : ZeroOn 20 32 bytes
  pub gap : ZeroOn (max 32 (end_in bytes)) (PAGE_SIZE - ROW_BYTES * rows_in bytes) bytes
  pub room : ROW_BYTES * rows_in bytes + end_in bytes ≤ PAGE_SIZE
  pub offsets : Offsets (rows_in bytes) (end_in bytes) (offset_in bytes)
  pub states : (i : ℕ) → i < rows_in bytes → state_in bytes i ≤ 1
  pub tags : (i : ℕ) → i < rows_in bytes → is_tag (row_in bytes i).code (row_in bytes i).serial ≡ true

-- ---- zeros

zero_at : (xs : List ℕ) → are_zero xs ≡ true → (k : ℕ) → get_or xs k 0 ≡ 0
zero_at [] h k = refl
zero_at (x ∷ xs) h zero = eqb-true x 0 (and_parts (eqb x 0) (are_zero xs) h).0
zero_at (x ∷ xs) h (suc k) = zero_at xs (and_parts (eqb x 0) (are_zero xs) h).1 k

pub zeros : (xs : List ℕ) → ((k : ℕ) → k < length xs → get_or xs k 0 ≡ 0) → are_zero xs ≡ true
zeros [] h = refl
zeros (x ∷ xs) h = and_from (eqb x 0) (are_zero xs) (eq-eqb x 0 (h 0 (omega arith))) (zeros xs (λ k below. h (suc k) (omega arith)))

pub ZeroOn-between : (start stop : ℕ) (bytes : List ℕ) → are_zero (between start stop bytes) ≡ true → ZeroOn start stop bytes
ZeroOn-between start stop bytes h = record {
  zeros = λ k low high.
      let at : start + (k - start) ≡ k = omega arith in
      ap (λ (i : ℕ). get_or bytes i 0) (sym at) ∙ sym (between_read start stop (k - start) bytes (omega arith)) ∙ zero_at (between start stop bytes) h (k - start);
}

pub between-ZeroOn : (start stop : ℕ) (bytes : List ℕ) → stop ≤ length bytes → ZeroOn start stop bytes → are_zero (between start stop bytes) ≡ true
between-ZeroOn start stop bytes within none =
    let long = length-between start stop bytes within in
    zeros (between start stop bytes) (λ k below. between_read start stop k bytes (omega arith) ∙ none.zeros (start + k) (omega arith) (omega arith))

-- ---- the first fault

fault_parts : (a b c d e : Bool) → cond (not a) (Some BadHeader) (cond (not b) (Some RowsOverlap) (cond (not c) (Some RowOrder) (cond (not d) (Some BadType) (cond (not e) (Some CellPastEnd) None)))) ≡ None
    → (a ≡ true) × (b ≡ true) × (c ≡ true) × (d ≡ true) × (e ≡ true)
fault_parts true true true true true h = (refl, refl, refl, refl, refl)
fault_parts true true true true false h = absurd cc
fault_parts true true true false e h = absurd cc
fault_parts true true false d e h = absurd cc
fault_parts true false c d e h = absurd cc
fault_parts false b c d e h = absurd cc

pub lawful_parts : (bytes : List ℕ) → first_fault bytes ≡ None → (has_good_header bytes ≡ true) × (have_rows_room bytes ≡ true) × (are_rows_in_order bytes ≡ true) × (have_rows_types bytes ≡ true) × (is_end_behind_cells bytes ≡ true)
unfolding first_fault
lawful_parts bytes h = fault_parts (has_good_header bytes) (have_rows_room bytes) (are_rows_in_order bytes) (have_rows_types bytes) (is_end_behind_cells bytes) h

pub lawful_from : (bytes : List ℕ) → has_good_header bytes ≡ true → have_rows_room bytes ≡ true → are_rows_in_order bytes ≡ true → have_rows_types bytes ≡ true → is_end_behind_cells bytes ≡ true → first_fault bytes ≡ None
unfolding first_fault
lawful_from bytes a b c d e = rw (a, b, c, d, e) refl

-- ---- a good page by numbers and places

offsets_same : (bytes : List ℕ) → offsets_of bytes ≡ map (offset_in bytes) (range_with_len 0 (rows_in bytes))
offsets_same bytes = map-map-range (λ row. row.offset) (row_in bytes) 0 (rows_in bytes)

offsets_taken : (bytes : List ℕ) → begin_at 32 (offsets_of bytes) ≡ true → rise_by_step (offsets_of bytes) ≡ true → end_behind (end_in bytes) (offsets_of bytes) ≡ true → end_in bytes % 4 ≡ 0 → Offsets (rows_in bytes) (end_in bytes) (offset_in bytes)
offsets_taken bytes begin rise behind fours =
    let n = rows_in bytes in
    let f = offset_in bytes in
    let same = offsets_same bytes in
    let begins : begin_at 32 (map f (range_with_len 0 n)) ≡ true = subst (λ l. begin_at 32 l ≡ true) same begin in
    let rises : rise_by_step (map f (range_with_len 0 n)) ≡ true = subst (λ l. rise_by_step l ≡ true) same rise in
    let ends : end_behind (end_in bytes) (map f (range_with_len 0 n)) ≡ true = subst (λ l. end_behind (end_in bytes) l ≡ true) same behind in
    record {
      first = λ some. begins_at-range 32 f 0 n begins some;
      rise = λ i below. rises_at-range f 0 n rises i (omega arith) (omega arith);
      none = λ none. none_behind-range (end_in bytes) f 0 n ends none;
      last = λ i at. last_behind-range (end_in bytes) f 0 n ends i (omega arith) (omega arith);
      end_fours = fours;
    }

pub IsPage-shape : (bytes : List ℕ) → IsPage bytes → Shape bytes
IsPage-shape bytes page =
    let n = rows_in bytes in
    let rules = lawful_parts bytes page.lawful in
    let h1 = and_parts (eqb (header_of bytes).kind 2 && eqb (number_at 2 6 bytes) 0 && are_zero (between 20 32 bytes)) (are_zero (gap_of bytes)) rules.0 in
    let h2 = and_parts (eqb (header_of bytes).kind 2 && eqb (number_at 2 6 bytes) 0) (are_zero (between 20 32 bytes)) h1.0 in
    let h3 = and_parts (eqb (header_of bytes).kind 2) (eqb (number_at 2 6 bytes) 0) h2.0 in
    let o1 = and_parts (begin_at 32 (offsets_of bytes) && rise_by_step (offsets_of bytes)) (list_all (λ state. leb state 1) (states_of bytes)) rules.2 in
    let o2 = and_parts (begin_at 32 (offsets_of bytes)) (rise_by_step (offsets_of bytes)) o1.0 in
    let e1 = and_parts (end_behind (end_in bytes) (offsets_of bytes)) (eqb (end_in bytes % 4) 0) rules.4 in
    record {
      whole = page.whole;
      kind = eqb-true _ 2 h3.0;
      spare = eqb-true _ 0 h3.1;
      tail = ZeroOn-between 20 32 bytes h2.1;
      gap = ZeroOn-between (max 32 (end_in bytes)) (PAGE_SIZE - ROW_BYTES * n) bytes h1.1;
      room = leb-true _ PAGE_SIZE rules.1;
      offsets = offsets_taken bytes o2.0 o2.1 e1.0 (eqb-true _ 0 e1.1);
      states = λ i below. leb-true _ 1 (list_all_at-range (λ state. leb state 1) (state_in bytes) 0 n o1.1 i (omega arith) (omega arith));
      tags = λ i below. list_all_at-range (λ row. is_tag row.code row.serial) (row_in bytes) 0 n rules.3 i (omega arith) (omega arith);
    }

pub shape-IsPage : (bytes : List ℕ) → Shape bytes → IsPage bytes
shape-IsPage bytes shape =
    let n = rows_in bytes in
    let f = offset_in bytes in
    let offsets = shape.offsets in
    let whole = shape.whole in
    let same = offsets_same bytes in
    let begins : begin_at 32 (offsets_of bytes) ≡ true = subst (λ l. begin_at 32 l ≡ true) (sym same) (begins-range 32 f 0 n offsets.first) in
    let rises : rise_by_step (offsets_of bytes) ≡ true = subst (λ l. rise_by_step l ≡ true) (sym same) (rises-range f 0 n (λ i low high. offsets.rise i (omega arith))) in
    let ends : end_behind (end_in bytes) (offsets_of bytes) ≡ true = subst (λ l. end_behind (end_in bytes) l ≡ true) (sym same) (ends_behind-range (end_in bytes) f 0 n offsets.none (λ i low at. offsets.last i (omega arith))) in
    let header : has_good_header bytes ≡ true =
    and_from (eqb (header_of bytes).kind 2 && eqb (number_at 2 6 bytes) 0 && are_zero (between 20 32 bytes)) (are_zero (gap_of bytes))
    (and_from (eqb (header_of bytes).kind 2 && eqb (number_at 2 6 bytes) 0) (are_zero (between 20 32 bytes))
    (and_from (eqb (header_of bytes).kind 2) (eqb (number_at 2 6 bytes) 0) (eq-eqb _ 2 shape.kind) (eq-eqb _ 0 shape.spare))
    (between-ZeroOn 20 32 bytes (omega arith) shape.tail))
    (between-ZeroOn (max 32 (end_in bytes)) (PAGE_SIZE - ROW_BYTES * n) bytes (omega arith) shape.gap) in
    let order : are_rows_in_order bytes ≡ true =
    and_from (begin_at 32 (offsets_of bytes) && rise_by_step (offsets_of bytes)) (list_all (λ state. leb state 1) (states_of bytes))
    (and_from (begin_at 32 (offsets_of bytes)) (rise_by_step (offsets_of bytes)) begins rises)
    (list_all-range (λ state. leb state 1) (state_in bytes) 0 n (λ i low high. le-leb _ 1 (shape.states i (omega arith)))) in
    let types : have_rows_types bytes ≡ true = list_all-range (λ row. is_tag row.code row.serial) (row_in bytes) 0 n (λ i low high. shape.tags i (omega arith)) in
    let last : is_end_behind_cells bytes ≡ true = and_from (end_behind (end_in bytes) (offsets_of bytes)) (eqb (end_in bytes % 4) 0) ends (eq-eqb _ 0 offsets.end_fours) in
    record { whole = whole; lawful = lawful_from bytes header (le-leb _ PAGE_SIZE shape.room) order types last }

-- ---- what follows for offsets

pub offset_above : (rows end : ℕ) (offset : ℕ → ℕ) → Offsets rows end offset → (i : ℕ) → i < rows → 32 ≤ offset i
offset_above rows end offset law zero below = let first = law.first (omega arith) in omega arith
offset_above rows end offset law (suc i) below =
    let before = offset_above rows end offset law i (omega arith) in
    let step : offset i < offset (i + 1) = (law.rise i (omega arith)).0 in
    let at : i + 1 ≡ suc i = omega arith in
    subst (λ k. 32 ≤ offset k) at (omega arith)

mod_sum : (a b : ℕ) → a ≤ b → a % 4 ≡ 0 → (b - a) % 4 ≡ 0 → b % 4 ≡ 0
mod_sum a b below first gap = omega arith

pub offset_fours : (rows end : ℕ) (offset : ℕ → ℕ) → Offsets rows end offset → (i : ℕ) → i < rows → offset i % 4 ≡ 0
offset_fours rows end offset law zero below = let first = law.first (omega arith) in omega arith
offset_fours rows end offset law (suc i) below =
    let before = offset_fours rows end offset law i (omega arith) in
    let step = law.rise i (omega arith) in
    let at : i + 1 ≡ suc i = omega arith in
    subst (λ k. offset k % 4 ≡ 0) at (mod_sum (offset i) (offset (i + 1)) (omega arith) before step.1)

pub offset_order : (rows end : ℕ) (offset : ℕ → ℕ) → Offsets rows end offset → (i j : ℕ) → i < j → j < rows → offset i < offset j
offset_order rows end offset law i zero early below = absurd (omega arith)
offset_order rows end offset law i (suc j) early below =
    let step : offset j < offset (j + 1) = (law.rise j (omega arith)).0 in
    let at : j + 1 ≡ suc j = omega arith in
    subst (λ k. offset i < offset k) at (elim (cases_lt i j) [
      | inl earlier ↦ let before = offset_order rows end offset law i j earlier (omega arith) in omega arith
      | inr same ↦ let same : i ≡ j = omega arith in subst (λ k. offset k < offset (j + 1)) (sym same) step
    ])

-- where the cell of row i stops
abbrev pub stop_at : ℕ → ℕ → (ℕ → ℕ) → ℕ → ℕ
stop_at rows end offset i = cond (ltb (i + 1) rows) (offset (i + 1)) end

pub stop_more : (rows end : ℕ) (offset : ℕ → ℕ) (i : ℕ) → i + 1 < rows → stop_at rows end offset i ≡ offset (i + 1)
stop_more rows end offset i more = rw (lt-ltb (i + 1) rows more) refl

pub stop_last : (rows end : ℕ) (offset : ℕ → ℕ) (i : ℕ) → rows ≤ i + 1 → stop_at rows end offset i ≡ end
stop_last rows end offset i last = rw (le-ltb (i + 1) rows last) refl

pub offset_below : (rows end : ℕ) (offset : ℕ → ℕ) → Offsets rows end offset → (i : ℕ) → i < rows → offset i < end
offset_below rows end offset law i below =
    let last : offset (rows - 1) < end = law.last (rows - 1) (omega arith) in
    elim (cases_lt i (rows - 1)) [
      | inl early ↦ let order = offset_order rows end offset law i (rows - 1) early (omega arith) in omega arith
      | inr late ↦ let same : rows - 1 ≡ i = omega arith in subst (λ k. offset k < end) same last
    ]

pub end_above : (rows end : ℕ) (offset : ℕ → ℕ) → Offsets rows end offset → 32 ≤ end
end_above zero end offset law = let none = law.none refl in omega arith
end_above (suc rows) end offset law =
    let above = offset_above (suc rows) end offset law 0 (omega arith) in
    let below = offset_below (suc rows) end offset law 0 (omega arith) in
    omega arith

mod_gap : (a b : ℕ) → a ≤ b → a % 4 ≡ 0 → b % 4 ≡ 0 → (b - a) % 4 ≡ 0
mod_gap a b below first second = omega arith

-- a cell has bytes, a multiple of 4 of them, and stops at the cells' end or before
pub record IsCellRange (start stop end : ℕ) : Type 0 where
  pub above : 32 ≤ start
  pub some : start < stop
  pub start_fours : start % 4 ≡ 0
  pub fours : (stop - start) % 4 ≡ 0
  pub most : stop ≤ end

pub cell_range : (rows end : ℕ) (offset : ℕ → ℕ) → Offsets rows end offset → (i : ℕ) → i < rows → IsCellRange (offset i) (stop_at rows end offset i) end
cell_range rows end offset law i below =
    let above = offset_above rows end offset law i below in
    let fours = offset_fours rows end offset law i below in
    elim (cases_lt (i + 1) rows) [
      | inl more ↦
          let rise = law.rise i more in
          let under = offset_below rows end offset law (i + 1) more in
          subst (λ s. IsCellRange (offset i) s end) (sym (stop_more rows end offset i more)) (record { above = above; some = rise.0; start_fours = fours; fours = rise.1; most = omega arith })
      | inr last ↦
          let under = offset_below rows end offset law i below in
          subst (λ s. IsCellRange (offset i) s end) (sym (stop_last rows end offset i last)) (record { above = above; some = under; start_fours = fours; fours = mod_gap (offset i) end (omega arith) fours law.end_fours; most = omega arith })
    ]

-- a cell stops where a later one begins, or before
pub cell_before : (rows end : ℕ) (offset : ℕ → ℕ) → Offsets rows end offset → (i j : ℕ) → i < j → j < rows → stop_at rows end offset i ≤ offset j
cell_before rows end offset law i j early below =
    let stop = stop_more rows end offset i (omega arith) in
    elim (cases_lt (i + 1) j) [
      | inl earlier ↦ let order = offset_order rows end offset law (i + 1) j earlier below in omega arith
      | inr next ↦ let same : i + 1 ≡ j = omega arith in let equal = ap offset same in omega arith
    ]
