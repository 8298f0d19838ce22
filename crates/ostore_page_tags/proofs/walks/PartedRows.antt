-- The rows of a good page, parted by an offset.
use Rattle.std.proofs.Common.{◌≡◌, ◌≢◌, ℕ, zero, suc, ◌+◌, ◌-◌, ◌<◌, ◌≤◌, Bool, eqb, List, length, Some, None, refl, sym, ap, subst, inl, inr, arith}
use Rattle.std.specs.List.{find}
use Rattle.std.proofs.lemmas.Bool.{cases_lt, cases_eq, eq-eqb, ne_eqb}
use Rattle.ostore_page_tags.specs.declared.tag_rows.Row.{Row}
use Rattle.ostore_page_tags.specs.Rows.{row_in, rows_of, row_at}
use Rattle.ostore_page_tags.specs.Rules.{IsPage}
use Rattle.ostore_page_tags.specs.inside.PartsRows.{PartsRows}
use Rattle.ostore_page_tags.proofs.shape.PageShape.{rows_in, end_in, offset_in, IsPage-shape, offset_order}
use Rattle.ostore_page_tags.proofs.walks.RowLaws.{from_place, at_start, find-found, find-goes_on, find-ends}
use Rattle.ostore_page_tags.proofs.walks.NthLaws.{rows_counted}

-- the part is between two rows
pub record IsBetween (bytes : List ℕ) (offset low high : ℕ) : Type 0 where
  pub order : low ≤ high
  pub within : high ≤ length (rows_of bytes)
  pub before : (j : ℕ) → j < low → (row_in bytes j).offset < offset
  pub behind : (j : ℕ) → high ≤ j → j < length (rows_of bytes) → offset ≤ (row_in bytes j).offset

pub between_all : (bytes : List ℕ) (offset high : ℕ) → high ≡ length (rows_of bytes) → IsBetween bytes offset 0 high
between_all bytes offset high all = record {
  order = omega arith;
  within = omega arith;
  before = λ j below. absurd (omega arith);
  behind = λ j low below. absurd (omega arith);
}

-- an earlier row's cell begins before a later one's
rows_rise : (bytes : List ℕ) (i j : ℕ) → IsPage bytes → i < j → j < length (rows_of bytes) → offset_in bytes i < offset_in bytes j
rows_rise bytes i j page early below =
    offset_order (rows_in bytes) (end_in bytes) (offset_in bytes) (IsPage-shape bytes page).offsets i j early (omega (arith, rows_counted bytes))

pub between_later : (bytes : List ℕ) (offset low middle high at : ℕ) → IsPage bytes → IsBetween bytes offset low high → middle < high → at ≡ (row_in bytes middle).offset → at < offset → IsBetween bytes offset (middle + 1) high
between_later bytes offset low middle high at page range below is before =
    let within = range.within in
    record {
      order = omega arith;
      within = within;
      before = λ j less. elim (cases_lt j middle) [
        | inl early ↦ let order = rows_rise bytes j middle page early (omega arith) in omega arith
        | inr same ↦ let equal : j ≡ middle = omega arith in let here = ap (offset_in bytes) equal in omega arith
      ];
      behind = range.behind;
    }

pub between_earlier : (bytes : List ℕ) (offset low middle high at : ℕ) → IsPage bytes → IsBetween bytes offset low high → low ≤ middle → middle < high → at ≡ (row_in bytes middle).offset → offset ≤ at → IsBetween bytes offset low middle
between_earlier bytes offset low middle high at page range above below is behind =
    let within = range.within in
    record {
      order = above;
      within = omega arith;
      before = range.before;
      behind = λ j more less. elim (cases_lt middle j) [
        | inl late ↦ let order = rows_rise bytes middle j page late less in omega arith
        | inr same ↦ let equal : j ≡ middle = omega arith in let here = ap (offset_in bytes) equal in omega arith
      ];
    }

pub between-parts : (bytes : List ℕ) (offset low high : ℕ) → IsBetween bytes offset low high → high ≤ low → PartsRows bytes offset low
between-parts bytes offset low high range met =
    let order = range.order in
    let within = range.within in
    record {
      within = omega arith;
      before = range.before;
      behind = λ j more less. range.behind j (omega arith) less;
    }

-- ---- the search

abbrev pub at_offset : ℕ → Row → Bool
at_offset offset row = eqb row.offset offset

-- none of the rows before is found
past_before : (bytes : List ℕ) (offset i k : ℕ) → ((j : ℕ) → j < i → (row_in bytes j).offset < offset) → k ≤ i → i ≤ rows_in bytes
    → find (at_offset offset) (from_place (row_in bytes) k (rows_in bytes)) ≡ row_at bytes offset → (left : ℕ) → k + left ≡ i
    → find (at_offset offset) (from_place (row_in bytes) i (rows_in bytes)) ≡ row_at bytes offset
past_before bytes offset i k before order within walked zero all =
    let same : k ≡ i = omega arith in
    subst (λ (n : ℕ). find (at_offset offset) (from_place (row_in bytes) n (rows_in bytes)) ≡ row_at bytes offset) same walked
past_before bytes offset i k before order within walked (suc left) all =
    let below = before k (omega arith) in
    let other : (row_in bytes k).offset ≢ offset = omega arith in
    past_before bytes offset i (k + 1) before (omega arith) within
    (find-goes_on (at_offset offset) (row_in bytes) k (rows_in bytes) (row_in bytes k) _ walked (omega arith) refl (ne_eqb _ _ other))
    left (omega arith)

found_from : (bytes : List ℕ) (offset i : ℕ) → PartsRows bytes offset i → find (at_offset offset) (from_place (row_in bytes) i (rows_in bytes)) ≡ row_at bytes offset
found_from bytes offset i parts =
    let within = parts.within in
    let count = rows_counted bytes in
    let start : find (at_offset offset) (from_place (row_in bytes) 0 (rows_in bytes)) ≡ row_at bytes offset = at_start (find (at_offset offset)) (row_in bytes) (rows_in bytes) (rows_in bytes) refl in
    past_before bytes offset i 0 parts.before (omega arith) (omega arith) start i (omega arith)

pub parts-found : (bytes : List ℕ) (offset i : ℕ) (row : Row) → PartsRows bytes offset i → i < length (rows_of bytes) → row ≡ row_in bytes i → row.offset ≡ offset → Some row ≡ row_at bytes offset
parts-found bytes offset i row parts below is at =
    find-found (at_offset offset) (row_in bytes) i (rows_in bytes) row _ (found_from bytes offset i parts) (omega (arith, rows_counted bytes)) is (eq-eqb _ _ at)

-- none of the rows behind is found either
past_behind : (bytes : List ℕ) (offset k left : ℕ) → ((j : ℕ) → k ≤ j → j < rows_in bytes → (row_in bytes j).offset ≢ offset) → k + left ≡ rows_in bytes
    → find (at_offset offset) (from_place (row_in bytes) k (rows_in bytes)) ≡ row_at bytes offset → None ≡ row_at bytes offset
past_behind bytes offset k zero others all walked = find-ends (at_offset offset) (row_in bytes) k (rows_in bytes) _ walked (omega arith)
past_behind bytes offset k (suc left) others all walked =
    past_behind bytes offset (k + 1) left (λ j low high. others j (omega arith) high) (omega arith)
    (find-goes_on (at_offset offset) (row_in bytes) k (rows_in bytes) (row_in bytes k) _ walked (omega arith) refl (ne_eqb _ _ (others k (omega arith) (omega arith))))

pub parts-none : (bytes : List ℕ) (offset i : ℕ) → PartsRows bytes offset i → length (rows_of bytes) ≤ i → None ≡ row_at bytes offset
parts-none bytes offset i parts past =
    find-ends (at_offset offset) (row_in bytes) i (rows_in bytes) _ (found_from bytes offset i parts) (omega (arith, rows_counted bytes))

pub parts-other : (bytes : List ℕ) (offset i : ℕ) (row : Row) → IsPage bytes → PartsRows bytes offset i → i < length (rows_of bytes) → row ≡ row_in bytes i → row.offset ≢ offset → None ≡ row_at bytes offset
parts-other bytes offset i row page parts below is other =
    let first = parts.behind i (omega arith) below in
    let same = ap (λ (r : Row). r.offset) is in
    let more : offset < offset_in bytes i = omega arith in
    let others : (j : ℕ) → i ≤ j → j < rows_in bytes → (row_in bytes j).offset ≢ offset = λ j low high. elim (cases_lt i j) [
      | inl late ↦ let order = rows_rise bytes i j page late (omega (arith, rows_counted bytes)) in omega arith
      | inr here ↦ let equal : j ≡ i = omega arith in let at = ap (offset_in bytes) equal in omega arith
    ] in
    past_behind bytes offset i (rows_in bytes - i) others (omega (arith, rows_counted bytes)) (found_from bytes offset i parts)

-- where a row is found, the part is at it
pub parts-there : (bytes : List ℕ) (offset i : ℕ) → IsPage bytes → PartsRows bytes offset i → row_at bytes offset ≢ None → (i < length (rows_of bytes)) × ((row_in bytes i).offset ≡ offset)
parts-there bytes offset i page parts there = elim (cases_lt i (length (rows_of bytes))) [
  | inl below ↦ elim (cases_eq (row_in bytes i).offset offset) [
    | inl same ↦ (below, same)
    | inr other ↦ absurd (there (sym (parts-other bytes offset i (row_in bytes i) page parts below refl other)))
  ]
  | inr past ↦ absurd (there (sym (parts-none bytes offset i parts past)))
]
