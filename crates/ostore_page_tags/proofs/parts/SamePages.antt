-- Good pages with the same header and the same cells are the same.
use Rattle.std.proofs.Common.{◌≡◌, ℕ, zero, suc, ◌+◌, ◌-◌, ◌*◌, ◌/◌, ◌<◌, ◌≤◌, eqb, List, get_or, drop, Some, refl, sym, ap, subst, ◌∙◌, inl, inr, arith}
use Rattle.std.specs.List.{slice_get, flat_map}
use Rattle.std.proofs.lemmas.Bool.{cases_lt, cases_eq}
use Rattle.std.proofs.lemmas.List.{same_lists, get_or-drop, get_or_default}
use Rattle.std.proofs.lemmas.Option.{same_Some}
use Rattle.byteorder.specs.Endian.{little_from}
use Rattle.ostore_base.specs.declared.page.TheConstants.{PAGE_SIZE}
use Rattle.ostore_page_tags.specs.declared.layout.TheConstants.{ROW_BYTES}
use Rattle.ostore_page_tags.specs.declared.page_header.PageHeader.{PageHeader}
use Rattle.ostore_page_tags.specs.declared.tag_rows.Row.{Row}
use Rattle.ostore_page_tags.specs.Numbers.{number_at}
use Rattle.ostore_page_tags.specs.Header.{header_of}
use Rattle.ostore_page_tags.specs.Rows.{row_place, row_in, state_in}
use Rattle.ostore_page_tags.specs.Cells.{Cell, between, cells_of}
use Rattle.ostore_page_tags.specs.Rules.{IsPage}
use Rattle.ostore_page_tags.specs.inside.AreBytes.{AreBytes}
use Rattle.ostore_page_tags.proofs.bytes.ImageLaws.{SameOn, SameOn-within, between_read}
use Rattle.ostore_page_tags.proofs.shape.PageShape.{ZeroOn, rows_in, end_in, offset_in, Shape, IsPage-shape, end_above}
use Rattle.ostore_page_tags.proofs.walks.NthLaws.{slice_get-range}
use Rattle.ostore_page_tags.proofs.parts.CellLaws.{cell_in, cells_are}
use Rattle.ostore_page_tags.proofs.parts.ApartLaws.{cells-between}

low_and_high : (a b c d : ℕ) → a < 256 → c < 256 → a + 256 * b ≡ c + 256 * d → (a ≡ c) × (b ≡ d)
low_and_high a b c d small also same = (omega arith, omega arith)

-- equal numbers have equal bytes
bytes_of-number : (i n : ℕ) (first second : List ℕ) → AreBytes first → AreBytes second → little_from i n first ≡ little_from i n second → (k : ℕ) → i ≤ k → k < i + n → get_or first k 0 ≡ get_or second k 0
bytes_of-number i zero first second one two same k low high = absurd (omega arith)
bytes_of-number i (suc n) first second one two same k low high =
    let parts = low_and_high (get_or first i 0) (little_from (suc i) n first) (get_or second i 0) (little_from (suc i) n second) (one.each i) (two.each i) same in
    elim (cases_eq i k) [
      | inl here ↦ subst (λ (j : ℕ). get_or first j 0 ≡ get_or second j 0) here parts.0
      | inr later ↦ bytes_of-number (suc i) n first second one two parts.1 k (omega arith) (omega arith)
    ]

AreBytes-drop : (n : ℕ) (bytes : List ℕ) → AreBytes bytes → AreBytes (drop n bytes)
AreBytes-drop n bytes are = record { each = λ k. subst (λ (b : ℕ). b < 256) (sym (get_or-drop n bytes k 0)) (are.each (n + k)) }

SameOn-number : (n place : ℕ) (first second : List ℕ) → AreBytes first → AreBytes second → number_at n place first ≡ number_at n place second → SameOn place (place + n) first second
SameOn-number n place first second one two same = record {
  bytes = λ k low high.
      let at : place + (k - place) ≡ k = omega arith in
      subst (λ (j : ℕ). get_or first j 0 ≡ get_or second j 0) at
      (sym (get_or-drop place first (k - place) 0)
      ∙ bytes_of-number 0 n (drop place first) (drop place second) (AreBytes-drop place first one) (AreBytes-drop place second two) same (k - place) (omega arith) (omega arith)
      ∙ get_or-drop place second (k - place) 0);
}

SameOn-join : (start middle stop : ℕ) (first second : List ℕ) → SameOn start middle first second → SameOn middle stop first second → SameOn start stop first second
SameOn-join start middle stop first second front back = record {
  bytes = λ k low high. elim (cases_lt k middle) [
    | inl early ↦ front.bytes k low early
    | inr late ↦ back.bytes k late high
  ];
}

SameOn-zeros : (start stop : ℕ) (first second : List ℕ) → ZeroOn start stop first → ZeroOn start stop second → SameOn start stop first second
SameOn-zeros start stop first second one two = record { bytes = λ k low high. one.zeros k low high ∙ sym (two.zeros k low high) }

SameOn-between : (start stop : ℕ) (first second : List ℕ) → between start stop first ≡ between start stop second → SameOn start stop first second
SameOn-between start stop first second same = record {
  bytes = λ k low high.
      let at : start + (k - start) ≡ k = omega arith in
      subst (λ (j : ℕ). get_or first j 0 ≡ get_or second j 0) at
      (sym (between_read start stop (k - start) first (omega arith)) ∙ ap (λ (l : List ℕ). get_or l (k - start) 0) same ∙ between_read start stop (k - start) second (omega arith));
}

-- the header's bytes, but for those that no field has
same_fields : (first second : List ℕ) → AreBytes first → AreBytes second → header_of first ≡ header_of second → number_at 2 6 first ≡ number_at 2 6 second → SameOn 0 20 first second
same_fields first second one two header spare =
    SameOn-join 0 16 20 first second (SameOn-join 0 12 16 first second (SameOn-join 0 8 12 first second (SameOn-join 0 6 8 first second
    (SameOn-join 0 4 6 first second (SameOn-join 0 2 4 first second (SameOn-join 0 1 2 first second
    (SameOn-number 1 0 first second one two (ap (λ (h : PageHeader). h.kind) header))
    (SameOn-number 1 1 first second one two (ap (λ (h : PageHeader). h.segment) header)))
    (SameOn-number 2 2 first second one two (ap (λ (h : PageHeader). h.rows) header)))
    (SameOn-number 2 4 first second one two (ap (λ (h : PageHeader). h.end) header)))
    (SameOn-number 2 6 first second one two spare))
    (SameOn-number 4 8 first second one two (ap (λ (h : PageHeader). h.next) header)))
    (SameOn-number 4 12 first second one two (ap (λ (h : PageHeader). h.last_serial) header)))
    (SameOn-number 4 16 first second one two (ap (λ (h : PageHeader). h.last_page) header))

-- a state is its row's, since there are two
same_state : (first second : ℕ) → first ≤ 1 → second ≤ 1 → eqb first 1 ≡ eqb second 1 → first ≡ second
same_state zero zero small also same = refl
same_state zero (suc zero) small also same = absurd cc
same_state (suc zero) zero small also same = absurd cc
same_state (suc zero) (suc zero) small also same = refl
same_state (suc (suc n)) second small also same = absurd (omega arith)
same_state first (suc (suc n)) small also same = absurd (omega arith)

-- the rows of the same cells are the same
same_row : (first second : List ℕ) → rows_in first ≡ rows_in second → cells_of first ≡ cells_of second → (i : ℕ) → i < rows_in first → row_in first i ≡ row_in second i
same_row first second rows cells i below =
    let one : slice_get (cells_of first) i ≡ Some (cell_in (rows_in first) (end_in first) first (row_in first) i) =
    ap (λ l. slice_get l i) (cells_are (rows_in first) (end_in first) first refl refl) ∙ slice_get-range (cell_in (rows_in first) (end_in first) first (row_in first)) (rows_in first) i below in
    let two : slice_get (cells_of second) i ≡ Some (cell_in (rows_in second) (end_in second) second (row_in second) i) =
    ap (λ l. slice_get l i) (cells_are (rows_in second) (end_in second) second refl refl) ∙ slice_get-range (cell_in (rows_in second) (end_in second) second (row_in second)) (rows_in second) i (omega arith) in
    ap (λ (c : Cell). c.row) (same_Some _ _ (sym one ∙ ap (λ (l : List Cell). slice_get l i) cells ∙ two))

same_row_bytes : (first second : List ℕ) (i : ℕ) → AreBytes first → AreBytes second → state_in first i ≤ 1 → state_in second i ≤ 1 → row_in first i ≡ row_in second i → SameOn (row_place i) (row_place i + ROW_BYTES) first second
same_row_bytes first second i one two small also same =
    let at : ℕ = row_place i in
    let state : state_in first i ≡ state_in second i = same_state (state_in first i) (state_in second i) small also (ap (λ (r : Row). r.live) same) in
    let tag = SameOn-number 1 (at + 2) first second one two (ap (λ (r : Row). r.code) same) in
    let mark = SameOn-number 1 (at + 3) first second one two state in
    let serial = SameOn-number 4 (at + 4) first second one two (ap (λ (r : Row). r.serial) same) in
    SameOn-join at (at + 4) (at + 8) first second (SameOn-join at (at + 3) (at + 4) first second (SameOn-join at (at + 2) (at + 3) first second
    (SameOn-number 2 at first second one two (ap (λ (r : Row). r.offset) same))
    (SameOn-within (at + 2) (at + 2 + 1) (at + 2) (at + 3) first second tag (omega arith) (omega arith)))
    (SameOn-within (at + 3) (at + 3 + 1) (at + 3) (at + 4) first second mark (omega arith) (omega arith)))
    (SameOn-within (at + 4) (at + 4 + 4) (at + 4) (at + 8) first second serial (omega arith) (omega arith))

same_rows : (first second : List ℕ) → Shape first → Shape second → AreBytes first → AreBytes second → rows_in first ≡ rows_in second → cells_of first ≡ cells_of second → SameOn (PAGE_SIZE - ROW_BYTES * rows_in first) PAGE_SIZE first second
same_rows first second shape other one two rows cells =
    let room = shape.room in
    record {
      bytes = λ k low high.
          let i : ℕ = (4095 - k) / 8 in
          let below : i < rows_in first = omega arith in
          (same_row_bytes first second i one two (shape.states i below) (other.states i (omega arith)) (same_row first second rows cells i below)).bytes k (omega arith) (omega arith);
    }

pub same_pages : (first second : List ℕ) → IsPage first → IsPage second → AreBytes first → AreBytes second → header_of first ≡ header_of second → cells_of first ≡ cells_of second → first ≡ second
same_pages first second page other one two header cells =
    let shape = IsPage-shape first page in
    let also = IsPage-shape second other in
    let whole = shape.whole in
    let as_whole = also.whole in
    let room = shape.room in
    let rows : rows_in first ≡ rows_in second = ap (λ (h : PageHeader). h.rows) header in
    let end : end_in first ≡ end_in second = ap (λ (h : PageHeader). h.end) header in
    let above : 32 ≤ end_in first = end_above (rows_in first) (end_in first) (offset_in first) shape.offsets in
    let stop : ℕ = PAGE_SIZE - ROW_BYTES * rows_in first in
    let fields = same_fields first second one two header (shape.spare ∙ sym also.spare) in
    let tail = SameOn-zeros 20 32 first second shape.tail also.tail in
    let same : between 32 (end_in first) first ≡ between 32 (end_in first) second =
    sym (cells-between first page) ∙ ap (flat_map (λ c. c.bytes)) cells ∙ cells-between second other ∙ ap (λ (e : ℕ). between 32 e second) (sym end) in
    let held = SameOn-between 32 (end_in first) first second same in
    let gap : SameOn (end_in first) stop first second = record {
      bytes = λ k low high. shape.gap.zeros k (omega arith) (omega arith) ∙ sym (also.gap.zeros k (omega arith) (omega arith));
    } in
    let all = SameOn-join 0 stop PAGE_SIZE first second (SameOn-join 0 (end_in first) stop first second (SameOn-join 0 32 (end_in first) first second (SameOn-join 0 20 32 first second fields tail) held) gap)
    (same_rows first second shape also one two rows cells) in
    same_lists first second (whole ∙ sym as_whole) (λ k d below.
    get_or_default first k d 0 below ∙ all.bytes k (omega arith) (omega arith) ∙ get_or_default second k 0 d (omega arith))
