-- What a dead state and zeros in a cell make of a good page.
use Rattle.std.proofs.Common.{◌≡◌, ◌≢◌, ℕ, ◌+◌, ◌-◌, ◌*◌, ◌%◌, ◌<◌, ◌≤◌, Bool, true, false, cond, eqb, List, length, get_or, map, replicate, Some, None, refl, sym, ap, subst, ◌∙◌, arith, inl, inr}
use Rattle.std.specs.List.{find, slice_get}
use Rattle.std.specs.Option.{option_map}
use Rattle.std.proofs.lemmas.Bool.{cases_lt, cases_eq, eq-eqb, ne_eqb}
use Rattle.std.proofs.lemmas.List.{length-replicate, get_or-replicate}
use Rattle.std.proofs.lemmas.List.FromFn.{length-map-range_with_len}
use Rattle.ostore_base.specs.Disk.{replaced}
use Rattle.ostore_base.specs.declared.page.TheConstants.{PAGE_SIZE}
use Rattle.ostore_page_tags.specs.declared.layout.TheConstants.{ROW_BYTES}
use Rattle.ostore_page_tags.specs.declared.page_header.PageHeader.{PageHeader}
use Rattle.ostore_page_tags.specs.declared.tag_rows.Row.{Row}
use Rattle.ostore_page_tags.specs.Numbers.{number_at, with_number}
use Rattle.ostore_page_tags.specs.Header.{header_of}
use Rattle.ostore_page_tags.specs.Rows.{row_place, row_in, state_in, rows_of}
use Rattle.ostore_page_tags.specs.Cells.{Cell, between, cell_to, cells_of}
use Rattle.ostore_page_tags.specs.Rules.{is_tag, IsPage}
use Rattle.ostore_page_tags.specs.Changes.{zeroed_cell, dead_row, dead_at, MarksDead}
use Rattle.ostore_page_tags.proofs.bytes.ImageLaws.{SameOn, SameOn-within, SameOn-trans, number_at-same, between-same, length-between, between_read, between-replaced_at, length-replaced_within, SameOn-replaced_before, SameOn-replaced_behind, length-with_number, number_at-with_number, SameOn-with_number_before, SameOn-with_number_behind}
use Rattle.ostore_page_tags.proofs.shape.RangeLaws.{map-range-same, map-map-range}
use Rattle.ostore_page_tags.proofs.shape.PageShape.{ZeroOn, Offsets, rows_in, end_in, offset_in, Shape, IsPage-shape, shape-IsPage, offset_above, offset_order, stop_at, stop_more, stop_last, cell_range, cell_before}
use Rattle.ostore_page_tags.proofs.walks.RowLaws.{from_place, find-goes_on, find-ends}
use Rattle.ostore_page_tags.proofs.walks.NthLaws.{slice_get-range}
use Rattle.ostore_page_tags.proofs.parts.CellLaws.{ZeroOn-same, between-zeros, header_of-same, row_same, row_in-same, state_in-same, cell_in, cells_are, cell_same, cell_made}

-- where the cell of row i stops
abbrev pub stop_in : List ℕ → ℕ → ℕ
stop_in bytes i = stop_at (rows_in bytes) (end_in bytes) (offset_in bytes) i

-- the state of row i was written as dead and the bytes of its cell as zeros, and other bytes stay
pub record IsMarked (old new : List ℕ) (i : ℕ) : Type 0 where
  pub long : length new ≡ length old
  pub below : i < rows_in old
  pub before : SameOn 0 (offset_in old i) new old
  pub zeros : ZeroOn (offset_in old i) (stop_in old i) new
  pub middle : SameOn (stop_in old i) (row_place i + 3) new old
  pub state : state_in new i ≡ 0
  pub behind : SameOn (row_place i + 4) PAGE_SIZE new old

-- another row is as it was
marked_other : (old new : List ℕ) (i : ℕ) → Shape old → IsMarked old new i → (j : ℕ) → j < rows_in old → j ≢ i → SameOn (row_place j) (row_place j + ROW_BYTES) new old
marked_other old new i shape change j below other =
    let room = shape.room in
    let range = cell_range (rows_in old) (end_in old) (offset_in old) shape.offsets i change.below in
    elim (cases_lt j i) [
      | inl early ↦ SameOn-within (row_place i + 4) PAGE_SIZE (row_place j) (row_place j + ROW_BYTES) new old change.behind (omega arith) (omega arith)
      | inr late ↦ let after : i < j = omega arith in let behind = change.below in SameOn-within (stop_in old i) (row_place i + 3) (row_place j) (row_place j + ROW_BYTES) new old change.middle (omega (arith, range.most)) (omega arith)
    ]

-- the row itself is the dead one
marked_row : (old new : List ℕ) (i : ℕ) → Shape old → IsMarked old new i → row_in new i ≡ dead_row (row_in old i)
marked_row old new i shape change =
    let at : ℕ = row_place i in
    let room = shape.room in
    let below = change.below in
    let range = cell_range (rows_in old) (end_in old) (offset_in old) shape.offsets i change.below in
    let most = range.most in
    let offset = number_at-same 2 at new old (SameOn-within (stop_in old i) (at + 3) at (at + 2) new old change.middle (omega arith) (omega arith)) in
    let code = number_at-same 1 (at + 2) new old (SameOn-within (stop_in old i) (at + 3) (at + 2) (at + 2 + 1) new old change.middle (omega arith) (omega arith)) in
    let serial = number_at-same 4 (at + 4) new old (SameOn-within (at + 4) PAGE_SIZE (at + 4) (at + 4 + 4) new old change.behind (omega arith) (omega arith)) in
    row_same _ _ _ _ (dead_row (row_in old i)) offset code (ap (λ s. eqb s 1) change.state) serial

marked_header : (old new : List ℕ) (i : ℕ) → Shape old → IsMarked old new i → header_of new ≡ header_of old
marked_header old new i shape change =
    let above = offset_above (rows_in old) (end_in old) (offset_in old) shape.offsets i change.below in
    header_of-same new old (SameOn-within 0 (offset_in old i) 0 20 new old change.before (omega arith) (omega arith))

-- each row has the offset, code and serial that it had
marked_fields : (old new : List ℕ) (i : ℕ) → Shape old → IsMarked old new i → (j : ℕ) → j < rows_in old → (offset_in new j ≡ offset_in old j) × ((row_in new j).code ≡ (row_in old j).code) × ((row_in new j).serial ≡ (row_in old j).serial)
marked_fields old new i shape change j below = elim (cases_eq j i) [
  | inl same ↦
      subst (λ (k : ℕ). (offset_in new k ≡ offset_in old k) × ((row_in new k).code ≡ (row_in old k).code) × ((row_in new k).serial ≡ (row_in old k).serial)) (sym same)
      (let row = marked_row old new i shape change in
      (ap (λ (r : Row). r.offset) row, ap (λ (r : Row). r.code) row, ap (λ (r : Row). r.serial) row))
  | inr other ↦
      let row = row_in-same j new old (marked_other old new i shape change j below other) in
      (ap (λ (r : Row). r.offset) row, ap (λ (r : Row). r.code) row, ap (λ (r : Row). r.serial) row)
]

-- offsets that are the same have the same law
pub offsets_moved : (rows end : ℕ) (offset more : ℕ → ℕ) → Offsets rows end offset → ((i : ℕ) → i < rows → more i ≡ offset i) → Offsets rows end more
offsets_moved rows end offset more law same = record {
  first = λ some. same 0 some ∙ law.first some;
  rise = λ i below. subst (λ (n : ℕ). (more i < n) × ((n - more i) % 4 ≡ 0)) (sym (same (i + 1) below)) (subst (λ (m : ℕ). (m < offset (i + 1)) × ((offset (i + 1) - m) % 4 ≡ 0)) (sym (same i (omega arith))) (law.rise i below));
  none = law.none;
  last = λ i at. let equal = same i (omega arith) in let under = law.last i at in omega arith;
  end_fours = law.end_fours;
}

marked_shape : (old new : List ℕ) (i : ℕ) → Shape old → IsMarked old new i → Shape new
marked_shape old new i shape change =
    let header = marked_header old new i shape change in
    let rows : rows_in new ≡ rows_in old = ap (λ (h : PageHeader). h.rows) header in
    let end : end_in new ≡ end_in old = ap (λ (h : PageHeader). h.end) header in
    let kind : (header_of new).kind ≡ (header_of old).kind = ap (λ (h : PageHeader). h.kind) header in
    let room = shape.room in
    let below = change.below in
    let range = cell_range (rows_in old) (end_in old) (offset_in old) shape.offsets i change.below in
    let above = range.above in
    let some = range.some in
    let most = range.most in
    let fields = marked_fields old new i shape change in
    let law : Offsets (rows_in old) (end_in old) (offset_in new) = offsets_moved (rows_in old) (end_in old) (offset_in old) (offset_in new) shape.offsets (λ j low. (fields j low).0) in
    record {
      whole = change.long ∙ shape.whole;
      kind = kind ∙ shape.kind;
      spare = number_at-same 2 6 new old (SameOn-within 0 (offset_in old i) 6 8 new old change.before (omega arith) (omega arith)) ∙ shape.spare;
      tail = ZeroOn-same 20 32 new old shape.tail (SameOn-within 0 (offset_in old i) 20 32 new old change.before (omega arith) (omega arith));
      gap = record { zeros = λ k low high. change.middle.bytes k (omega arith) (omega arith) ∙ shape.gap.zeros k (omega arith) (omega arith) };
      room = omega arith;
      offsets = subst (λ (m : ℕ). Offsets m (end_in new) (offset_in new)) (sym rows) (subst (λ (m : ℕ). Offsets (rows_in old) m (offset_in new)) (sym end) law);
      states = λ j low. elim (cases_eq j i) [
        | inl same ↦ subst (λ (k : ℕ). state_in new k ≤ 1) (sym same) (let dead = change.state in omega arith)
        | inr other ↦
            let equal = state_in-same j new old (marked_other old new i shape change j (omega arith) other) in
            let was = shape.states j (omega arith) in
            omega arith
      ];
      tags = λ j low.
          let equal = fields j (omega arith) in
          subst (λ (c : ℕ). is_tag c (row_in new j).serial ≡ true) (sym equal.1) (subst (λ (s : ℕ). is_tag (row_in old j).code s ≡ true) (sym equal.2) (shape.tags j (omega arith)));
    }

-- a cell's stop is where it was
marked_stop : (old new : List ℕ) (i : ℕ) → Shape old → IsMarked old new i → (j : ℕ) → j < rows_in old → stop_at (rows_in old) (end_in old) (offset_in new) j ≡ stop_in old j
marked_stop old new i shape change j below = elim (cases_lt (j + 1) (rows_in old)) [
  | inl more ↦ stop_more (rows_in old) (end_in old) (offset_in new) j more ∙ (marked_fields old new i shape change (j + 1) more).0 ∙ sym (stop_more (rows_in old) (end_in old) (offset_in old) j more)
  | inr last ↦ stop_last (rows_in old) (end_in old) (offset_in new) j last ∙ sym (stop_last (rows_in old) (end_in old) (offset_in old) j last)
]

-- another cell's bytes are as they were
marked_bytes : (old new : List ℕ) (i : ℕ) → Shape old → IsMarked old new i → (j : ℕ) → j < rows_in old → j ≢ i → SameOn (offset_in old j) (stop_in old j) new old
marked_bytes old new i shape change j below other =
    let rows = rows_in old in
    let end = end_in old in
    let law = shape.offsets in
    let room = shape.room in
    let there = change.below in
    let range = cell_range rows end (offset_in old) law j below in
    elim (cases_lt j i) [
      | inl early ↦
          let order = cell_before rows end (offset_in old) law j i early change.below in
          SameOn-within 0 (offset_in old i) (offset_in old j) (stop_in old j) new old change.before (omega arith) order
      | inr late ↦
          let order = cell_before rows end (offset_in old) law i j (omega arith) below in
          SameOn-within (stop_in old i) (row_place i + 3) (offset_in old j) (stop_in old j) new old change.middle order (omega (arith, range.most))
    ]

-- the cell of row j, as it is now
marked_cell : (old new : List ℕ) (i : ℕ) → Shape old → IsMarked old new i → (j : ℕ) → j < rows_in old
    → cell_in (rows_in old) (end_in old) new (row_in new) j ≡ dead_at (offset_in old i) (cell_in (rows_in old) (end_in old) old (row_in old) j)
marked_cell old new i shape change j below =
    let rows = rows_in old in
    let end = end_in old in
    let law = shape.offsets in
    let room = shape.room in
    let whole = shape.whole in
    let long = change.long in
    let range = cell_range rows end (offset_in old) law j below in
    let most = range.most in
    let was : Cell = cell_in rows end old (row_in old) j in
    let stop = marked_stop old new i shape change j below in
    elim (cases_eq j i) [
      | inl same ↦
          let hit : eqb (offset_in old j) (offset_in old i) ≡ true = eq-eqb _ _ (ap (offset_in old) same) in
          let row : row_in new j ≡ dead_row (row_in old j) = subst (λ (k : ℕ). row_in new k ≡ dead_row (row_in old k)) (sym same) (marked_row old new i shape change) in
          let zero_there : ZeroOn (offset_in old j) (stop_in old j) new = subst (λ (k : ℕ). ZeroOn (offset_in old k) (stop_in old k) new) (sym same) change.zeros in
          let size : stop_in old j - offset_in old j ≡ length (between (offset_in old j) (stop_in old j) old) = sym (length-between (offset_in old j) (stop_in old j) old (omega arith)) in
          let bytes : between (offset_in old j) (stop_in old j) new ≡ replicate (length (between (offset_in old j) (stop_in old j) old)) 0 =
          between-zeros (offset_in old j) (stop_in old j) new (omega arith) zero_there ∙ ap (λ (m : ℕ). replicate m 0) size in
          let made : cell_in rows end new (row_in new) j ≡ zeroed_cell (dead_row (row_in old j)) (length was.bytes) =
          ap (λ (s : ℕ). cell_to s new (row_in new j)) stop ∙ ap (λ (r : Row). cell_to (stop_in old j) new r) row ∙ ap (λ (b : List ℕ). cell_made (dead_row (row_in old j)) b) bytes in
          made ∙ ap (λ (b : Bool). cond b (zeroed_cell (dead_row was.row) (length was.bytes)) was) (sym hit)
      | inr other ↦
          let apart : offset_in old j ≡ offset_in old i → ⊥ = λ e. elim (cases_lt j i) [
            | inl early ↦ let order = offset_order rows end (offset_in old) law j i early change.below in omega arith
            | inr late ↦ let order = offset_order rows end (offset_in old) law i j (omega arith) below in omega arith
          ] in
          let miss : eqb (offset_in old j) (offset_in old i) ≡ false = ne_eqb _ _ apart in
          let row = row_in-same j new old (marked_other old new i shape change j below other) in
          cell_same _ _ new old (row_in new j) (row_in old j) row stop
          (between-same (offset_in old j) (stop_in old j) new old (omega arith) (omega arith) (marked_bytes old new i shape change j below other))
          ∙ ap (λ (b : Bool). cond b (zeroed_cell (dead_row was.row) (length was.bytes)) was) (sym miss)
    ]

pub marked-MarksDead : (old new : List ℕ) (i : ℕ) → IsPage old → IsMarked old new i → MarksDead old new (offset_in old i)
marked-MarksDead old new i page change =
    let shape = IsPage-shape old page in
    let header = marked_header old new i shape change in
    let rows : rows_in new ≡ rows_in old = ap (λ (h : PageHeader). h.rows) header in
    let end : end_in new ≡ end_in old = ap (λ (h : PageHeader). h.end) header in
    record {
      header = header;
      cells = cells_are (rows_in old) (end_in old) new rows end
          ∙ map-range-same (cell_in (rows_in old) (end_in old) new (row_in new)) (λ j. dead_at (offset_in old i) (cell_in (rows_in old) (end_in old) old (row_in old) j)) 0 (rows_in old) (λ j low high. marked_cell old new i shape change j (omega arith))
          ∙ sym (map-map-range (dead_at (offset_in old i)) (cell_in (rows_in old) (end_in old) old (row_in old)) 0 (rows_in old))
          ∙ ap (map (dead_at (offset_in old i))) (sym (cells_are (rows_in old) (end_in old) old refl refl));
      page = shape-IsPage new (marked_shape old new i shape change);
    }

-- ---- the search for a row

pub IsPage-rows : (bytes : List ℕ) → IsPage bytes → ROW_BYTES * rows_in bytes ≤ PAGE_SIZE
IsPage-rows bytes page = let room = (IsPage-shape bytes page).room in omega arith

-- a row from row i on has the offset
abbrev pub HasRowFrom : List ℕ → ℕ → ℕ → Type 0
HasRowFrom bytes offset i = find (λ row. eqb row.offset offset) (from_place (row_in bytes) i (rows_in bytes)) ≢ None

pub has_row_left : (bytes : List ℕ) (offset i : ℕ) → HasRowFrom bytes offset i → i < rows_in bytes
has_row_left bytes offset i there = elim (cases_lt i (rows_in bytes)) [
  | inl below ↦ below
  | inr past ↦ absurd (there (sym (find-ends (λ row. eqb row.offset offset) (row_in bytes) i (rows_in bytes) _ refl past)))
]

pub has_row_next : (bytes : List ℕ) (offset i : ℕ) (row : Row) → row ≡ row_in bytes i → row.offset ≢ offset → HasRowFrom bytes offset i → HasRowFrom bytes offset (i + 1)
has_row_next bytes offset i row is other there =
    let below = has_row_left bytes offset i there in
    λ none. there (sym (find-goes_on (λ row. eqb row.offset offset) (row_in bytes) i (rows_in bytes) row _ refl below is (ne_eqb _ _ other)) ∙ none)

pub has_row_length : (bytes : List ℕ) (offset i : ℕ) → HasRowFrom bytes offset i → i < length (rows_of bytes)
has_row_length bytes offset i there = omega (arith, has_row_left bytes offset i there, length-map-range_with_len (row_in bytes) 0 (rows_in bytes))

some_same : (a b : ℕ) → Some a ≡ Some b → b ≡ a
some_same a b e = cc

-- the end of a cell is where it stops
pub cell_end-stop : (bytes : List ℕ) (i end : ℕ) → IsPage bytes → i < rows_in bytes → option_map (λ cell. cell.row.offset + length cell.bytes) (slice_get (cells_of bytes) i) ≡ Some end → end ≡ stop_in bytes i
cell_end-stop bytes i end page below told =
    let shape = IsPage-shape bytes page in
    let cell = cell_in (rows_in bytes) (end_in bytes) bytes (row_in bytes) in
    let room = shape.room in
    let whole = shape.whole in
    let range = cell_range (rows_in bytes) (end_in bytes) (offset_in bytes) shape.offsets i below in
    let most = range.most in
    let some = range.some in
    let found : slice_get (cells_of bytes) i ≡ Some (cell i) =
    ap (λ l. slice_get l i) (cells_are (rows_in bytes) (end_in bytes) bytes refl refl) ∙ slice_get-range cell (rows_in bytes) i below in
    let long : length (between (offset_in bytes i) (stop_in bytes i) bytes) ≡ stop_in bytes i - offset_in bytes i = length-between (offset_in bytes i) (stop_in bytes i) bytes (omega arith) in
    let equal : Some (offset_in bytes i + length (between (offset_in bytes i) (stop_in bytes i) bytes)) ≡ Some end =
    ap (option_map (λ c. c.row.offset + length c.bytes)) (sym found) ∙ told in
    let value = some_same _ end equal in
    omega arith

-- ---- the state and the zeros as they are written

zeros_replaced : (start size : ℕ) (held : List ℕ) → start + size ≤ length held → ZeroOn start (start + size) (replaced start (replicate size 0) held)
zeros_replaced start size held within =
    let count : length (replicate {A = ℕ} size 0) ≡ size = length-replicate size 0 in
    let new : List ℕ = replaced start (replicate size 0) held in
    let read : between start (start + size) new ≡ replicate size 0 =
    ap (λ (n : ℕ). between start (start + n) new) (sym count) ∙ between-replaced_at start (replicate size 0) held (omega arith) in
    record {
      zeros = λ k low high.
          let at : start + (k - start) ≡ k = omega arith in
          ap (λ (i : ℕ). get_or new i 0) (sym at) ∙ sym (between_read start (start + size) (k - start) new (omega arith))
          ∙ ap (λ (l : List ℕ). get_or l (k - start) 0) read ∙ get_or-replicate size (k - start) 0 0 (omega arith);
    }

marked_from : (old mid : List ℕ) (i : ℕ) → IsPage old → i < rows_in old → mid ≡ with_number 1 (row_place i + 3) 0 old
    → IsMarked old (replaced (offset_in old i) (replicate (stop_in old i - offset_in old i) 0) mid) i
marked_from old mid i page below state =
    let shape = IsPage-shape old page in
    let room = shape.room in
    let whole = shape.whole in
    let range = cell_range (rows_in old) (end_in old) (offset_in old) shape.offsets i below in
    let some = range.some in
    let most = range.most in
    let start : ℕ = offset_in old i in
    let stop : ℕ = stop_in old i in
    let size : ℕ = stop - start in
    let upto : start + size ≡ stop = omega arith in
    let at : ℕ = row_place i + 3 in
    let zeros : List ℕ = replicate size 0 in
    let count : length (replicate {A = ℕ} size 0) ≡ size = length-replicate size 0 in
    let new : List ℕ = replaced start zeros mid in
    let kept : length mid ≡ length old = ap length state ∙ length-with_number 1 at 0 old (omega arith) in
    let mid_before : SameOn 0 at mid old = subst (λ (m : List ℕ). SameOn 0 at m old) (sym state) (SameOn-with_number_before 1 at 0 0 at old (omega arith) (omega arith)) in
    let mid_behind : SameOn (at + 1) PAGE_SIZE mid old = subst (λ (m : List ℕ). SameOn (at + 1) PAGE_SIZE m old) (sym state) (SameOn-with_number_behind 1 at 0 (at + 1) PAGE_SIZE old (omega arith) (omega arith)) in
    let new_before : SameOn 0 start new mid = SameOn-replaced_before start 0 start zeros mid (omega arith) (omega arith) in
    let new_behind : SameOn stop PAGE_SIZE new mid = SameOn-replaced_behind start stop PAGE_SIZE zeros mid (omega arith) (omega arith) in
    let dead : number_at 1 at mid ≡ 0 = ap (number_at 1 at) state ∙ number_at-with_number 1 at 0 old (omega arith) (omega arith) in
    record {
      long = length-replaced_within start zeros mid (omega arith) ∙ kept;
      below = below;
      before = SameOn-trans 0 start new mid old new_before (SameOn-within 0 at 0 start mid old mid_before (omega arith) (omega arith));
      zeros = subst (λ (s : ℕ). ZeroOn start s new) upto (zeros_replaced start size mid (omega arith));
      middle = SameOn-trans stop at new mid old (SameOn-within stop PAGE_SIZE stop at new mid new_behind (omega arith) (omega arith)) (SameOn-within 0 at stop at mid old mid_before (omega arith) (omega arith));
      state = number_at-same 1 at new mid (SameOn-within stop PAGE_SIZE at (at + 1) new mid new_behind (omega arith) (omega arith)) ∙ dead;
      behind = SameOn-within (at + 1) PAGE_SIZE (row_place i + 4) PAGE_SIZE new old (SameOn-trans (at + 1) PAGE_SIZE new mid old (SameOn-within stop PAGE_SIZE (at + 1) PAGE_SIZE new mid new_behind (omega arith) (omega arith)) mid_behind) (omega arith) (omega arith);
    }

-- the number of a row that is there
row_below : (bytes : List ℕ) (i : ℕ) → i < length (rows_of bytes) → i < rows_in bytes
row_below bytes i there = omega (arith, length-map-range_with_len (row_in bytes) 0 (rows_in bytes))

-- a row lies in the page, and its cell too
pub mark_range : (bytes : List ℕ) (i offset end : ℕ) → IsPage bytes → i < length (rows_of bytes) → offset_in bytes i ≡ offset
    → option_map (λ cell. cell.row.offset + length cell.bytes) (slice_get (cells_of bytes) i) ≡ Some end → (ROW_BYTES * (i + 1) ≤ PAGE_SIZE) × (offset ≤ end) × (end ≤ PAGE_SIZE)
mark_range bytes i offset end page there at told =
    let below = row_below bytes i there in
    let shape = IsPage-shape bytes page in
    let room = shape.room in
    let range = cell_range (rows_in bytes) (end_in bytes) (offset_in bytes) shape.offsets i below in
    let some = range.some in
    let most = range.most in
    let stop = cell_end-stop bytes i end page below told in
    (omega arith, omega arith, omega arith)

pub written-MarksDead : (old mid new : List ℕ) (i offset end place : ℕ) → IsPage old → i < length (rows_of old) → offset_in old i ≡ offset
    → option_map (λ cell. cell.row.offset + length cell.bytes) (slice_get (cells_of old) i) ≡ Some end → place ≡ row_place i
    → mid ≡ with_number 1 (place + 3) 0 old → new ≡ replaced offset (replicate (end - offset) 0) mid → MarksDead old new offset
written-MarksDead old mid new i offset end place page there at told spot state zeros =
    let below = row_below old i there in
    let stop : end ≡ stop_in old i = cell_end-stop old i end page below told in
    let state : mid ≡ with_number 1 (row_place i + 3) 0 old = subst (λ (p : ℕ). mid ≡ with_number 1 (p + 3) 0 old) spot state in
    let bytes : new ≡ replaced (offset_in old i) (replicate (stop_in old i - offset_in old i) 0) mid =
    zeros ∙ ap (λ (e : ℕ). replaced offset (replicate (e - offset) 0) mid) stop ∙ ap (λ (o : ℕ). replaced o (replicate (stop_in old i - o) 0) mid) (sym at) in
    let change : IsMarked old new i = subst (λ (b : List ℕ). IsMarked old b i) (sym bytes) (marked_from old mid i page below state) in
    subst (λ (o : ℕ). MarksDead old new o) at (marked-MarksDead old new i page change)
