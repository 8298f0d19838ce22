-- What an added row and a raised end make of a good page.
use Rattle.std.proofs.Common.{◌≡◌, ℕ, ◌+◌, ◌-◌, ◌*◌, ◌%◌, ◌<◌, ◌≤◌, max, true, List, [], ◌∷◌, ◌++◌, length, map, replicate, refl, sym, ap, subst, ◌∙◌, arith, inl, inr}
use Rattle.std.specs.List.{range_with_len}
use Rattle.std.proofs.lemmas.Bool.{cases_lt, cases_eq}
use Rattle.std.proofs.lemmas.List.FromFn.{map-range_with_len_more}
use Rattle.ostore_base.specs.declared.page.TheConstants.{PAGE_SIZE}
use Rattle.ostore_page_tags.specs.declared.layout.TheConstants.{ROW_BYTES}
use Rattle.ostore_page_tags.specs.declared.page_header.PageHeader.{PageHeader}
use Rattle.ostore_page_tags.specs.declared.tag_rows.Row.{Row}
use Rattle.ostore_page_tags.specs.Header.{header_of, with_header}
use Rattle.ostore_page_tags.specs.Rows.{row_place, row_in, state_in}
use Rattle.ostore_page_tags.specs.inside.WithRow.{with_row}
use Rattle.ostore_page_tags.specs.Cells.{Cell, between, cell_to, cells_of}
use Rattle.ostore_page_tags.specs.Rules.{is_tag, IsPage}
use Rattle.ostore_page_tags.specs.Changes.{IsCellAsked, live_row, zeroed_cell, grown, AddsCell}
use Rattle.ostore_page_tags.proofs.bytes.ImageLaws.{SameOn, SameOn-within, SameOn-trans, Keeps, number_at-same, between-same, with_header-spare, with_header-behind}
use Rattle.ostore_page_tags.proofs.shape.RangeLaws.{map-range-same}
use Rattle.ostore_page_tags.proofs.shape.PageShape.{Offsets, rows_in, end_in, offset_in, Shape, IsPage-shape, shape-IsPage, offset_below, offset_fours, end_above, stop_at, stop_more, stop_last, cell_range}
use Rattle.ostore_page_tags.proofs.parts.CellLaws.{ZeroOn-within, ZeroOn-same, between-zeros, row_in-same, state_in-same, cell_in, cells_are, cell_same, cell_made, IsRowWide, with_row-before, with_row-behind, row_in-with_row}

-- the row and the header of a cell were written into a page with room for them, and other bytes stay
pub record IsGrown (old new : List ℕ) (size code serial : ℕ) : Type 0 where
  pub long : length new ≡ length old
  pub header : header_of new ≡ grown (header_of old) size
  pub row : row_in new (rows_in old) ≡ live_row (end_in old) code serial
  pub state : state_in new (rows_in old) ≤ 1
  pub spare : SameOn 6 8 new old
  pub front : SameOn 20 (row_place (rows_in old)) new old
  pub back : SameOn (PAGE_SIZE - ROW_BYTES * rows_in old) PAGE_SIZE new old

mod_more : (a b : ℕ) → a % 4 ≡ 0 → b % 4 ≡ 0 → (a + b) % 4 ≡ 0
mod_more a b first second = omega arith

mod_less : (a b : ℕ) → a ≤ b → a % 4 ≡ 0 → b % 4 ≡ 0 → (b - a) % 4 ≡ 0
mod_less a b below first second = omega arith

-- one offset more, at the end
pub offsets_push : (rows end size : ℕ) (offset more : ℕ → ℕ) → Offsets rows end offset → ((i : ℕ) → i < rows → more i ≡ offset i) → more rows ≡ end → 0 < size → size % 4 ≡ 0 → Offsets (rows + 1) (end + size) more
offsets_push rows end size offset more law same last some fours = record {
  first = λ any. elim (cases_eq rows 0) [
    | inl none ↦
        let at : more 0 ≡ more rows = ap more (sym none) in
        at ∙ last ∙ law.none none
    | inr there ↦ same 0 (omega arith) ∙ law.first (omega arith)
  ];
  rise = λ i below. elim (cases_lt (i + 1) rows) [
    | inl early ↦
        let here = same i (omega arith) in
        let next = same (i + 1) early in
        let rise = law.rise i early in
        subst (λ (n : ℕ). (more i < n) × ((n - more i) % 4 ≡ 0)) (sym next) (subst (λ (m : ℕ). (m < offset (i + 1)) × ((offset (i + 1) - m) % 4 ≡ 0)) (sym here) rise)
    | inr late ↦
        let at : rows ≡ i + 1 = omega arith in
        let here = same i (omega arith) in
        let next : more (i + 1) ≡ end = ap more (sym at) ∙ last in
        let under = offset_below rows end offset law i (omega arith) in
        let gap = mod_less (offset i) end (omega arith) (offset_fours rows end offset law i (omega arith)) law.end_fours in
        subst (λ (n : ℕ). (more i < n) × ((n - more i) % 4 ≡ 0)) (sym next) (subst (λ (m : ℕ). (m < end) × ((end - m) % 4 ≡ 0)) (sym here) (under, gap))
  ];
  none = λ e. absurd (omega arith);
  last = λ i at.
      let here : rows ≡ i = omega arith in
      let equal = ap more (sym here) ∙ last in
      omega arith;
  end_fours = mod_more end size law.end_fours fours;
}

-- the rows that were there
grown_row : (old new : List ℕ) (size code serial : ℕ) → ROW_BYTES * rows_in old ≤ PAGE_SIZE → IsGrown old new size code serial → (i : ℕ) → i < rows_in old → row_in new i ≡ row_in old i
grown_row old new size code serial room change i below =
    row_in-same i new old (SameOn-within (PAGE_SIZE - ROW_BYTES * rows_in old) PAGE_SIZE (row_place i) (row_place i + ROW_BYTES) new old change.back (omega arith) (omega arith))

grown_state : (old new : List ℕ) (size code serial : ℕ) → ROW_BYTES * rows_in old ≤ PAGE_SIZE → IsGrown old new size code serial → (i : ℕ) → i < rows_in old → state_in new i ≡ state_in old i
grown_state old new size code serial room change i below =
    state_in-same i new old (SameOn-within (PAGE_SIZE - ROW_BYTES * rows_in old) PAGE_SIZE (row_place i) (row_place i + ROW_BYTES) new old change.back (omega arith) (omega arith))

-- the page is good again
grown_shape : (old new : List ℕ) (size code serial : ℕ) → Shape old → IsCellAsked size code serial → ROW_BYTES * rows_in old + end_in old + size + 8 ≤ PAGE_SIZE → IsGrown old new size code serial → Shape new
grown_shape old new size code serial shape asked room change =
    let n = rows_in old in
    let e = end_in old in
    let rows : rows_in new ≡ rows_in old + 1 = ap (λ (h : PageHeader). h.rows) change.header in
    let end : end_in new ≡ end_in old + size = ap (λ (h : PageHeader). h.end) change.header in
    let kind : (header_of new).kind ≡ (header_of old).kind = ap (λ (h : PageHeader). h.kind) change.header in
    let above : 32 ≤ end_in old = end_above n e (offset_in old) shape.offsets in
    let same = grown_row old new size code serial (omega arith) change in
    let law : Offsets (rows_in old + 1) (end_in old + size) (offset_in new) =
    offsets_push n e size (offset_in old) (offset_in new) shape.offsets (λ i below. ap (λ (r : Row). r.offset) (same i below)) (ap (λ (r : Row). r.offset) change.row) asked.some asked.fours in
    record {
      whole = change.long ∙ shape.whole;
      kind = kind ∙ shape.kind;
      spare = number_at-same 2 6 new old change.spare ∙ shape.spare;
      tail = ZeroOn-same 20 32 new old shape.tail (SameOn-within 20 (row_place n) 20 32 new old change.front (omega arith) (omega arith));
      gap = record { zeros = λ k low high. change.front.bytes k (omega arith) (omega arith) ∙ shape.gap.zeros k (omega arith) (omega arith) };
      room = omega arith;
      offsets = subst (λ (m : ℕ). Offsets m (end_in new) (offset_in new)) (sym rows) (subst (λ (m : ℕ). Offsets (n + 1) m (offset_in new)) (sym end) law);
      states = λ i below. elim (cases_lt i n) [
        | inl early ↦ let equal = grown_state old new size code serial (omega arith) change i early in let was = shape.states i early in omega arith
        | inr late ↦ let at : n ≡ i = omega arith in subst (λ (k : ℕ). state_in new k ≤ 1) at change.state
      ];
      tags = λ i below. elim (cases_lt i n) [
        | inl early ↦ subst (λ (r : Row). is_tag r.code r.serial ≡ true) (sym (same i early)) (shape.tags i early)
        | inr late ↦
            let at : n ≡ i = omega arith in
            subst (λ (k : ℕ). is_tag (row_in new k).code (row_in new k).serial ≡ true) at (subst (λ (r : Row). is_tag r.code r.serial ≡ true) (sym change.row) asked.tag)
      ];
    }

-- a cell that was there is as it was
grown_cell : (old new : List ℕ) (size code serial : ℕ) → Shape old → ROW_BYTES * rows_in old + end_in old + size + 8 ≤ PAGE_SIZE → IsGrown old new size code serial → (i : ℕ) → i < rows_in old
    → cell_in (rows_in old + 1) (end_in old + size) new (row_in new) i ≡ cell_in (rows_in old) (end_in old) old (row_in old) i
grown_cell old new size code serial shape room change i below =
    let n = rows_in old in
    let e = end_in old in
    let was = offset_in old in
    let now = offset_in new in
    let same = grown_row old new size code serial (omega arith) change in
    let range = cell_range n e was shape.offsets i below in
    let whole = shape.whole in
    let long = change.long in
    let stop : stop_at (n + 1) (e + size) now i ≡ stop_at n e was i = stop_more (n + 1) (e + size) now i (omega arith) ∙ elim (cases_lt (i + 1) n) [
      | inl more ↦ ap (λ (r : Row). r.offset) (same (i + 1) more) ∙ sym (stop_more n e was i more)
      | inr last ↦
          let at : i + 1 ≡ n = omega arith in
          ap now at ∙ ap (λ (r : Row). r.offset) change.row ∙ sym (stop_last n e was i last)
    ] in
    cell_same _ _ new old (row_in new i) (row_in old i) (same i below) stop
    (between-same (was i) (stop_at n e was i) new old (omega (arith, range.most)) (omega (arith, range.most))
    (SameOn-within 20 (row_place n) (was i) (stop_at n e was i) new old change.front (omega (arith, range.above)) (omega (arith, range.most))))

pub grown-AddsCell : (old new : List ℕ) (size code serial : ℕ) → IsPage old → IsCellAsked size code serial → ROW_BYTES * rows_in old + end_in old + size + 8 ≤ PAGE_SIZE → IsGrown old new size code serial → AddsCell old new size code serial
grown-AddsCell old new size code serial page asked room change =
    let shape = IsPage-shape old page in
    let n = rows_in old in
    let e = end_in old in
    let rows : rows_in new ≡ rows_in old + 1 = ap (λ (h : PageHeader). h.rows) change.header in
    let end : end_in new ≡ end_in old + size = ap (λ (h : PageHeader). h.end) change.header in
    let above : 32 ≤ end_in old = end_above n e (offset_in old) shape.offsets in
    let whole = shape.whole in
    let long = change.long in
    let cell = cell_in (n + 1) (e + size) new (row_in new) in
    let front : map cell (range_with_len 0 n) ≡ cells_of old =
    map-range-same cell (cell_in n e old (row_in old)) 0 n (λ i low high. grown_cell old new size code serial shape room change i (omega arith)) ∙ sym (cells_are n e old refl refl) in
    let zeros : between e (e + size) new ≡ replicate size 0 =
    between-zeros e (e + size) new (omega arith)
    (ZeroOn-same e (e + size) new old (ZeroOn-within (max 32 e) (PAGE_SIZE - ROW_BYTES * n) e (e + size) old shape.gap (omega arith) (omega arith)) (SameOn-within 20 (row_place n) e (e + size) new old change.front (omega arith) (omega arith)))
    ∙ ap (λ (m : ℕ). replicate m 0) (omega arith) in
    let last : cell n ≡ zeroed_cell (live_row e code serial) size =
    let stop : stop_at (n + 1) (e + size) (offset_in new) n ≡ e + size = stop_last (n + 1) (e + size) (offset_in new) n (omega arith) in
    ap (λ (s : ℕ). cell_to s new (row_in new n)) stop ∙ ap (λ (r : Row). cell_to (e + size) new r) change.row ∙ ap (λ (b : List ℕ). cell_made (live_row e code serial) b) zeros in
    record {
      header = change.header;
      cells = cells_are (n + 1) (e + size) new rows end ∙ map-range_with_len_more cell 0 n n (omega arith) ∙ ap (λ (l : List Cell). l ++ cell n ∷ []) front ∙ ap (λ (c : Cell). cells_of old ++ c ∷ []) last;
      page = shape-IsPage new (grown_shape old new size code serial shape asked room change);
    }

-- the added row and the raised end, as they are written
grown_written : (old mid new : List ℕ) (size code serial : ℕ) → IsPage old → IsCellAsked size code serial → ROW_BYTES * rows_in old + end_in old + size + 8 ≤ PAGE_SIZE → code < 256 → serial < 4294967296
    → mid ≡ with_row (rows_in old) (live_row (end_in old) code serial) old → new ≡ with_header (grown (header_of old) size) mid → header_of new ≡ grown (header_of old) size → IsGrown old new size code serial
grown_written old mid new size code serial page asked room small narrow row header read =
    let n = rows_in old in
    let added : Row = live_row (end_in old) code serial in
    let whole : length old ≡ PAGE_SIZE = page.whole in
    let above : 32 ≤ end_in old = end_above n (end_in old) (offset_in old) (IsPage-shape old page).offsets in
    let wide : IsRowWide added = record { offset = omega arith; code = small; serial = narrow } in
    let spare : Keeps 6 8 mid old = subst (λ (m : List ℕ). Keeps 6 8 m old) (sym row) (with_row-before n 6 8 added old (omega arith) (omega arith)) in
    let front : Keeps 20 (row_place n) mid old = subst (λ (m : List ℕ). Keeps 20 (row_place n) m old) (sym row) (with_row-before n 20 (row_place n) added old (omega arith) (omega arith)) in
    let back : Keeps (PAGE_SIZE - ROW_BYTES * n) PAGE_SIZE mid old = subst (λ (m : List ℕ). Keeps (PAGE_SIZE - ROW_BYTES * n) PAGE_SIZE m old) (sym row) (with_row-behind n (PAGE_SIZE - ROW_BYTES * n) PAGE_SIZE added old (omega arith) (omega arith)) in
    let long : length mid ≡ length old = front.long in
    let put : (row_in mid n ≡ added) × (state_in mid n ≤ 1) = subst (λ (m : List ℕ). (row_in m n ≡ added) × (state_in m n ≤ 1)) (sym row) (row_in-with_row n added old (omega arith) wide) in
    let behind : Keeps 20 PAGE_SIZE new mid = subst (λ (b : List ℕ). Keeps 20 PAGE_SIZE b mid) (sym header) (with_header-behind (grown (header_of old) size) PAGE_SIZE mid (omega arith)) in
    let between : Keeps 6 8 new mid = subst (λ (b : List ℕ). Keeps 6 8 b mid) (sym header) (with_header-spare (grown (header_of old) size) mid (omega arith)) in
    let there : SameOn (row_place n) (row_place n + ROW_BYTES) new mid = SameOn-within 20 PAGE_SIZE (row_place n) (row_place n + ROW_BYTES) new mid behind.same (omega arith) (omega arith) in
    let state = state_in-same n new mid there in
    record {
      long = behind.long ∙ long;
      header = read;
      row = row_in-same n new mid there ∙ put.0;
      state = omega (arith, put.1);
      spare = SameOn-trans 6 8 new mid old between.same spare.same;
      front = SameOn-trans 20 (row_place n) new mid old (SameOn-within 20 PAGE_SIZE 20 (row_place n) new mid behind.same (omega arith) (omega arith)) front.same;
      back = SameOn-trans (PAGE_SIZE - ROW_BYTES * n) PAGE_SIZE new mid old (SameOn-within 20 PAGE_SIZE (PAGE_SIZE - ROW_BYTES * n) PAGE_SIZE new mid behind.same (omega arith) (omega arith)) back.same;
    }

-- what a writer of the row and the header adds
pub written-AddsCell : (old mid new : List ℕ) (was : PageHeader) (size code serial : ℕ) → was ≡ header_of old → IsPage old → IsCellAsked size code serial → ROW_BYTES * was.rows + was.end + size + 8 ≤ PAGE_SIZE → code < 256 → serial < 4294967296
    → mid ≡ with_row was.rows (live_row was.end code serial) old → new ≡ with_header (grown was size) mid → header_of new ≡ grown was size → AddsCell old new size code serial
written-AddsCell old mid new was size code serial same page asked room small narrow row header read =
    let room : ROW_BYTES * rows_in old + end_in old + size + 8 ≤ PAGE_SIZE = subst (λ (h : PageHeader). ROW_BYTES * h.rows + h.end + size + 8 ≤ PAGE_SIZE) same room in
    let row : mid ≡ with_row (rows_in old) (live_row (end_in old) code serial) old = subst (λ (h : PageHeader). mid ≡ with_row h.rows (live_row h.end code serial) old) same row in
    let header : new ≡ with_header (grown (header_of old) size) mid = subst (λ (h : PageHeader). new ≡ with_header (grown h size) mid) same header in
    let read : header_of new ≡ grown (header_of old) size = subst (λ (h : PageHeader). header_of new ≡ grown h size) same read in
    grown-AddsCell old new size code serial page asked room (grown_written old mid new size code serial page asked room small narrow row header read)

pub IsPage-room : (bytes : List ℕ) (was : PageHeader) → was ≡ header_of bytes → IsPage bytes → ROW_BYTES * was.rows + was.end ≤ PAGE_SIZE
IsPage-room bytes was same page = subst (λ (h : PageHeader). ROW_BYTES * h.rows + h.end ≤ PAGE_SIZE) (sym same) (IsPage-shape bytes page).room
