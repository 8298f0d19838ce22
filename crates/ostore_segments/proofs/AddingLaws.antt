-- What the row and the counts of a new cell make of a page list.
use Rattle.std.proofs.Common.{◌≡◌, ◌≢◌, ℕ, ◌+◌, ◌-◌, ◌*◌, ◌<◌, ◌≤◌, ◌⊎◌, eqb, List, [], ◌∷◌, ◌++◌, length, drop, replicate, Some, refl, sym, ap, subst, ◌∙◌, arith, inl, inr}
use Rattle.std.specs.Prelude.{Option}
use Rattle.std.specs.List.{All}
use Rattle.std.proofs.lemmas.Bool.{cases_eq, cases_lt}
use Rattle.std.proofs.lemmas.Grind.{common_steps}
use Rattle.std.proofs.lemmas.List.{drop-drop, length-replicate}
use Rattle.byteorder.specs.Endian.{little_number, little_bytes}
use Rattle.byteorder.specs.Numbers.{little_number-reads_back}
use Rattle.ostore_base.specs.Disk.{replaced}
use Rattle.ostore_base.specs.declared.page.PageImage.{PageImage}
use Rattle.ostore_page_tags.specs.declared.page_header.PageHeader.{PageHeader}
use Rattle.ostore_page_tags.specs.declared.tag_rows.Row.{Row}
use Rattle.ostore_page_tags.specs.Numbers.{number_at}
use Rattle.ostore_page_tags.specs.Header.{header_of}
use Rattle.ostore_page_tags.specs.Rows.{row_place, row_in}
use Rattle.ostore_page_tags.specs.Cells.{Cell, cells_of, free_bytes}
use Rattle.ostore_page_tags.specs.Rules.{IsPage}
use Rattle.ostore_page_tags.specs.Changes.{IsCellAsked, live_row, zeroed_cell, grown, AddsCell}
use Rattle.ostore_page_tags.proofs.bytes.ImageLaws.{SameOn, SameOn-within, SameOn-trans, number_at-same, between-same, header_same, length-replaced_within, SameOn-replaced_before, SameOn-replaced_behind}
use Rattle.ostore_page_tags.proofs.shape.RangeLaws.{map-range-same}
use Rattle.ostore_page_tags.proofs.shape.PageShape.{rows_in, end_in, offset_in, IsPage-shape, end_above, stop_at, stop_more, stop_last, cell_range}
use Rattle.ostore_page_tags.proofs.parts.CellLaws.{row_same, row_in-same, state_in-same, cell_in, cells_are, cell_same}
use Rattle.ostore_page_tags.proofs.changes.AddLaws.{IsGrown, grown-AddsCell}
use Rattle.ostore_page_tags.proofs.parts.ApartLaws.{IsPage-AreApart}
use Rattle.ostore_page_tags.specs.PageLists.{bytes_at, header_at, first_of, with_bytes}
use Rattle.ostore_segments.specs.Edits.{CanPut, IsBesideCell, PutsBesideCells}
use Rattle.ostore_segments.specs.Holdings.{PagesTold}
use Rattle.ostore_page_tags.specs.PageChains.{IsFreeList, IsChain}
use Rattle.ostore_page_tags.specs.Allocated.{IsAllocated, IsFront, IsFreePage}
use Rattle.ostore_segments.specs.Room.{HasRoomOn}
use Rattle.ostore_segments.specs.Serials.{SameLists}
use Rattle.ostore_segments.specs.Adding.{Adds}
use Rattle.ostore_segments.specs.inside.Fields.{HasHeaderAt, row_of_live}
use Rattle.ostore_segments.proofs.PutLaws.{edited_length, edited_here, edited_other}
use Rattle.ostore_page_tags.proofs.allocation.ChainLaws.{free_kept, chain_kept, chains_kept}
use Rattle.ostore_segments.proofs.AllocatedLaws.{data_page, allocated_kept}

-- ---- reading what was put

drop_put : (at : ℕ) (bytes held : List ℕ) → at ≤ length held → drop at (replaced at bytes held) ≡ bytes ++ drop (at + length bytes) held
drop_put at bytes held within = grind (arith, common_steps)

read_put : (m at k : ℕ) (bytes held : List ℕ) → at ≤ length held → number_at m (at + k) (replaced at bytes held) ≡ little_number m (drop k (bytes ++ drop (at + length bytes) held))
read_put m at k bytes held within = ap (little_number m) (sym (drop-drop k at (replaced at bytes held)) ∙ ap (drop k) (drop_put at bytes held within))

read_first : (m at : ℕ) (bytes held : List ℕ) → at ≤ length held → number_at m at (replaced at bytes held) ≡ little_number m (bytes ++ drop (at + length bytes) held)
read_first m at bytes held within = ap (little_number m) (drop_put at bytes held within)

-- ---- bytes between the cells and the rows

gap_cells : (old new : List ℕ) → IsPage old → length new ≡ length old → SameOn 0 (end_in old) new old → SameOn (4096 - 8 * rows_in old) 4096 new old → cells_of new ≡ cells_of old
gap_cells old new page long front back =
    let shape = IsPage-shape old page in
    let n = rows_in old in
    let e = end_in old in
    let whole : length old ≡ 4096 = shape.whole in
    let room : 8 * rows_in old + end_in old ≤ 4096 = shape.room in
    let above : 32 ≤ end_in old = end_above n e (offset_in old) shape.offsets in
    let rows : rows_in new ≡ rows_in old = number_at-same 2 2 new old (SameOn-within 0 e 2 4 new old front (omega arith) (omega arith)) in
    let end : end_in new ≡ end_in old = number_at-same 2 4 new old (SameOn-within 0 e 4 6 new old front (omega arith) (omega arith)) in
    let same : (i : ℕ) → i < rows_in old → row_in new i ≡ row_in old i = λ i below. row_in-same i new old (SameOn-within (4096 - 8 * n) 4096 (row_place i) (row_place i + 8) new old back (omega arith) (omega arith)) in
    cells_are n e new rows end
    ∙ map-range-same (cell_in n e new (row_in new)) (cell_in n e old (row_in old)) 0 n (λ i low high.
    let below : i < rows_in old = omega arith in
    let range = cell_range n e (offset_in old) shape.offsets i below in
    let most = range.most in
    let stop : stop_at n e (offset_in new) i ≡ stop_at n e (offset_in old) i = elim (cases_lt (i + 1) n) [
      | inl more ↦ stop_more n e (offset_in new) i more ∙ ap (λ (r : Row). r.offset) (same (i + 1) more) ∙ sym (stop_more n e (offset_in old) i more)
      | inr last ↦ stop_last n e (offset_in new) i last ∙ sym (stop_last n e (offset_in old) i last)
    ] in
    cell_same _ _ new old (row_in new i) (row_in old i) (same i below) stop
    (between-same (offset_in old i) (stop_at n e (offset_in old) i) new old (omega arith) (omega arith)
    (SameOn-within 0 e (offset_in old i) (stop_at n e (offset_in old) i) new old front (omega arith) most)))
    ∙ sym (cells_are n e old refl refl)

-- ---- one page

pub record CanTakeCell (size code serial : ℕ) (old : List ℕ) : Type 0 where
  pub page : IsPage old
  pub asked : IsCellAsked size code serial
  pub room : size + 8 ≤ free_bytes old
  pub code_fits : code < 256
  pub serial_fits : serial < 4294967296

module _ (size code serial : ℕ) (old : List ℕ) (can : CanTakeCell size code serial old) where
  abbrev pub put_row : List ℕ
  put_row = replaced (row_place (rows_in old)) (row_of_live (end_in old) code serial) old

  abbrev pub put_counts : List ℕ
  put_counts = replaced 2 (little_bytes 2 (rows_in old + 1) ++ little_bytes 2 (end_in old + size)) put_row

  whole : length old ≡ 4096
  whole = can.page.whole

  above : 32 ≤ end_in old
  above = end_above (rows_in old) (end_in old) (offset_in old) (IsPage-shape old can.page).offsets

  fits : 8 * rows_in old + end_in old + size + 8 ≤ 4096
  fits = let room = can.room in omega arith

  long_row : length put_row ≡ 4096
  long_row = let fit = fits in let full = whole in length-replaced_within (row_place (rows_in old)) (row_of_live (end_in old) code serial) old (omega arith) ∙ whole

  long_counts : length put_counts ≡ 4096
  long_counts = let long = long_row in length-replaced_within 2 (little_bytes 2 (rows_in old + 1) ++ little_bytes 2 (end_in old + size)) put_row (omega arith) ∙ long_row

  row_before : SameOn 0 (row_place (rows_in old)) put_row old
  row_before = let fit = fits in let full = whole in SameOn-replaced_before (row_place (rows_in old)) 0 (row_place (rows_in old)) (row_of_live (end_in old) code serial) old (omega arith) (omega arith)

  row_behind : SameOn (4096 - 8 * rows_in old) 4096 put_row old
  row_behind = let fit = fits in let full = whole in SameOn-replaced_behind (row_place (rows_in old)) (4096 - 8 * rows_in old) 4096 (row_of_live (end_in old) code serial) old (omega arith) (omega arith)

  counts_before : SameOn 0 2 put_counts put_row
  counts_before = let long = long_row in SameOn-replaced_before 2 0 2 (little_bytes 2 (rows_in old + 1) ++ little_bytes 2 (end_in old + size)) put_row (omega arith) (omega arith)

  counts_behind : SameOn 6 4096 put_counts put_row
  counts_behind = let long = long_row in SameOn-replaced_behind 2 6 4096 (little_bytes 2 (rows_in old + 1) ++ little_bytes 2 (end_in old + size)) put_row (omega arith) (omega arith)

  -- a number of the header that isn't a count
  low_read : (m at : ℕ) → at + m ≤ 2 → number_at m at put_counts ≡ number_at m at old
  low_read m at high =
      let fit = fits in
      number_at-same m at put_counts put_row (SameOn-within 0 2 at (at + m) put_counts put_row counts_before (omega arith) high)
      ∙ number_at-same m at put_row old (SameOn-within 0 (row_place (rows_in old)) at (at + m) put_row old row_before (omega arith) (omega arith))

  high_read : (m at : ℕ) → 6 ≤ at → at + m ≤ 32 → number_at m at put_counts ≡ number_at m at old
  high_read m at low high =
      let fit = fits in let up = above in
      number_at-same m at put_counts put_row (SameOn-within 6 4096 at (at + m) put_counts put_row counts_behind low (omega arith))
      ∙ number_at-same m at put_row old (SameOn-within 0 (row_place (rows_in old)) at (at + m) put_row old row_before (omega arith) (omega arith))

  rows_read : number_at 2 2 put_counts ≡ rows_in old + 1
  rows_read =
      let long = long_row in let fit = fits in
      read_first 2 2 (little_bytes 2 (rows_in old + 1) ++ little_bytes 2 (end_in old + size)) put_row (omega arith)
      ∙ little_number-reads_back 2 (rows_in old + 1) [] (omega arith)

  end_read : number_at 2 4 put_counts ≡ end_in old + size
  end_read =
      let long = long_row in let fit = fits in
      read_put 2 2 2 (little_bytes 2 (rows_in old + 1) ++ little_bytes 2 (end_in old + size)) put_row (omega arith)
      ∙ little_number-reads_back 2 (end_in old + size) [] (omega arith)

  pub put_header : header_of put_counts ≡ grown (header_of old) size
  put_header =
      header_same _ _ _ _ _ _ _ (grown (header_of old) size) (low_read 1 0 (omega arith)) (low_read 1 1 (omega arith)) rows_read end_read
      (high_read 4 8 (omega arith) (omega arith)) (high_read 4 12 (omega arith) (omega arith)) (high_read 4 16 (omega arith) (omega arith))

  -- the row
  row_state : number_at 1 (row_place (rows_in old) + 3) put_row ≡ 1
  row_state = let fit = fits in let full = whole in read_put 1 (row_place (rows_in old)) 3 (row_of_live (end_in old) code serial) old (omega arith)

  row_read : row_in put_row (rows_in old) ≡ live_row (end_in old) code serial
  row_read =
      let fit = fits in let full = whole in
      let at = row_place (rows_in old) in
      let bytes = row_of_live (end_in old) code serial in
      row_same _ _ _ _ (live_row (end_in old) code serial)
      (read_first 2 at bytes old (omega arith) ∙ little_number-reads_back 2 (end_in old) [] (omega arith))
      (read_put 1 at 2 bytes old (omega arith) ∙ plus_none code)
      (ap (λ s. eqb s 1) row_state)
      (read_put 4 at 4 bytes old (omega arith) ∙ little_number-reads_back 4 serial [] (let narrow = can.serial_fits in omega arith))
    where
      plus_none : (n : ℕ) → n + 0 ≡ n
      plus_none n = omega arith

  same_row : SameOn (row_place (rows_in old)) (row_place (rows_in old) + 8) put_counts put_row
  same_row = let fit = fits in let up = above in SameOn-within 6 4096 (row_place (rows_in old)) (row_place (rows_in old) + 8) put_counts put_row counts_behind (omega arith) (omega arith)

  put_grown : IsGrown old put_counts size code serial
  put_grown =
      let fit = fits in let up = above in
      let n = rows_in old in
      record {
        long = long_counts ∙ sym whole;
        header = put_header;
        row = row_in-same n put_counts put_row same_row ∙ row_read;
        state = let is = state_in-same n put_counts put_row same_row ∙ row_state in omega arith;
        spare = SameOn-trans 6 8 put_counts put_row old (SameOn-within 6 4096 6 8 put_counts put_row counts_behind (omega arith) (omega arith)) (SameOn-within 0 (row_place n) 6 8 put_row old row_before (omega arith) (omega arith));
        front = SameOn-trans 20 (row_place n) put_counts put_row old (SameOn-within 6 4096 20 (row_place n) put_counts put_row counts_behind (omega arith) (omega arith)) (SameOn-within 0 (row_place n) 20 (row_place n) put_row old row_before (omega arith) (omega arith));
        back = SameOn-trans (4096 - 8 * n) 4096 put_counts put_row old (SameOn-within 6 4096 (4096 - 8 * n) 4096 put_counts put_row counts_behind (omega arith) (omega arith)) row_behind;
      }

  pub put_adds : AddsCell old put_counts size code serial
  put_adds = grown-AddsCell old put_counts size code serial can.page can.asked fits put_grown

  pub put_row_cells : cells_of put_row ≡ cells_of old
  put_row_cells =
      let fit = fits in
      gap_cells old put_row can.page (long_row ∙ sym whole) (SameOn-within 0 (row_place (rows_in old)) 0 (end_in old) put_row old row_before (omega arith) (omega arith)) row_behind

  pub put_row_edit : (sizes : ℕ → Option ℕ) → PutsBesideCells sizes (row_place (rows_in old)) (row_of_live (end_in old) code serial) old
  put_row_edit sizes =
      let fit = fits in
      let within = (IsPage-AreApart old can.page).within in
      record {
        rows = omega arith;
        beside = λ k d below. let high = within k d below in inl (omega arith);
        cells = inl put_row_cells;
        kind = inl (number_at-same 1 0 put_row old (SameOn-within 0 (row_place (rows_in old)) 0 1 put_row old row_before (omega arith) (omega arith)));
      }

  row_rows : rows_in put_row ≡ rows_in old
  row_rows = let fit = fits in let up = above in number_at-same 2 2 put_row old (SameOn-within 0 (row_place (rows_in old)) 2 4 put_row old row_before (omega arith) (omega arith))

  pub put_counts_edit : (sizes : ℕ → Option ℕ) → sizes code ≡ Some size → PutsBesideCells sizes 2 (little_bytes 2 (rows_in old + 1) ++ little_bytes 2 (end_in old + size)) put_row
  put_counts_edit sizes told =
      let adds = put_adds in
      let cell : Cell = zeroed_cell (live_row (end_in old) code serial) size in
      let long : length (replicate {A = ℕ} size 0) ≡ size = length-replicate size 0 in
      let fit = fits in
      let up = above in
      let rows = row_rows in
      let behind = (IsPage-AreApart old can.page).behind in
      record {
        rows = omega arith;
        beside = subst (All (IsBesideCell 2 4)) (sym put_row_cells) (λ k d below. let low = behind k d below in inr (omega arith));
        cells = inr (
          cell,
          record {
            cells = adds.cells ∙ ap (λ (l : List Cell). l ++ cell ∷ []) (sym put_row_cells);
            size = told ∙ ap (λ n. Some n) (sym long);
            zeros = ap (λ n. replicate n 0) (sym long);
            apart = IsPage-AreApart put_counts adds.page;
            room = let room = (IsPage-shape put_counts adds.page).room in omega arith;
          },
        );
        kind = inl (number_at-same 1 0 put_counts put_row (SameOn-within 0 2 0 1 put_counts put_row counts_before (omega arith) (omega arith)));
      }

-- ---- the list

-- what is known of a list whose page was seen
pub record CanAdd (page size code serial : ℕ) (header : PageHeader) (list : List PageImage) : Type 0 where
  pub room : HasRoomOn list (size + 8) page
  pub asked : IsCellAsked size code serial
  pub code_fits : code < 256
  pub serial_fits : serial < 4294967296
  pub seen : header_at list page ≡ header

pub can_add : (page size code serial : ℕ) (header : PageHeader) (list : List PageImage) → IsCellAsked size code serial → code < 256 → serial < 4294967296
    → HasRoomOn list (size + 8) page → header_at list page ≡ header → CanAdd page size code serial header list
can_add page size code serial header list asked small narrow room seen = record { room = room; asked = asked; code_fits = small; serial_fits = narrow; seen = seen }

-- the page can be looked at
pub room_headed : (list : List PageImage) (need page : ℕ) → HasRoomOn list need page → HasHeaderAt list page
room_headed list need page it = let low = it.there.0 in record { allocated = it.allocated; headed = inr (omega arith, it.there.1) }

module _ (page size code serial : ℕ) (header : PageHeader) (a : List PageImage) (can : CanAdd page size code serial header a) where
  add_page : IsPage (bytes_at a page)
  add_page = data_page a page can.room.allocated can.room.there.0 can.room.there.1 can.room.kind

  add_put : CanTakeCell size code serial (bytes_at a page)
  add_put = record { page = add_page; asked = can.asked; room = can.room.room; code_fits = can.code_fits; serial_fits = can.serial_fits }

  pub add_rows : rows_in (bytes_at a page) ≡ header.rows
  unfolding header_at
  add_rows = ap (λ (h : PageHeader). h.rows) can.seen

  pub add_end : end_in (bytes_at a page) ≡ header.end
  unfolding header_at
  add_end = ap (λ (h : PageHeader). h.end) can.seen

  pub add_fits : 8 * header.rows + header.end + size + 8 ≤ 4096
  add_fits =
      let room = can.room.room in
      let rows = add_rows in
      let end = add_end in
      omega arith

  abbrev pub add_one : List PageImage
  add_one = with_bytes a page (4096 - 8 * (header.rows + 1)) (row_of_live header.end code serial)

  abbrev pub add_two : List PageImage
  add_two = with_bytes add_one page 2 (little_bytes 2 (header.rows + 1) ++ little_bytes 2 (header.end + size))

  one_bytes : bytes_at add_one page ≡ put_row size code serial (bytes_at a page) add_put
  one_bytes =
      edited_here a page (4096 - 8 * (header.rows + 1)) (row_of_live header.end code serial) can.room.there.1
      ∙ ap (λ n. replaced (4096 - 8 * (n + 1)) (row_of_live header.end code serial) (bytes_at a page)) (sym add_rows)
      ∙ ap (λ n. replaced (row_place (rows_in (bytes_at a page))) (row_of_live n code serial) (bytes_at a page)) (sym add_end)

  one_count : length add_one ≡ length a
  one_count = edited_length a page (4096 - 8 * (header.rows + 1)) (row_of_live header.end code serial)

  counts_same : little_bytes 2 (rows_in (bytes_at a page) + 1) ++ little_bytes 2 (end_in (bytes_at a page) + size) ≡ little_bytes 2 (header.rows + 1) ++ little_bytes 2 (header.end + size)
  counts_same =
      ap (λ n. little_bytes 2 (n + 1) ++ little_bytes 2 (end_in (bytes_at a page) + size)) add_rows
      ∙ ap (λ n. little_bytes 2 (header.rows + 1) ++ little_bytes 2 (n + size)) add_end

  two_bytes : bytes_at add_two page ≡ put_counts size code serial (bytes_at a page) add_put
  two_bytes =
      let high = can.room.there.1 in
      let count = one_count in
      edited_here add_one page 2 (little_bytes 2 (header.rows + 1) ++ little_bytes 2 (header.end + size)) (omega arith)
      ∙ ap (λ (b : List ℕ). replaced 2 b (bytes_at add_one page)) (sym counts_same)
      ∙ ap (replaced 2 (little_bytes 2 (rows_in (bytes_at a page) + 1) ++ little_bytes 2 (end_in (bytes_at a page) + size))) one_bytes

  no_roots : page ≢ 9
  no_roots at = let low = can.room.there.0 in omega arith

  pub add_edit_one : (told : PagesTold) → CanPut told page (4096 - 8 * (header.rows + 1)) (row_of_live header.end code serial) a
  add_edit_one told = record {
    there = can.room.there.1;
    no_roots = no_roots;
    puts = subst (λ (n : ℕ). PutsBesideCells told.sizes (4096 - 8 * (n + 1)) (row_of_live header.end code serial) (bytes_at a page)) add_rows
        (subst (λ (n : ℕ). PutsBesideCells told.sizes (row_place (rows_in (bytes_at a page))) (row_of_live n code serial) (bytes_at a page)) add_end
        (put_row_edit size code serial (bytes_at a page) add_put told.sizes));
  }

  pub add_edit_two : (told : PagesTold) → told.sizes code ≡ Some size → CanPut told page 2 (little_bytes 2 (header.rows + 1) ++ little_bytes 2 (header.end + size)) add_one
  add_edit_two told size_is =
      let high = can.room.there.1 in
      let count = one_count in
      record {
        there = omega arith;
        no_roots = no_roots;
        puts = subst (λ (b : List ℕ). PutsBesideCells told.sizes 2 b (bytes_at add_one page)) counts_same
            (subst (PutsBesideCells told.sizes 2 (little_bytes 2 (rows_in (bytes_at a page) + 1) ++ little_bytes 2 (end_in (bytes_at a page) + size))) (sym one_bytes)
            (put_counts_edit size code serial (bytes_at a page) add_put told.sizes size_is));
      }

  -- ---- what the list is after

  two_other : (q : ℕ) → q ≢ page → bytes_at add_two q ≡ bytes_at a q
  two_other q apart = edited_other add_one page 2 q (little_bytes 2 (header.rows + 1) ++ little_bytes 2 (header.end + size)) apart ∙ edited_other a page (4096 - 8 * (header.rows + 1)) q (row_of_live header.end code serial) apart

  two_count : length add_two ≡ length a
  two_count = edited_length add_one page 2 (little_bytes 2 (header.rows + 1) ++ little_bytes 2 (header.end + size)) ∙ one_count

  two_header : header_at add_two page ≡ grown (header_at a page) size
  unfolding header_at
  two_header = ap header_of two_bytes ∙ put_header size code serial (bytes_at a page) add_put

  two_others : (q : ℕ) → q ≢ page → header_at add_two q ≡ header_at a q
  unfolding header_at
  two_others q apart = ap header_of (two_other q apart)

  -- a field of the headers that isn't a count
  two_field : (f : PageHeader → ℕ) → ((h : PageHeader) → f (grown h size) ≡ f h) → (q : ℕ) → f (header_at add_two q) ≡ f (header_at a q)
  two_field f keeps q = elim (cases_eq q page) [
    | inl same ↦ ap (λ (p : ℕ). f (header_at add_two p)) same ∙ ap f two_header ∙ keeps (header_at a page) ∙ ap (λ (p : ℕ). f (header_at a p)) (sym same)
    | inr apart ↦ ap f (two_others q apart)
  ]

  two_firsts : (segment : ℕ) → first_of add_two segment ≡ first_of a segment
  unfolding first_of
  two_firsts segment = let low = can.room.there.0 in ap (number_at 4 (32 + 4 * (segment - 1))) (two_other 0 (λ at. omega arith))

  two_lists : SameLists a add_two
  two_lists = record {
    free = λ free list. subst (λ (n : ℕ). IsFreeList n (header_at add_two) free) (sym two_count) (free_kept (length a) (header_at a) (header_at add_two) free list (two_field (λ h. h.next) (λ h. refl)) (two_field (λ h. h.kind) (λ h. refl)));
    chains = λ segment chain within list.
        subst (λ (n : ℕ). IsChain n (header_at add_two) (first_of add_two segment) segment chain) (sym two_count)
        (subst (λ (from : ℕ). IsChain (length a) (header_at add_two) from segment chain) (sym (two_firsts segment))
        (chain_kept (length a) (header_at a) (header_at add_two) (first_of a segment) segment chain list (two_field (λ h. h.next) (λ h. refl)) (two_field (λ h. h.kind) (λ h. refl)) (two_field (λ h. h.segment) (λ h. refl)) (two_field (λ h. h.last_page) (λ h. refl))));
  }

  two_allocated : IsAllocated add_two
  two_allocated =
      let low = can.room.there.0 in
      let linked = can.room.allocated.chains in
      allocated_kept a add_two can.room.allocated (record { count = two_count; fixed = λ q from to. two_other q (λ at. omega arith) })
      (λ q below. elim (cases_eq q page) [
        | inl same ↦ ap (λ (p : ℕ). length (bytes_at add_two p)) same ∙ ap (λ (b : List ℕ). length b) two_bytes ∙ long_counts size code serial (bytes_at a page) add_put
        | inr apart ↦ ap (λ (b : List ℕ). length b) (two_other q apart) ∙ can.room.allocated.whole q below
      ])
      (subst IsFront (sym (two_other 0 (λ at. omega arith))) can.room.allocated.front)
      (λ q there_is. elim (cases_eq q page) [
        | inl same ↦ inr (subst (λ (p : ℕ). IsPage (bytes_at add_two p)) (sym same) (subst IsPage (sym two_bytes) (put_adds size code serial (bytes_at a page) add_put).page))
        | inr apart ↦ subst (λ (b : List ℕ). IsFreePage b ⊎ IsPage b) (sym (two_other q apart)) (can.room.allocated.others q there_is)
      ]) (
        linked.0,
        linked.1,
        chains_kept (length a) (header_at a) (header_at add_two) (first_of a) (first_of add_two) linked.0 linked.1 linked.2
            (two_field (λ h. h.next) (λ h. refl)) (two_field (λ h. h.kind) (λ h. refl)) (two_field (λ h. h.segment) (λ h. refl)) (two_field (λ h. h.last_page) (λ h. refl))
            (λ segment within. two_firsts segment) (λ q none. two_field (λ h. h.last_serial) (λ h. refl) q),
      )

  pub add_adds : (header.end ≡ (header_at a page).end) × Adds a add_two page size code serial
  add_adds = (
    ap (λ (h : PageHeader). h.end) (sym can.seen),
    record {
      cell = subst (λ (b : List ℕ). AddsCell (bytes_at a page) b size code serial) (sym two_bytes) (put_adds size code serial (bytes_at a page) add_put);
      others = two_other;
      count = two_count;
      lists = two_lists;
      counters = λ segment within. ap (λ (p : ℕ). (header_at add_two p).last_serial) (two_firsts segment) ∙ two_field (λ h. h.last_serial) (λ h. refl) (first_of a segment);
      allocated = two_allocated;
    },
  )
