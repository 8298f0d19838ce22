-- What it makes of a page list to take the head of the free list off it.
use Rattle.std.proofs.Common.{◌≡◌, ◌≢◌, ℕ, ◌+◌, ◌-◌, ◌*◌, ◌<◌, List, length, sym, ap, subst, ◌∙◌, arith, inl, inr}
use Rattle.std.proofs.lemmas.Bool.{cases_eq}
use Rattle.byteorder.specs.Endian.{little_bytes}
use Rattle.ostore_base.specs.Disk.{replaced}
use Rattle.ostore_base.specs.declared.page.PageImage.{PageImage}
use Rattle.ostore_page_tags.specs.declared.page_header.PageHeader.{PageHeader}
use Rattle.ostore_page_tags.specs.Numbers.{number_at, with_number}
use Rattle.ostore_page_tags.specs.Header.{header_of}
use Rattle.ostore_page_tags.specs.Cells.{cells_of}
use Rattle.ostore_page_tags.specs.Rules.{IsPage}
use Rattle.ostore_page_tags.specs.PageLists.{bytes_at, header_at, first_of, with_bytes}
use Rattle.ostore_segments.specs.Edits.{CanPut, PutsBesideCells}
use Rattle.ostore_segments.specs.Holdings.{PagesTold}
use Rattle.ostore_segments.specs.inside.Fields.{header_made, with_next, BeginsWith, Takes}
use Rattle.ostore_page_tags.specs.PageChains.{IsSegment, IsNoFirst}
use Rattle.ostore_page_tags.specs.Allocated.{IsFront, IsFreePage}
use Rattle.ostore_segments.proofs.PutLaws.{edited_length, edited_here, edited_other}
use Rattle.ostore_segments.proofs.FieldLaws.{IsField, next_written, field_length, field_page, field_cells, field_front, field_first}
use Rattle.ostore_segments.proofs.EditLaws.{puts_bare, puts_bare_field, puts_field}
use Rattle.ostore_segments.proofs.AllocatedLaws.{IsHead, head_page, free_page, first_page}
use Rattle.ostore_segments.proofs.StartLaws.{start, started, started_length, started_reads, started_empty, started_good}

-- what is known of a list whose head of the free list is to be taken
pub record CanTake (segment page rest : ℕ) (list : List PageImage) : Type 0 where
  pub begins : BeginsWith list page
  pub owned : IsSegment segment
  pub rest_is : (header_at list page).next ≡ rest
  pub rest_fits : rest < 4294967296

module _ (segment page rest : ℕ) (a : List PageImage) (can : CanTake segment page rest a) where
  abbrev pub take_one : List PageImage
  take_one = with_bytes a 0 8 (little_bytes 4 rest)

  abbrev pub take_two : List PageImage
  take_two = with_bytes take_one page 0 (start segment)

  abbrev pub take_three : List PageImage
  take_three = with_bytes take_two page 8 (little_bytes 4 0)

  head : IsHead a page
  head = head_page a page can.begins

  front_whole : length (bytes_at a 0) ≡ 4096
  front_whole = let least = can.begins.allocated.least in can.begins.allocated.whole 0 (omega arith)

  page_whole : length (bytes_at a page) ≡ 4096
  page_whole = can.begins.allocated.whole page head.high

  front_field : IsField 8 rest (bytes_at a 0)
  front_field = record { low = omega arith; high = omega arith; fits = can.rest_fits; whole = front_whole }

  count_one : length take_one ≡ length a
  count_one = edited_length a 0 8 (little_bytes 4 rest)

  count_two : length take_two ≡ length a
  count_two = edited_length take_one page 0 (start segment) ∙ count_one

  page_apart : page ≢ 0
  page_apart = let low = head.low in λ none. omega arith

  -- the front
  front_one : bytes_at take_one 0 ≡ with_number 4 8 rest (bytes_at a 0)
  front_one = let least = can.begins.allocated.least in edited_here a 0 8 (little_bytes 4 rest) (omega arith)

  front_three : bytes_at take_three 0 ≡ with_number 4 8 rest (bytes_at a 0)
  front_three = edited_other take_two page 8 0 (little_bytes 4 0) (λ at. page_apart (sym at)) ∙ edited_other take_one page 0 0 (start segment) (λ at. page_apart (sym at)) ∙ front_one

  -- the page
  page_one : bytes_at take_one page ≡ bytes_at a page
  page_one = edited_other a 0 8 page (little_bytes 4 rest) page_apart

  page_two : bytes_at take_two page ≡ started segment (bytes_at a page) page_whole
  page_two = let high = head.high in let count = count_one in edited_here take_one page 0 (start segment) (omega arith) ∙ ap (replaced 0 (start segment)) page_one

  page_three : bytes_at take_three page ≡ with_number 4 8 0 (started segment (bytes_at a page) page_whole)
  page_three = let high = head.high in let count = count_two in edited_here take_two page 8 (little_bytes 4 0) (omega arith) ∙ ap (with_number 4 8 0) page_two

  page_free : IsFreePage (bytes_at a page)
  page_free = free_page a page can.begins.allocated head.low head.high head.kind

  page_good : IsPage (started segment (bytes_at a page) page_whole)
  page_good = started_good segment (bytes_at a page) page_whole page_free

  page_field : IsField 8 0 (started segment (bytes_at a page) page_whole)
  page_field = record { low = omega arith; high = omega arith; fits = omega arith; whole = started_length segment (bytes_at a page) page_whole }

  -- a free page is no first page
  page_no_first : IsNoFirst (first_of a) page
  page_no_first other within at =
      elim (cases_eq (first_of a other) 0) [
        | inl none ↦ sym at ∙ none
        | inr some ↦
            let first = first_page a other can.begins.allocated within some in
            let kind = first.kind in
            let free = head.kind in
            let same = ap (λ (p : ℕ). (header_at a p).kind) at in
            absurd (omega arith)
      ]

  -- the marks of a free page are 0
  page_marks : ((header_at a page).last_page ≡ 0) × ((header_at a page).last_serial ≡ 0)
  page_marks =
      let low = head.low in
      let high = head.high in
      (head.linked.last_pages page (inr (omega arith, omega arith)) page_no_first, head.linked.counters page (inr (omega arith, omega arith)) page_no_first)

  page_header : header_at take_three page ≡ header_made 2 segment 0 32 0 0 0
  unfolding header_at
  page_header =
      ap header_of page_three ∙ next_written 0 (started segment (bytes_at a page) page_whole) page_field
      ∙ ap (λ h. with_next h 0) (started_reads segment (bytes_at a page) page_whole)
      ∙ ap (λ n. header_made 2 segment 0 32 0 n (header_at a page).last_page) page_marks.1
      ∙ ap (λ n. header_made 2 segment 0 32 0 0 n) page_marks.0

  front_header : header_at take_three 0 ≡ with_next (header_at a 0) (header_at a page).next
  unfolding header_at
  front_header = ap header_of front_three ∙ next_written rest (bytes_at a 0) front_field ∙ ap (with_next (header_at a 0)) (sym can.rest_is)

  firsts_kept : (other : ℕ) → IsSegment other → first_of take_three other ≡ first_of a other
  unfolding first_of
  firsts_kept other within = ap (number_at 4 (32 + 4 * (other - 1))) front_three ∙ field_first 8 rest other (bytes_at a 0) front_field within.1

  pub takes : Takes a take_three segment page
  takes = record {
    count = edited_length take_two page 8 (little_bytes 4 0) ∙ count_two;
    others = λ other apart also.
        edited_other take_two page 8 other (little_bytes 4 0) also ∙ edited_other take_one page 0 other (start segment) also ∙ edited_other a 0 8 other (little_bytes 4 rest) apart;
    front_header = front_header;
    front = subst IsFront (sym front_three) (field_front 8 rest (bytes_at a 0) can.begins.allocated.front front_field);
    front_whole = ap (λ (b : List ℕ). length b) front_three ∙ field_length 8 rest (bytes_at a 0) front_field;
    firsts = firsts_kept;
    header = page_header;
    good = subst IsPage (sym page_three) (field_page 8 0 _ page_good page_field);
    empty = ap cells_of page_three ∙ field_cells 8 0 _ page_good page_field ∙ started_empty segment (bytes_at a page) page_whole;
  }

  pub edit_one : (told : PagesTold) → CanPut told 0 8 (little_bytes 4 rest) a
  edit_one told =
      let least = can.begins.allocated.least in
      record { there = omega arith; no_roots = λ at. omega arith; puts = puts_bare_field told.sizes 8 rest (bytes_at a 0) can.begins.allocated.front.header.rows front_field }

  pub edit_two : (told : PagesTold) → CanPut told page 0 (start segment) take_one
  edit_two told =
      let high = head.high in
      let low = head.low in
      let count = count_one in
      record {
        there = omega arith;
        no_roots = λ at. omega arith;
        puts = subst (PutsBesideCells told.sizes 0 (start segment)) (sym page_one)
            (puts_bare told.sizes 0 (start segment) (bytes_at a page) page_free.header.rows (omega arith) (started_empty segment (bytes_at a page) page_whole));
      }

  pub edit_three : (told : PagesTold) → CanPut told page 8 (little_bytes 4 0) take_two
  edit_three told =
      let high = head.high in
      let low = head.low in
      let count = count_two in
      record { there = omega arith; no_roots = λ at. omega arith; puts = subst (PutsBesideCells told.sizes 8 (little_bytes 4 0)) (sym page_two) (puts_field told.sizes 8 0 _ page_good page_field) }

-- what the caller knows and the header of the page
pub can_take : (segment page : ℕ) (header : PageHeader) (list : List PageImage) → IsSegment segment → header.next < 4294967296 → BeginsWith list page → header_at list page ≡ header → CanTake segment page header.next list
can_take segment page header list owned fits begins seen = record { begins = begins; owned = owned; rest_is = ap (λ (h : PageHeader). h.next) seen; rest_fits = fits }
