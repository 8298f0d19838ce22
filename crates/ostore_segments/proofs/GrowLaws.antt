-- What it makes of a page list to give a segment the head of the free list.
use Rattle.std.proofs.Common.{◌≡◌, ◌≢◌, ℕ, ◌+◌, ◌-◌, ◌*◌, ◌<◌, ◌≤◌, ◌⊎◌, List, [], ◌∷◌, ◌++◌, length, refl, sym, ap, subst, ◌∙◌, arith, inl, inr}
use Rattle.std.proofs.lemmas.Bool.{cases_eq, cases_lt}
use Rattle.byteorder.specs.Endian.{little_bytes}
use Rattle.byteorder.specs.Numbers.{length-bytes_low_first}
use Rattle.ostore_base.specs.declared.page.PageImage.{PageImage}
use Rattle.ostore_page_tags.specs.declared.page_header.PageHeader.{PageHeader}
use Rattle.ostore_page_tags.specs.Numbers.{number_at, with_number}
use Rattle.ostore_page_tags.specs.Header.{header_of}
use Rattle.ostore_page_tags.specs.Cells.{cells_of}
use Rattle.ostore_page_tags.specs.Rules.{are_zero, IsPage}
use Rattle.ostore_page_tags.proofs.bytes.ImageLaws.{SameOn, SameOn-within, number_at-same, between-same, length-with_number, number_at-with_number, number_at-with_number_before, number_at-with_number_behind, SameOn-with_number_before, SameOn-with_number_behind}
use Rattle.ostore_page_tags.proofs.parts.CellLaws.{header_of-same}
use Rattle.ostore_page_tags.proofs.shape.PageShape.{IsPage-shape}
use Rattle.ostore_page_tags.specs.PageLists.{bytes_at, header_at, first_of, with_bytes}
use Rattle.ostore_segments.specs.Edits.{CanPut}
use Rattle.ostore_segments.specs.Holdings.{PagesTold}
use Rattle.ostore_segments.specs.inside.Fields.{header_made, with_next, with_last, HasHeaderAt, BeginsBeside, Takes}
use Rattle.ostore_page_tags.specs.PageChains.{IsSegment, IsOpen, last_of, IsFreeList, IsChain}
use Rattle.ostore_page_tags.specs.Allocated.{IsAllocated, IsFront, IsFreePage}
use Rattle.ostore_segments.specs.Serials.{SameElsewhere}
use Rattle.ostore_segments.specs.Growth.{Grows}
use Rattle.ostore_segments.proofs.PutLaws.{edited_length, edited_here, edited_other}
use Rattle.ostore_segments.proofs.FieldLaws.{IsField, next_written, last_written}
use Rattle.ostore_segments.proofs.SeenLaws.{no_cells}
use Rattle.ostore_segments.proofs.AllocatedLaws.{IsHead, head_page, data_page, free_page, first_page, first_headed, allocated_kept, room_in, room_at}
use Rattle.ostore_page_tags.proofs.allocation.ChainLaws.{IsOwned, chain_owned}
use Rattle.ostore_segments.proofs.GrowChains.{Growth, new_free, more_chain, other_chain, grown_chain, grown_linked, grown_counters, last_in}
use Rattle.ostore_segments.proofs.EditLaws.{puts_bare, puts_field}
use Rattle.ostore_segments.proofs.StepLaws.{step_header, step_others, step_field, step_length, step_good, step_cells, step_firsts}

-- ---- from the headers to the lists

pub grows_from : (old new : List PageImage) (segment page : ℕ) (rest : List ℕ) (chain : ℕ → List ℕ) → IsAllocated old
    → Growth (length old) (header_at old) (header_at new) (first_of old) (first_of new) rest chain segment page
    → SameElsewhere old new → (room_in (header_at new page) ≡ 4064) → ((q : ℕ) → q ≢ page → room_in (header_at new q) ≡ room_in (header_at old q)) → ((q : ℕ) → cells_of (bytes_at new q) ≡ cells_of (bytes_at old q)) → ((q : ℕ) → q < length old → length (bytes_at new q) ≡ 4096) → IsFront (bytes_at new 0)
    → ((q : ℕ) → IsOpen (length old) q → IsFreePage (bytes_at new q) ⊎ IsPage (bytes_at new q)) → Grows old new segment page
grows_from old new segment page rest chain fine it elsewhere room rooms cells whole front others =
    let n = length old in
    let count = elsewhere.count in
    record {
      free = (rest, it.linked.free_list, subst (λ (m : ℕ). IsFreeList m (header_at new) rest) (sym count) (new_free n (header_at old) (header_at new) (first_of old) (first_of new) rest chain segment page it));
      chain = (chain segment, it.linked.chains segment it.owned, subst (λ (m : ℕ). IsChain m (header_at new) (first_of new segment) segment (chain segment ++ page ∷ [])) (sym count) (more_chain n (header_at old) (header_at new) (first_of old) (first_of new) rest chain segment page it));
      others = λ other pages within apart was. subst (λ (m : ℕ). IsChain m (header_at new) (first_of new other) other pages) (sym count) (other_chain n (header_at old) (header_at new) (first_of old) (first_of new) rest chain segment page it other pages within apart was);
      counters = grown_counters n (header_at old) (header_at new) (first_of old) (first_of new) rest chain segment page it;
      cells = cells;
      room = room_at new page ∙ room;
      rooms = λ q apart. room_at new q ∙ rooms q apart ∙ sym (room_at old q);
      elsewhere = elsewhere;
      allocated = allocated_kept old new fine elsewhere whole front others
          (rest, grown_chain n (header_at old) (header_at new) (first_of old) (first_of new) rest chain segment page it, grown_linked n (header_at old) (header_at new) (first_of old) (first_of new) rest chain segment page it);
    }

-- ---- the first page of a segment, on page 0

module _ (place value : ℕ) (old : List ℕ) (low : 32 ≤ place) (high : place + 4 ≤ 1052) (whole : length old ≡ 4096) where
  abbrev pub entered : List ℕ
  entered = with_number 4 place value old

  entry_before : SameOn 0 place entered old
  entry_before = SameOn-with_number_before 4 place value 0 place old (omega arith) (omega arith)

  entry_behind : SameOn (place + 4) 4096 entered old
  entry_behind = SameOn-with_number_behind 4 place value (place + 4) 4096 old (omega arith) (omega arith)

  pub entry_length : length entered ≡ 4096
  entry_length = length-with_number 4 place value old (omega arith) ∙ whole

  pub entry_header : header_of entered ≡ header_of old
  entry_header = header_of-same entered old (SameOn-within 0 place 0 20 entered old entry_before (omega arith) (omega arith))

  pub entry_front : IsFront old → IsFront entered
  entry_front front =
      let long = entry_length in
      record {
        header = record {
          kind = ap (λ (h : PageHeader). h.kind) entry_header ∙ front.header.kind;
          segment = ap (λ (h : PageHeader). h.segment) entry_header ∙ front.header.segment;
          rows = ap (λ (h : PageHeader). h.rows) entry_header ∙ front.header.rows;
          end = ap (λ (h : PageHeader). h.end) entry_header ∙ front.header.end;
          spare = number_at-same 2 6 entered old (SameOn-within 0 place 6 8 entered old entry_before (omega arith) (omega arith)) ∙ front.header.spare;
          tail = ap are_zero (between-same 20 32 entered old (omega arith) (omega arith) (SameOn-within 0 place 20 32 entered old entry_before (omega arith) (omega arith))) ∙ front.header.tail;
        };
        behind = ap are_zero (between-same 1052 4096 entered old (omega arith) (omega arith) (SameOn-within (place + 4) 4096 1052 4096 entered old entry_behind (omega arith) (omega arith))) ∙ front.behind;
      }

  pub entry_read : value < 4294967296 → number_at 4 place entered ≡ value
  entry_read fits = number_at-with_number 4 place value old (omega arith) (omega arith)

  pub entry_apart : (other : ℕ) → (other + 4 ≤ place) ⊎ (place + 4 ≤ other) → other + 4 ≤ 4096 → number_at 4 other entered ≡ number_at 4 other old
  entry_apart other side most = elim side [
    | inl before ↦ number_at-with_number_before 4 other 4 place value old before (omega arith)
    | inr behind ↦ number_at-with_number_behind 4 other 4 place value old behind (omega arith)
  ]

-- ---- the one page of a segment

pub record CanBegin (segment page place : ℕ) (old : List PageImage) : Type 0 where
  pub begins : BeginsBeside old segment page 0
  pub owned : IsSegment segment
  pub place_is : place ≡ 32 + 4 * (segment - 1)

module _ (segment page place : ℕ) (a b : List PageImage) (can : CanBegin segment page place a) (taken : Takes a b segment page) where
  begin_head : IsHead a page
  begin_head = head_page a page can.begins.begins

  abbrev pub begin_one : List PageImage
  begin_one = with_bytes b 0 place (little_bytes 4 page)

  abbrev pub begin_two : List PageImage
  begin_two = with_bytes begin_one page 16 (little_bytes 4 page)

  begin_low : 32 ≤ place
  begin_low = let at = can.place_is in omega arith

  begin_high : place + 4 ≤ 1052
  begin_high = let at = can.place_is in let within = can.owned in let low = within.0 in let high = within.1 in omega arith

  begin_fits : page < 4294967296
  begin_fits = let high = begin_head.high in let most = can.begins.begins.allocated.most in omega arith

  begin_apart : page ≢ 0
  begin_apart = can.begins.begins.some

  begin_count : length begin_one ≡ length a
  begin_count = edited_length b 0 place (little_bytes 4 page) ∙ taken.count

  begin_front : bytes_at begin_one 0 ≡ with_number 4 place page (bytes_at b 0)
  begin_front = let least = can.begins.begins.allocated.least in let count = taken.count in edited_here b 0 place (little_bytes 4 page) (omega arith)

  begin_page : bytes_at begin_one page ≡ bytes_at b page
  begin_page = edited_other b 0 place page (little_bytes 4 page) begin_apart

  begin_whole : length (bytes_at begin_one page) ≡ 4096
  begin_whole = ap (λ (l : List ℕ). length l) begin_page ∙ taken.good.whole

  begin_field : IsField 16 page (bytes_at begin_one page)
  begin_field = record { low = omega arith; high = omega arith; fits = begin_fits; whole = begin_whole }

  begin_below : page < length begin_one
  begin_below = let high = begin_head.high in let count = begin_count in omega arith

  begin_good : IsPage (bytes_at begin_one page)
  begin_good = subst IsPage (sym begin_page) taken.good

  begin_writes : header_of (with_number 4 16 page (bytes_at begin_one page)) ≡ with_last (header_of (bytes_at begin_one page)) page
  begin_writes = last_written page (bytes_at begin_one page) begin_field

  pub begin_edit : (told : PagesTold) → CanPut told 0 place (little_bytes 4 page) b
  begin_edit told =
      let least = can.begins.begins.allocated.least in
      let count = taken.count in
      let high = begin_high in
      let long : length (little_bytes 4 page) ≡ 4 = length-bytes_low_first 0 4 page in
      let rows = taken.front.header.rows in
      record {
        there = omega arith;
        no_roots = λ at. omega arith;
        puts = puts_bare told.sizes place (little_bytes 4 page) (bytes_at b 0) rows (omega arith)
            (no_cells (with_number 4 place page (bytes_at b 0)) (ap (λ (h : PageHeader). h.rows) (entry_header place page (bytes_at b 0) begin_low begin_high taken.front_whole) ∙ rows));
      }

  pub begin_edit_last : (told : PagesTold) → CanPut told page 16 (little_bytes 4 page) begin_one
  begin_edit_last told =
      let low = begin_head.low in
      record { there = begin_below; no_roots = λ at. omega arith; puts = puts_field told.sizes 16 page (bytes_at begin_one page) begin_good begin_field }

  -- ---- the headers after

  begin_front_header : header_at begin_two 0 ≡ with_next (header_at a 0) (header_at a page).next
  unfolding header_at
  begin_front_header =
      step_others begin_one page 16 page (λ h. with_last h page) begin_below begin_field begin_writes 0 (λ at. begin_apart (sym at))
      ∙ ap header_of begin_front ∙ entry_header place page (bytes_at b 0) begin_low begin_high taken.front_whole ∙ taken.front_header

  begin_page_header : header_at begin_two page ≡ header_made 2 segment 0 32 0 0 page
  unfolding header_at
  begin_page_header =
      step_header begin_one page 16 page (λ h. with_last h page) begin_below begin_field begin_writes
      ∙ ap (λ (bytes : List ℕ). with_last (header_of bytes) page) begin_page ∙ ap (λ (h : PageHeader). with_last h page) taken.header

  begin_other : (q : ℕ) → q ≢ 0 → q ≢ page → bytes_at begin_two q ≡ bytes_at a q
  begin_other q some apart =
      edited_other begin_one page 16 q (little_bytes 4 page) apart ∙ edited_other b 0 place q (little_bytes 4 page) some ∙ taken.others q some apart

  begin_other_header : (q : ℕ) → q ≢ 0 → q ≢ page → header_at begin_two q ≡ header_at a q
  unfolding header_at
  begin_other_header q some apart = ap header_of (begin_other q some apart)

  begin_kept : (f : PageHeader → ℕ) → ((h : PageHeader) (v : ℕ) → f (with_next h v) ≡ f h) → (q : ℕ) → q ≢ page → f (header_at begin_two q) ≡ f (header_at a q)
  begin_kept f keeps q apart = elim (cases_eq q 0) [
    | inl none ↦ ap (λ (p : ℕ). f (header_at begin_two p)) none ∙ ap f begin_front_header ∙ keeps (header_at a 0) (header_at a page).next ∙ ap (λ (p : ℕ). f (header_at a p)) (sym none)
    | inr some ↦ ap f (begin_other_header q some apart)
  ]

  begin_first : first_of begin_two segment ≡ page
  unfolding first_of
  begin_first =
      step_firsts begin_one page 16 page (λ h. with_last h page) begin_below begin_field begin_writes begin_apart segment
      ∙ ap (number_at 4 (32 + 4 * (segment - 1))) begin_front
      ∙ ap (λ (p : ℕ). number_at 4 p (with_number 4 place page (bytes_at b 0))) (sym can.place_is)
      ∙ entry_read place page (bytes_at b 0) begin_low begin_high taken.front_whole begin_fits

  begin_firsts : (other : ℕ) → IsSegment other → other ≢ segment → first_of begin_two other ≡ first_of a other
  unfolding first_of
  begin_firsts other within apart =
      let place_is = can.place_is in
      let owned = can.owned in
      let low = owned.0 in
      let also = within.0 in
      let most = within.1 in
      let side : ((32 + 4 * (other - 1)) + 4 ≤ place) ⊎ (place + 4 ≤ 32 + 4 * (other - 1)) = elim (cases_lt other segment) [ inl before ↦ inl (omega arith) | inr behind ↦ inr (omega arith) ] in
      step_firsts begin_one page 16 page (λ h. with_last h page) begin_below begin_field begin_writes begin_apart other
      ∙ ap (number_at 4 (32 + 4 * (other - 1))) begin_front
      ∙ entry_apart place page (bytes_at b 0) begin_low begin_high taken.front_whole (32 + 4 * (other - 1)) side (omega arith)
      ∙ taken.firsts other within

  begin_growth : Growth (length a) (header_at a) (header_at begin_two) (first_of a) (first_of begin_two) begin_head.rest begin_head.chain segment page
  begin_growth = record {
    linked = begin_head.linked;
    owned = can.owned;
    front = ap (λ (h : PageHeader). h.next) begin_front_header;
    front_last = ap (λ (h : PageHeader). h.last_page) begin_front_header;
    kind = ap (λ (h : PageHeader). h.kind) begin_page_header;
    segment = ap (λ (h : PageHeader). h.segment) begin_page_header;
    next = ap (λ (h : PageHeader). h.next) begin_page_header;
    serial = ap (λ (h : PageHeader). h.last_serial) begin_page_header;
    mark = λ apart. absurd (apart begin_first);
    kinds = begin_kept (λ h. h.kind) (λ h v. refl);
    segments = begin_kept (λ h. h.segment) (λ h v. refl);
    serials = begin_kept (λ h. h.last_serial) (λ h v. refl);
    nexts = λ q some apart late. ap (λ (h : PageHeader). h.next) (begin_other_header q some apart);
    link = λ some. absurd (some can.begins.first_is);
    lasts = λ q some apart early. ap (λ (h : PageHeader). h.last_page) (begin_other_header q some apart);
    last = ap (λ (p : ℕ). (header_at begin_two p).last_page) begin_first ∙ ap (λ (h : PageHeader). h.last_page) begin_page_header;
    firsts = begin_firsts;
    stays = λ some. absurd (some can.begins.first_is);
    begins = λ none. begin_first;
  }

  begin_elsewhere : SameElsewhere a begin_two
  begin_elsewhere = record {
    count = edited_length begin_one page 16 (little_bytes 4 page) ∙ begin_count;
    fixed = λ q low high. let head = begin_head.low in begin_other q (λ at. omega arith) (λ at. omega arith);
  }

  begin_last_front : bytes_at begin_two 0 ≡ with_number 4 place page (bytes_at b 0)
  begin_last_front = edited_other begin_one page 16 0 (little_bytes 4 page) (λ at. begin_apart (sym at)) ∙ begin_front

  -- what holds of page 0, of the page and of the others holds of all
  begin_all : (P : ℕ → List ℕ → Type 0) → P 0 (with_number 4 place page (bytes_at b 0)) → P page (bytes_at begin_two page) → ((q : ℕ) → q ≢ 0 → q ≢ page → P q (bytes_at a q)) → (q : ℕ) → P q (bytes_at begin_two q)
  begin_all P front here there q = elim (cases_eq q 0) [
    | inl none ↦ subst (λ (p : ℕ). P p (bytes_at begin_two p)) (sym none) (subst (P 0) (sym begin_last_front) front)
    | inr some ↦ elim (cases_eq q page) [
      | inl same ↦ subst (λ (p : ℕ). P p (bytes_at begin_two p)) (sym same) here
      | inr apart ↦ subst (P q) (sym (begin_other q some apart)) (there q some apart)
    ]
  ]

  begin_cells : (q : ℕ) → cells_of (bytes_at begin_two q) ≡ cells_of (bytes_at a q)
  begin_cells = begin_all (λ q bytes. cells_of bytes ≡ cells_of (bytes_at a q))
      (no_cells (with_number 4 place page (bytes_at b 0)) (ap (λ (h : PageHeader). h.rows) (entry_header place page (bytes_at b 0) begin_low begin_high taken.front_whole) ∙ taken.front.header.rows) ∙ sym (no_cells (bytes_at a 0) can.begins.begins.allocated.front.header.rows))
      (step_cells begin_one page 16 page (λ h. with_last h page) begin_below begin_field begin_writes begin_good page ∙ ap cells_of begin_page ∙ taken.empty
      ∙ sym (no_cells (bytes_at a page) (free_page a page can.begins.begins.allocated begin_head.low begin_head.high begin_head.kind).header.rows))
      (λ q some apart. refl)

  pub begin_grows : Grows a begin_two segment page
  begin_grows =
      grows_from a begin_two segment page begin_head.rest begin_head.chain can.begins.begins.allocated begin_growth begin_elsewhere (ap room_in begin_page_header) (begin_kept room_in (λ h v. refl)) begin_cells
      (begin_all (λ q bytes. q < length a → length bytes ≡ 4096)
      (λ below. entry_length place page (bytes_at b 0) begin_low begin_high taken.front_whole)
      (λ below. step_length begin_one page 16 page (λ h. with_last h page) begin_below begin_field begin_writes page ∙ begin_whole)
      (λ q some apart below. can.begins.begins.allocated.whole q below))
      (subst IsFront (sym begin_last_front) (entry_front place page (bytes_at b 0) begin_low begin_high taken.front_whole taken.front))
      (begin_all (λ q bytes. IsOpen (length a) q → IsFreePage bytes ⊎ IsPage bytes)
      (λ there_is. let low = there_is.0 in absurd (omega arith))
      (λ there_is. inr (step_good begin_one page 16 page (λ h. with_last h page) begin_below begin_field begin_writes begin_good page begin_good))
      (λ q some apart there_is. can.begins.begins.allocated.others q there_is))

-- ---- one page more for a segment

-- a chain that isn't empty ends at a page of the segment
pub chain_last : (n : ℕ) (header : ℕ → PageHeader) (first segment : ℕ) (pages : List ℕ) → IsChain n header first segment pages → first ≢ 0 → IsOwned n header segment (last_of pages)
chain_last n header first segment [] list some = absurd (some list.walk)
chain_last n header first segment (p ∷ pages) list some = chain_owned n header first segment (last_of (p ∷ pages)) (p ∷ pages) list (last_in p pages)

pub record CanExtend (segment page first last : ℕ) (old : List PageImage) : Type 0 where
  pub begins : BeginsBeside old segment page first
  pub owned : IsSegment segment
  pub some : first ≢ 0
  pub last_is : (header_at old first).last_page ≡ last

-- what the caller knows and the header of the first page
pub can_extend : (segment page first : ℕ) (old : List PageImage) (header : PageHeader) → IsSegment segment → first ≢ 0 → BeginsBeside old segment page first → header_at old first ≡ header → CanExtend segment page first header.last_page old
can_extend segment page first old header owned some begins seen = record { begins = begins; owned = owned; some = some; last_is = ap (λ (h : PageHeader). h.last_page) seen }

-- the first page can be looked at
pub beside_headed : (list : List PageImage) (segment page first : ℕ) → IsSegment segment → first ≢ 0 → BeginsBeside list segment page first → HasHeaderAt list first
beside_headed list segment page first within some it = first_headed list segment first it.begins.allocated within (λ none. some (sym it.first_is ∙ none)) it.first_is

module _ (segment page first last : ℕ) (a b : List PageImage) (can : CanExtend segment page first last a) (taken : Takes a b segment page) where
  extend_head : IsHead a page
  extend_head = head_page a page can.begins.begins

  extend_chain : IsChain (length a) (header_at a) (first_of a segment) segment (extend_head.chain segment)
  extend_chain = extend_head.linked.chains segment can.owned

  extend_some : first_of a segment ≢ 0
  extend_some = λ none. can.some (sym can.begins.first_is ∙ none)

  -- the first page and the last are pages of the segment
  its_first : IsOwned (length a) (header_at a) segment first
  its_first = subst (IsOwned (length a) (header_at a) segment) can.begins.first_is (first_page a segment can.begins.begins.allocated can.owned extend_some)

  last_at : last_of (extend_head.chain segment) ≡ last
  last_at = sym extend_chain.last ∙ ap (λ (p : ℕ). (header_at a p).last_page) can.begins.first_is ∙ can.last_is

  its_last : IsOwned (length a) (header_at a) segment last
  its_last = subst (IsOwned (length a) (header_at a) segment) last_at (chain_last (length a) (header_at a) (first_of a segment) segment (extend_head.chain segment) extend_chain extend_some)

  apart_page : (q : ℕ) → IsOwned (length a) (header_at a) segment q → q ≢ page
  apart_page q its same = let one = its.kind in let two = extend_head.kind in let three = ap (λ (p : ℕ). (header_at a p).kind) same in omega arith

  apart_front : (q : ℕ) → IsOwned (length a) (header_at a) segment q → q ≢ 0
  apart_front q its same = let low = its.low in omega arith

  abbrev pub extend_one : List PageImage
  extend_one = with_bytes b last 8 (little_bytes 4 page)

  abbrev pub extend_two : List PageImage
  extend_two = with_bytes extend_one first 16 (little_bytes 4 page)

  extend_fits : page < 4294967296
  extend_fits = let high = extend_head.high in let most = can.begins.begins.allocated.most in omega arith

  -- a page of the segment, once the page was taken
  taken_same : (q : ℕ) → IsOwned (length a) (header_at a) segment q → bytes_at b q ≡ bytes_at a q
  taken_same q its = taken.others q (apart_front q its) (apart_page q its)

  taken_good : (q : ℕ) → IsOwned (length a) (header_at a) segment q → IsPage (bytes_at b q)
  taken_good q its = subst IsPage (sym (taken_same q its)) (data_page a q can.begins.begins.allocated its.low its.high its.kind)

  last_below : last < length b
  last_below = let high = its_last.high in let count = taken.count in omega arith

  last_field : IsField 8 page (bytes_at b last)
  last_field = record { low = omega arith; high = omega arith; fits = extend_fits; whole = (taken_good last its_last).whole }

  last_writes : header_of (with_number 4 8 page (bytes_at b last)) ≡ with_next (header_of (bytes_at b last)) page
  last_writes = next_written page (bytes_at b last) last_field

  pub extend_edit : (told : PagesTold) → CanPut told last 8 (little_bytes 4 page) b
  extend_edit told =
      let low = its_last.low in
      record { there = last_below; no_roots = λ at. omega arith; puts = puts_field told.sizes 8 page (bytes_at b last) (taken_good last its_last) last_field }

  extend_count : length extend_one ≡ length a
  extend_count = edited_length b last 8 (little_bytes 4 page) ∙ taken.count

  first_below : first < length extend_one
  first_below = let high = its_first.high in let count = extend_count in omega arith

  first_good : IsPage (bytes_at extend_one first)
  first_good = step_good b last 8 page (λ h. with_next h page) last_below last_field last_writes (taken_good last its_last) first (taken_good first its_first)

  first_field : IsField 16 page (bytes_at extend_one first)
  first_field = record { low = omega arith; high = omega arith; fits = extend_fits; whole = first_good.whole }

  first_writes : header_of (with_number 4 16 page (bytes_at extend_one first)) ≡ with_last (header_of (bytes_at extend_one first)) page
  first_writes = last_written page (bytes_at extend_one first) first_field

  pub extend_edit_last : (told : PagesTold) → CanPut told first 16 (little_bytes 4 page) extend_one
  extend_edit_last told =
      let low = its_first.low in
      record { there = first_below; no_roots = λ at. omega arith; puts = puts_field told.sizes 16 page (bytes_at extend_one first) first_good first_field }

  -- ---- the headers after

  -- a field that neither write changes
  both_kept : (f : PageHeader → ℕ) → ((h : PageHeader) → f (with_next h page) ≡ f h) → ((h : PageHeader) → f (with_last h page) ≡ f h) → (q : ℕ) → f (header_at extend_two q) ≡ f (header_at b q)
  both_kept f next late q =
      step_field extend_one first 16 page (λ h. with_last h page) first_below first_field first_writes f late q
      ∙ step_field b last 8 page (λ h. with_next h page) last_below last_field last_writes f next q

  -- a page that neither write is of
  both_other : (q : ℕ) → q ≢ last → q ≢ first → header_at extend_two q ≡ header_at b q
  both_other q one two =
      step_others extend_one first 16 page (λ h. with_last h page) first_below first_field first_writes q two
      ∙ step_others b last 8 page (λ h. with_next h page) last_below last_field last_writes q one

  taken_header : (q : ℕ) → q ≢ 0 → q ≢ page → header_at b q ≡ header_at a q
  unfolding header_at
  taken_header q some apart = ap header_of (taken.others q some apart)

  extend_front_header : header_at extend_two 0 ≡ with_next (header_at a 0) (header_at a page).next
  extend_front_header = both_other 0 (λ at. apart_front last its_last (sym at)) (λ at. apart_front first its_first (sym at)) ∙ taken.front_header

  extend_page_header : header_at extend_two page ≡ header_made 2 segment 0 32 0 0 0
  extend_page_header = both_other page (λ at. apart_page last its_last (sym at)) (λ at. apart_page first its_first (sym at)) ∙ taken.header

  -- a field of the others that isn't the next page or the last page
  extend_kept : (f : PageHeader → ℕ) → ((h : PageHeader) (v : ℕ) → f (with_next h v) ≡ f h) → ((h : PageHeader) (v : ℕ) → f (with_last h v) ≡ f h) → (q : ℕ) → q ≢ page → f (header_at extend_two q) ≡ f (header_at a q)
  extend_kept f next late q apart = elim (cases_eq q 0) [
    | inl none ↦ ap (λ (p : ℕ). f (header_at extend_two p)) none ∙ ap f extend_front_header ∙ next (header_at a 0) (header_at a page).next ∙ ap (λ (p : ℕ). f (header_at a p)) (sym none)
    | inr some ↦ both_kept f (λ h. next h page) (λ h. late h page) q ∙ ap f (taken_header q some apart)
  ]

  extend_firsts : (other : ℕ) → IsSegment other → first_of extend_two other ≡ first_of a other
  extend_firsts other within =
      step_firsts extend_one first 16 page (λ h. with_last h page) first_below first_field first_writes (apart_front first its_first) other
      ∙ step_firsts b last 8 page (λ h. with_next h page) last_below last_field last_writes (apart_front last its_last) other
      ∙ taken.firsts other within

  extend_growth : Growth (length a) (header_at a) (header_at extend_two) (first_of a) (first_of extend_two) extend_head.rest extend_head.chain segment page
  extend_growth = record {
    linked = extend_head.linked;
    owned = can.owned;
    front = ap (λ (h : PageHeader). h.next) extend_front_header;
    front_last = ap (λ (h : PageHeader). h.last_page) extend_front_header;
    kind = ap (λ (h : PageHeader). h.kind) extend_page_header;
    segment = ap (λ (h : PageHeader). h.segment) extend_page_header;
    next = ap (λ (h : PageHeader). h.next) extend_page_header;
    serial = ap (λ (h : PageHeader). h.last_serial) extend_page_header;
    mark = λ apart. ap (λ (h : PageHeader). h.last_page) extend_page_header;
    kinds = extend_kept (λ h. h.kind) (λ h v. refl) (λ h v. refl);
    segments = extend_kept (λ h. h.segment) (λ h v. refl) (λ h v. refl);
    serials = extend_kept (λ h. h.last_serial) (λ h v. refl) (λ h v. refl);
    nexts = λ q some apart late.
        step_field extend_one first 16 page (λ h. with_last h page) first_below first_field first_writes (λ h. h.next) (λ h. refl) q
        ∙ ap (λ (h : PageHeader). h.next) (step_others b last 8 page (λ h. with_next h page) last_below last_field last_writes q (λ at. late (at ∙ sym last_at)) ∙ taken_header q some apart);
    link = λ some.
        ap (λ (p : ℕ). (header_at extend_two p).next) last_at
        ∙ step_field extend_one first 16 page (λ h. with_last h page) first_below first_field first_writes (λ h. h.next) (λ h. refl) last
        ∙ ap (λ (h : PageHeader). h.next) (step_header b last 8 page (λ h. with_next h page) last_below last_field last_writes);
    lasts = λ q some apart early.
        ap (λ (h : PageHeader). h.last_page) (step_others extend_one first 16 page (λ h. with_last h page) first_below first_field first_writes q (λ at. early (at ∙ sym can.begins.first_is)))
        ∙ step_field b last 8 page (λ h. with_next h page) last_below last_field last_writes (λ h. h.last_page) (λ h. refl) q
        ∙ ap (λ (h : PageHeader). h.last_page) (taken_header q some apart);
    last = ap (λ (p : ℕ). (header_at extend_two p).last_page) (extend_firsts segment can.owned ∙ can.begins.first_is) ∙ ap (λ (h : PageHeader). h.last_page) (step_header extend_one first 16 page (λ h. with_last h page) first_below first_field first_writes);
    firsts = λ other within apart. extend_firsts other within;
    stays = λ some. extend_firsts segment can.owned;
    begins = λ none. absurd (extend_some none);
  }

  -- ---- the bytes after

  extend_plain : (q : ℕ) → q ≢ last → q ≢ first → bytes_at extend_two q ≡ bytes_at b q
  extend_plain q one two = edited_other extend_one first 16 q (little_bytes 4 page) two ∙ edited_other b last 8 q (little_bytes 4 page) one

  extend_elsewhere : SameElsewhere a extend_two
  extend_elsewhere = record {
    count = edited_length extend_one first 16 (little_bytes 4 page) ∙ extend_count;
    fixed = λ q low high.
        let one = its_first.low in let two = its_last.low in let three = extend_head.low in
        extend_plain q (λ at. omega arith) (λ at. omega arith) ∙ taken.others q (λ at. omega arith) (λ at. omega arith);
  }

  taken_cells : (q : ℕ) → cells_of (bytes_at b q) ≡ cells_of (bytes_at a q)
  taken_cells q = elim (cases_eq q 0) [
    | inl none ↦ ap (λ (p : ℕ). cells_of (bytes_at b p)) none ∙ no_cells (bytes_at b 0) taken.front.header.rows ∙ sym (ap (λ (p : ℕ). cells_of (bytes_at a p)) none ∙ no_cells (bytes_at a 0) can.begins.begins.allocated.front.header.rows)
    | inr some ↦ elim (cases_eq q page) [
      | inl same ↦
          ap (λ (p : ℕ). cells_of (bytes_at b p)) same ∙ taken.empty
          ∙ sym (ap (λ (p : ℕ). cells_of (bytes_at a p)) same ∙ no_cells (bytes_at a page) (free_page a page can.begins.begins.allocated extend_head.low extend_head.high extend_head.kind).header.rows)
      | inr apart ↦ ap cells_of (taken.others q some apart)
    ]
  ]

  extend_cells : (q : ℕ) → cells_of (bytes_at extend_two q) ≡ cells_of (bytes_at a q)
  extend_cells q =
      step_cells extend_one first 16 page (λ h. with_last h page) first_below first_field first_writes first_good q
      ∙ step_cells b last 8 page (λ h. with_next h page) last_below last_field last_writes (taken_good last its_last) q ∙ taken_cells q

  extend_whole : (q : ℕ) → q < length a → length (bytes_at extend_two q) ≡ 4096
  extend_whole q below =
      step_length extend_one first 16 page (λ h. with_last h page) first_below first_field first_writes q
      ∙ step_length b last 8 page (λ h. with_next h page) last_below last_field last_writes q
      ∙ elim (cases_eq q 0) [
        | inl none ↦ ap (λ (p : ℕ). length (bytes_at b p)) none ∙ taken.front_whole
        | inr some ↦ elim (cases_eq q page) [
          | inl same ↦ ap (λ (p : ℕ). length (bytes_at b p)) same ∙ taken.good.whole
          | inr apart ↦ ap (λ (l : List ℕ). length l) (taken.others q some apart) ∙ can.begins.begins.allocated.whole q below
        ]
      ]

  taken_others : (q : ℕ) → IsOpen (length a) q → IsFreePage (bytes_at b q) ⊎ IsPage (bytes_at b q)
  taken_others q there_is = elim (cases_eq q page) [
    | inl same ↦ inr (subst (λ (p : ℕ). IsPage (bytes_at b p)) (sym same) taken.good)
    | inr apart ↦ let low = there_is.0 in subst (λ (l : List ℕ). IsFreePage l ⊎ IsPage l) (sym (taken.others q (λ at. omega arith) apart)) (can.begins.begins.allocated.others q there_is)
  ]

  extend_others : (q : ℕ) → IsOpen (length a) q → IsFreePage (bytes_at extend_two q) ⊎ IsPage (bytes_at extend_two q)
  extend_others q there_is = elim (taken_others q there_is) [
    | inl free ↦
        let kind : (header_of (bytes_at b q)).kind ≡ 1 = free.header.kind in
        let not : (p : ℕ) → IsOwned (length a) (header_at a) segment p → q ≢ p = λ p its at.
        let good : (header_of (bytes_at b q)).kind ≡ 2 = ap (λ (r : ℕ). (header_of (bytes_at b r)).kind) at ∙ (IsPage-shape (bytes_at b p) (taken_good p its)).kind in
        omega arith in
        inl (subst IsFreePage (sym (extend_plain q (not last its_last) (not first its_first))) free)
    | inr good ↦ inr (step_good extend_one first 16 page (λ h. with_last h page) first_below first_field first_writes first_good q (step_good b last 8 page (λ h. with_next h page) last_below last_field last_writes (taken_good last its_last) q good))
  ]

  pub extend_grows : Grows a extend_two segment page
  extend_grows =
      grows_from a extend_two segment page extend_head.rest extend_head.chain can.begins.begins.allocated extend_growth extend_elsewhere (ap room_in extend_page_header) (extend_kept room_in (λ h v. refl) (λ h v. refl)) extend_cells extend_whole
      (subst IsFront (sym (extend_plain 0 (λ at. apart_front last its_last (sym at)) (λ at. apart_front first its_first (sym at)))) taken.front)
      extend_others

-- ---- the free list is empty

none_from : (n : ℕ) (header : ℕ → PageHeader) (free : List ℕ) → IsFreeList n header free → (header 0).next ≡ 0 → IsFreeList n header []
none_from n header [] list none = list
none_from n header (page ∷ rest) list none = let fine = list.pages 0 page (omega arith) in let low = fine.0 in let at = list.walk.0 in absurd (omega arith)

pub none_free : (list : List PageImage) → IsAllocated list → (header_at list 0).next ≡ 0 → IsFreeList (length list) (header_at list) []
none_free list fine none = let linked = fine.chains in none_from (length list) (header_at list) linked.0 linked.2.free_list none
