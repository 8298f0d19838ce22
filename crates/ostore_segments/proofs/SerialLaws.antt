-- What a greater last serial in a segment's first page changes.
use Rattle.std.proofs.Common.{leb, false, ◌≡◌, ◌≢◌, ℕ, ◌+◌, ◌-◌, ◌*◌, ◌<◌, ◌⊎◌, List, length, refl, sym, ap, subst, ◌∙◌, arith, inl, inr}
use Rattle.std.specs.Prelude.{IsTrue, ◌↔◌}
use Rattle.std.proofs.lemmas.Bool.{false≢true, leb-true, le-leb, cases_eq}
use Rattle.byteorder.specs.Endian.{little_bytes}
use Rattle.ostore_base.specs.declared.page.PageImage.{PageImage}
use Rattle.ostore_page_tags.specs.declared.page_header.PageHeader.{PageHeader}
use Rattle.ostore_page_tags.specs.Numbers.{number_at, with_number}
use Rattle.ostore_page_tags.specs.Header.{header_of}
use Rattle.ostore_page_tags.specs.Cells.{cells_of}
use Rattle.ostore_page_tags.specs.Rules.{IsPage}
use Rattle.ostore_page_tags.specs.PageLists.{bytes_at, header_at, first_of, with_bytes}
use Rattle.ostore_segments.specs.Serials.{with_serial, counter_of, AreSpent, AreLeft, SameElsewhere, SameLists, Draws, KeepsCounters}
use Rattle.ostore_segments.specs.Edits.{CanPut}
use Rattle.ostore_segments.specs.Holdings.{PagesTold}
use Rattle.ostore_segments.proofs.EditLaws.{puts_field}
use Rattle.ostore_page_tags.specs.PageChains.{IsSegment, AreChained, IsChain, IsFreeList}
use Rattle.ostore_page_tags.specs.Allocated.{IsAllocated, IsFreePage, IsFront}
use Rattle.ostore_segments.proofs.PutLaws.{edited_length, edited_here, edited_other}
use Rattle.ostore_segments.proofs.FieldLaws.{IsField, serial_written, field_length, field_page, field_cells}
use Rattle.ostore_page_tags.proofs.allocation.ChainLaws.{IsOwned, free_kept, chain_kept, chains_kept}
use Rattle.ostore_segments.proofs.AllocatedLaws.{first_page, data_page, allocated_kept, room_in, room_at}

module _ (old : List PageImage) (first serial : ℕ) where
  abbrev drawn : List PageImage
  drawn = with_bytes old first 12 (little_bytes 4 serial)

  -- the first page of a segment of an allocated list
  record Here (owner : ℕ) : Type 0 where
    fine : IsAllocated old
    owned : IsSegment owner
    at : first_of old owner ≡ first
    page : IsOwned (length old) (header_at old) owner first
    fits : serial < 4294967296

  here_field : (owner : ℕ) → Here owner → IsField 12 serial (bytes_at old first)
  here_field owner it = record { low = omega arith; high = omega arith; fits = it.fits; whole = it.fine.whole first it.page.high }

  here_good : (owner : ℕ) → Here owner → IsPage (bytes_at old first)
  here_good owner it = data_page old first it.fine it.page.low it.page.high it.page.kind

  here_bytes : (owner : ℕ) → Here owner → bytes_at drawn first ≡ with_number 4 12 serial (bytes_at old first)
  here_bytes owner it = edited_here old first 12 (little_bytes 4 serial) it.page.high

  here_header : (owner : ℕ) → Here owner → header_at drawn first ≡ with_serial (header_at old first) serial
  unfolding header_at
  here_header owner it = ap header_of (here_bytes owner it) ∙ serial_written serial (bytes_at old first) (here_field owner it)

  other_bytes : (page : ℕ) → page ≢ first → bytes_at drawn page ≡ bytes_at old page
  other_bytes page apart = edited_other old first 12 page (little_bytes 4 serial) apart

  other_header : (page : ℕ) → page ≢ first → header_at drawn page ≡ header_at old page
  unfolding header_at
  other_header page apart = ap header_of (other_bytes page apart)

  -- a field of the headers that isn't the last serial
  field_same : (owner : ℕ) → Here owner → (f : PageHeader → ℕ) → ((header : PageHeader) → f (with_serial header serial) ≡ f header) → (page : ℕ) → f (header_at drawn page) ≡ f (header_at old page)
  field_same owner it f keeps page = elim (cases_eq page first) [
    | inl same ↦ ap (λ (p : ℕ). f (header_at drawn p)) same ∙ ap f (here_header owner it) ∙ keeps (header_at old first) ∙ ap (λ (p : ℕ). f (header_at old p)) (sym same)
    | inr apart ↦ ap f (other_header page apart)
  ]

  firsts_same : (owner : ℕ) → Here owner → (segment : ℕ) → first_of drawn segment ≡ first_of old segment
  unfolding first_of
  firsts_same owner it segment = let low = it.page.low in ap (number_at 4 (32 + 4 * (segment - 1))) (other_bytes 0 (λ at. omega arith))

  kept : (owner : ℕ) → Here owner → (free : List ℕ) (chain : ℕ → List ℕ) → AreChained (length old) (header_at old) (first_of old) free chain → AreChained (length old) (header_at drawn) (first_of drawn) free chain
  kept owner it free chain linked =
      chains_kept (length old) (header_at old) (header_at drawn) (first_of old) (first_of drawn) free chain linked
      (field_same owner it (λ h. h.next) (λ h. refl)) (field_same owner it (λ h. h.kind) (λ h. refl)) (field_same owner it (λ h. h.segment) (λ h. refl)) (field_same owner it (λ h. h.last_page) (λ h. refl))
      (λ segment within. firsts_same owner it segment)
      (λ page none. elim (cases_eq page first) [
        | inl same ↦ let zero = none owner it.owned (it.at ∙ sym same) in let low = it.page.low in absurd (omega arith)
        | inr apart ↦ ap (λ (h : PageHeader). h.last_serial) (other_header page apart)
      ])

  apart_first : (owner other : ℕ) → Here owner → IsSegment other → other ≢ owner → first_of old other ≢ first
  apart_first owner other it within apart at =
      let low = it.page.low in
      let page = first_page old other it.fine within (λ none. omega arith) in
      apart (sym page.segment ∙ ap (λ (p : ℕ). (header_at old p).segment) at ∙ it.page.segment)

  others_kept : (owner : ℕ) → Here owner → (other : ℕ) → IsSegment other → other ≢ owner → counter_of drawn other ≡ counter_of old other
  others_kept owner it other within apart =
      ap (λ (p : ℕ). (header_at drawn p).last_serial) (firsts_same owner it other)
      ∙ ap (λ (h : PageHeader). h.last_serial) (other_header (first_of old other) (apart_first owner other it within apart))

  cells_kept : (owner : ℕ) → Here owner → (page : ℕ) → cells_of (bytes_at drawn page) ≡ cells_of (bytes_at old page)
  cells_kept owner it page = elim (cases_eq page first) [
    | inl same ↦
        ap (λ (p : ℕ). cells_of (bytes_at drawn p)) same ∙ ap cells_of (here_bytes owner it) ∙ field_cells 12 serial (bytes_at old first) (here_good owner it) (here_field owner it)
        ∙ ap (λ (p : ℕ). cells_of (bytes_at old p)) (sym same)
    | inr apart ↦ ap cells_of (other_bytes page apart)
  ]

  elsewhere : (owner : ℕ) → Here owner → SameElsewhere old drawn
  elsewhere owner it = record {
    count = edited_length old first 12 (little_bytes 4 serial);
    fixed = λ page low high. let above = it.page.low in other_bytes page (λ at. omega arith);
  }

  lists_kept : (owner : ℕ) → Here owner → SameLists old drawn
  lists_kept owner it =
      let next = field_same owner it (λ h. h.next) (λ h. refl) in
      let kind = field_same owner it (λ h. h.kind) (λ h. refl) in
      let count : length drawn ≡ length old = edited_length old first 12 (little_bytes 4 serial) in
      record {
        free = λ free list. subst (λ (n : ℕ). IsFreeList n (header_at drawn) free) (sym count) (free_kept (length old) (header_at old) (header_at drawn) free list next kind);
        chains = λ segment chain within list.
            subst (λ (n : ℕ). IsChain n (header_at drawn) (first_of drawn segment) segment chain) (sym count)
            (subst (λ (from : ℕ). IsChain (length old) (header_at drawn) from segment chain) (sym (firsts_same owner it segment))
            (chain_kept (length old) (header_at old) (header_at drawn) (first_of old segment) segment chain list next kind (field_same owner it (λ h. h.segment) (λ h. refl)) (field_same owner it (λ h. h.last_page) (λ h. refl))));
      }

  allocated : (owner : ℕ) → Here owner → IsAllocated drawn
  allocated owner it =
      let fine = it.fine in
      let above = it.page.low in
      allocated_kept old drawn fine (elsewhere owner it)
      (λ page below. elim (cases_eq page first) [
        | inl same ↦ ap (λ (p : ℕ). length (bytes_at drawn p)) same ∙ ap (λ (b : List ℕ). length b) (here_bytes owner it) ∙ field_length 12 serial (bytes_at old first) (here_field owner it)
        | inr apart ↦ ap (λ (b : List ℕ). length b) (other_bytes page apart) ∙ fine.whole page below
      ])
      (subst IsFront (sym (other_bytes 0 (λ at. omega arith))) fine.front)
      (λ page there_is. elim (cases_eq page first) [
        | inl same ↦ inr (subst (λ (p : ℕ). IsPage (bytes_at drawn p)) (sym same) (subst IsPage (sym (here_bytes owner it)) (field_page 12 serial (bytes_at old first) (here_good owner it) (here_field owner it))))
        | inr apart ↦ subst (λ (b : List ℕ). IsFreePage b ⊎ IsPage b) (sym (other_bytes page apart)) (fine.others page there_is)
      ])
      (let linked = fine.chains in (linked.0, linked.1, kept owner it linked.0 linked.1 linked.2))

  draws : (owner : ℕ) → Here owner → serial ≡ counter_of old owner + 1 → Draws old drawn owner serial
  draws owner it next = record {
    some = λ none. let low = it.page.low in let at = it.at in omega arith;
    header = subst (λ (p : ℕ). header_at drawn p ≡ with_serial (header_at old p) serial) (sym it.at) (here_header owner it);
    apart = λ page away. other_bytes page (λ e. away (e ∙ sym it.at));
    next = next;
    drawn = ap (λ (p : ℕ). (header_at drawn p).last_serial) (firsts_same owner it owner ∙ it.at) ∙ ap (λ (h : PageHeader). h.last_serial) (here_header owner it);
    others = others_kept owner it;
    cells = cells_kept owner it;
    room = λ page. room_at drawn page ∙ field_same owner it room_in (λ h. refl) page ∙ sym (room_at old page);
    elsewhere = elsewhere owner it;
    lists = lists_kept owner it;
    allocated = allocated owner it;
  }

pub counted : (list : List PageImage) (owner first : ℕ) (header : PageHeader) → first_of list owner ≡ first → header_at list first ≡ header → counter_of list owner ≡ header.last_serial
counted list owner first header at here = ap (λ (p : ℕ). (header_at list p).last_serial) at ∙ ap (λ (h : PageHeader). h.last_serial) here

known : (list : List PageImage) (owner first serial : ℕ) → IsAllocated list → IsSegment owner → first_of list owner ≢ 0 → first_of list owner ≡ first → serial < 4294967296 → Here list first serial owner
known list owner first serial fine within some at fits = record {
  fine = fine;
  owned = within;
  at = at;
  page = subst (IsOwned (length list) (header_at list) owner) at (first_page list owner fine within some);
  fits = fits;
}

-- what is known of a list whose first page and header were seen, where a serial can be drawn
pub record CanDraw (owner first : ℕ) (header : PageHeader) (list : List PageImage) : Type 0 where
  pub fine : IsAllocated list
  pub owned : IsSegment owner
  pub left : AreLeft list owner
  pub at : first_of list owner ≡ first
  pub seen : header_at list first ≡ header

pub can_draw : (owner first : ℕ) (header : PageHeader) (list : List PageImage) → IsSegment owner → IsAllocated list → AreLeft list owner → first_of list owner ≡ first → header_at list first ≡ header → CanDraw owner first header list
can_draw owner first header list owned fine left at seen = record { fine = fine; owned = owned; left = left; at = at; seen = seen }

pub draw_fits : (owner first : ℕ) (header : PageHeader) (list : List PageImage) → CanDraw owner first header list → header.last_serial + 1 < 4294967296
draw_fits owner first header list can = let same = counted list owner first header can.at can.seen in let left = can.left.left in omega arith

draw_known : (owner first : ℕ) (header : PageHeader) (list : List PageImage) → CanDraw owner first header list → Here list first (header.last_serial + 1) owner
draw_known owner first header list can = known list owner first (header.last_serial + 1) can.fine can.owned can.left.some can.at (draw_fits owner first header list can)

pub draws_next : (old new : List PageImage) (owner first : ℕ) (header : PageHeader) → CanDraw owner first header old → new ≡ with_bytes old first 12 (little_bytes 4 (header.last_serial + 1)) → Draws old new owner (header.last_serial + 1)
draws_next old new owner first header can written =
    subst (λ list. Draws old list owner (header.last_serial + 1)) (sym written)
    (draws old first (header.last_serial + 1) owner (draw_known owner first header old can) (ap (λ n. n + 1) (sym (counted old owner first header can.at can.seen))))

-- a serial may be written into the first page of a segment
pub serial_edit : (told : PagesTold) (list : List PageImage) (owner first serial : ℕ) → IsAllocated list → IsSegment owner → first_of list owner ≢ 0 → first_of list owner ≡ first → serial < 4294967296 → CanPut told first 12 (little_bytes 4 serial) list
serial_edit told list owner first serial fine within some at fits =
    let it = known list owner first serial fine within some at fits in
    let low = it.page.low in
    record {
      there = it.page.high;
      no_roots = λ at. omega arith;
      puts = puts_field told.sizes 12 serial (bytes_at list first) (here_good list first serial owner it) (here_field list first serial owner it);
    }

pub serial_allocated : (list : List PageImage) (owner first serial : ℕ) → IsAllocated list → IsSegment owner → first_of list owner ≢ 0 → first_of list owner ≡ first → serial < 4294967296 → IsAllocated (with_bytes list first 12 (little_bytes 4 serial))
serial_allocated list owner first serial fine within some at fits = allocated list first serial owner (known list owner first serial fine within some at fits)

-- the next serial may be written
pub draw_edit : (told : PagesTold) (list : List PageImage) (owner first : ℕ) (header : PageHeader) → CanDraw owner first header list → CanPut told first 12 (little_bytes 4 (header.last_serial + 1)) list
draw_edit told list owner first header can = serial_edit told list owner first (header.last_serial + 1) can.fine can.owned can.left.some can.at (draw_fits owner first header list can)

-- whether the serials of a segment with a page are spent
pub spent_by : (list : List PageImage) (owner first : ℕ) (header : PageHeader) → first ≢ 0 → first_of list owner ≡ first → header_at list first ≡ header
    → IsTrue (leb 4294967295 header.last_serial) ↔ AreSpent list owner
spent_by list owner first header some at here =
    let same = counted list owner first header at here in
    (λ spent. record { some = λ none. some (sym at ∙ none); all = let most = leb-true 4294967295 header.last_serial spent in omega arith }, λ spent. le-leb 4294967295 header.last_serial (let most = spent.all in omega arith))

-- a segment without a page has serials
pub none_spent : (list : List PageImage) (owner : ℕ) → first_of list owner ≡ 0 → IsTrue false ↔ AreSpent list owner
none_spent list owner none = (λ yes. absurd (false≢true yes), λ spent. absurd (spent.some none))

-- a serial that is drawn later is greater
pub drawn_later : (first second third fourth : List PageImage) (segment early late : ℕ) → IsSegment segment → KeepsCounters second third → Draws first second segment early → Draws third fourth segment late → early < late
drawn_later first second third fourth segment early late within kept one two =
    let rise = kept segment within in
    let drawn = one.drawn in
    let next = two.next in
    omega arith
