-- The int of a member that was found: what is read of it, and what a write of it does.
use Rattle.std.proofs.Common.{◌≡◌, ◌∙◌, ℕ, ℤ, ◌+◌, ◌-◌, ◌<◌, ◌≤◌, true, List, length, drop, refl, ap, ap₂, sym, subst, subst₂, arith, inl, inr, Option, Some}
use Rattle.std.specs.Prelude.{FitsSigned}
use Rattle.std.specs.Int.{w64, cast_signed, cast_unsigned}
use Rattle.std.specs.List.{slice_get, AllByRecursion, Contains}
use Rattle.std.proofs.lemmas.Bool.{cases_eq}
use Rattle.std.proofs.lemmas.List.{drop-drop, get_or-drop}
use Rattle.std.proofs.lemmas.Option.{slice_get_within, get_or_from_slice_get}
use Rattle.byteorder.specs.Endian.{little_number, little_bytes}
use Rattle.ostore_base.specs.Disk.{replaced}
use Rattle.ostore_base.specs.declared.page.PageImage.{PageImage}
use Rattle.ostore_page_tags.specs.declared.page_header.PageHeader.{PageHeader}
use Rattle.ostore_page_tags.specs.declared.tag_rows.Row.{Row}
use Rattle.ostore_page_tags.specs.Header.{header_of}
use Rattle.ostore_page_tags.specs.Numbers.{number_at, int_at, with_int}
use Rattle.ostore_page_tags.specs.Rows.{row_in}
use Rattle.ostore_page_tags.specs.Cells.{Cell, between, cells_of}
use Rattle.ostore_page_tags.specs.Changes.{EditsCell}
use Rattle.ostore_page_tags.specs.PagePointers.{IsBeside}
use Rattle.ostore_page_tags.specs.PageLists.{bytes_at, header_at, with_bytes}
use Rattle.ostore_page_tags.specs.PageChains.{IsFreeList}
use Rattle.ostore_page_tags.specs.Allocated.{HasFree}
use Rattle.ostore_page_tags.proofs.bytes.ImageLaws.{number_at-same, between_read, length-between}
use Rattle.ostore_page_tags.proofs.shape.PageShape.{rows_in, end_in, offset_in, IsPage-shape, cell_range}
use Rattle.ostore_page_tags.proofs.changes.DeadLaws.{stop_in}
use Rattle.ostore_page_tags.proofs.changes.EditLaws.{replaced-EditsCell}
use Rattle.ostore_schema_layout.specs.declared.schema.Schema.{Schema}
use Rattle.ostore_schema_layout.specs.Cells.{code_size, kind_size, pointers_of}
use Rattle.ostore_segments.specs.Holdings.{PagesTold}
use Rattle.ostore_segments.specs.Seen.{IsSeenAs}
use Rattle.ostore_segments.specs.Edits.{HasBytesInCell}
use Rattle.ostore_segments.specs.SchemaCells.{size_told}
use Rattle.ostore_segments.proofs.PutLaws.{edited_length, edited_here, edited_other}
use Rattle.ostore_relocation.specs.Fitness.{HasCells}
use Rattle.ostore_graph_model.specs.Addresses.{PlacedCell}
use Rattle.ostore_graph_model.specs.Records.{is_sized}
use Rattle.ostore_graph_model.proofs.MemberEdits.{cell_sized, place_within}
use Rattle.ostore_object_ops.specs.declared.lookup.Found.{Found}
use Rattle.ostore_object_ops.specs.Claiming.{KeepsDataPages}
use Rattle.ostore_object_ops.specs.inside.Members.{address_of, HasInt, StoresInt}
use Rattle.ostore_object_ops.proofs.CellPlaces.{IsCellOn, cell_on, image_there}
use Rattle.ostore_object_ops.proofs.GoodCells.{good_cells, sized_parts, told_size}
use Rattle.ostore_object_ops.proofs.SeenCells.{seen_int}
use Rattle.ostore_object_ops.proofs.IntPlaces.{beside_int}

contains_at : (cells : List Cell) (i : ℕ) (cell : Cell) → slice_get cells i ≡ Some cell → Contains cells cell
contains_at cells i cell there = (i, slice_get_within cells i cell there, get_or_from_slice_get cells i cell cell there)

-- a number in a cell, and in its page
number_in_cell : (n start stop at : ℕ) (bytes : List ℕ) → at + n ≤ stop - start → number_at n (start + at) bytes ≡ number_at n at (between start stop bytes)
number_in_cell n start stop at bytes within =
    ap (little_number n) (sym (drop-drop at start bytes))
    ∙ number_at-same n at (drop start bytes) (between start stop bytes) (record { bytes = λ k low high. get_or-drop start bytes k 0 ∙ sym (between_read start stop k bytes (omega arith)) })

-- data pages stay where the headers do, and so does the free list
pub data_stays : (old new : List PageImage) → length new ≡ length old → ((page : ℕ) → header_at new page ≡ header_at old page) → KeepsDataPages old new
data_stays old new count same = record {
  count = count;
  kept = λ page is. record { lies = (is.lies.0, let high = is.lies.1 in omega arith); kind = ap (λ (h : PageHeader). h.kind) (same page) ∙ is.kind };
}

pub free_stays : (old new : List PageImage) → length new ≡ length old → ((page : ℕ) → header_at new page ≡ header_at old page) → (free : List ℕ) → HasFree old free → HasFree new free
free_stays old new count same free has =
    let headers : header_at old ≡ header_at new = λ i page. sym (same page) i in
    subst₂ (λ (n : ℕ) (header : ℕ → PageHeader). IsFreeList n header free) (sym count) headers has

module _ (schema : Schema) (found : Found) (list : List PageImage) (has : HasInt schema found list) where
  pub on : IsCellOn list found.page.0 found.offset has.cell
  on = cell_on list found.page.0 found.offset has.cell has.valid.pages_kept.allocated has.low has.has.there

  cells : HasCells schema (bytes_at list found.page.0)
  cells = good_cells schema list found.page.0 has.valid.cells_kept has.valid.pages_kept.allocated on.low on.high on.kind

  sized : is_sized schema has.cell.code has.cell.bytes ≡ true
  sized = cell_sized schema list (address_of found) has.cell has.valid.cells_kept has.has.there

  pub record IsInside : Type 0 where
    pub in_cell : found.place.offset + 8 ≤ length has.cell.bytes
    pub long : length has.cell.bytes ≡ stop_in (bytes_at list found.page.0) on.i - offset_in (bytes_at list found.page.0) on.i
    pub start : offset_in (bytes_at list found.page.0) on.i ≡ found.offset
    pub before : offset_in (bytes_at list found.page.0) on.i < stop_in (bytes_at list found.page.0) on.i
    pub most : stop_in (bytes_at list found.page.0) on.i ≤ 4096
    pub size : length has.cell.bytes ≡ code_size schema has.cell.code

  bytes_are : between (offset_in (bytes_at list found.page.0) on.i) (stop_in (bytes_at list found.page.0) on.i) (bytes_at list found.page.0) ≡ has.cell.bytes
  bytes_are = ap (λ (c : Cell). c.bytes) on.held_is ∙ ap (λ (c : PlacedCell). c.bytes) on.cell_is

  row_is : row_in (bytes_at list found.page.0) on.i ≡ on.held.row
  row_is = ap (λ (c : Cell). c.row) on.held_is

  code_is : (row_in (bytes_at list found.page.0) on.i).code ≡ has.cell.code
  code_is = ap (λ (r : Row). r.code) row_is ∙ ap (λ (c : PlacedCell). c.code) on.cell_is

  live_is : (row_in (bytes_at list found.page.0) on.i).live ≡ true
  live_is = ap (λ (r : Row). r.live) row_is ∙ ap (λ (c : PlacedCell). c.live) on.cell_is ∙ has.has.live

  pub inside : IsInside
  inside =
      let end = place_within schema list (address_of found) found.number.0 has.cell found.place has.has sized in
      let eight : kind_size found.place.kind ≡ 8 = ap kind_size has.kind in
      let shape = IsPage-shape (bytes_at list found.page.0) on.good in
      let range = cell_range (rows_in (bytes_at list found.page.0)) (end_in (bytes_at list found.page.0)) (offset_in (bytes_at list found.page.0)) shape.offsets on.i on.below in
      let room = shape.room in
      let whole = shape.whole in
      let some = range.some in
      let most = range.most in
      record {
        in_cell = omega arith;
        long = sym (ap (λ (b : List ℕ). length b) bytes_are) ∙ length-between (offset_in (bytes_at list found.page.0) on.i) (stop_in (bytes_at list found.page.0) on.i) (bytes_at list found.page.0) (omega arith);
        start = on.offset_is;
        before = some;
        most = omega arith;
        size = (sized_parts schema has.cell.code has.cell.bytes sized).1;
      }

  pub there : found.page.0 < length list
  there = on.high

  pub in_page : found.offset + found.place.offset + 8 ≤ 4096
  in_page =
      let is = inside in
      let in_cell = is.in_cell in
      let long = is.long in
      let start = is.start in
      let before = is.before in
      let most = is.most in
      omega arith

  beside : AllByRecursion (IsBeside found.place.offset 8) (pointers_of schema has.cell.code)
  beside = beside_int schema has.cell.code found.number.0 found.place has.has.typed has.has.lies has.kind

  -- the int is read as it is in the cell
  pub read : (home : ℕ → Option ℕ) (image : List ℕ) → IsSeenAs (pointers_of schema) home found.page.0 image (bytes_at list found.page.0) → int_at (found.offset + found.place.offset) image ≡ int_at found.place.offset has.cell.bytes
  unfolding header_at
  read home image seen =
      let is = inside in
      let in_cell = is.in_cell in
      let long = is.long in
      ap (λ (o : ℕ). int_at (o + found.place.offset) image) (sym on.offset_is)
      ∙ seen_int schema home found.page.0 image (bytes_at list found.page.0) on.low on.kind cells seen on.i found.place.offset on.below live_is
      (subst (λ (code : ℕ). found.place.offset + 8 ≤ code_size schema code) (sym code_is) (subst (λ (n : ℕ). found.place.offset + 8 ≤ n) is.size in_cell))
      (subst (λ (code : ℕ). AllByRecursion (IsBeside found.place.offset 8) (pointers_of schema code)) (sym code_is) beside)
      ∙ ap (cast_signed w64) (number_in_cell 8 (offset_in (bytes_at list found.page.0) on.i) (stop_in (bytes_at list found.page.0) on.i) found.place.offset (bytes_at list found.page.0) (omega arith))
      ∙ ap (int_at found.place.offset) bytes_are

  -- it may be written
  pub can_put : (told : PagesTold) → told.sizes ≡ size_told schema → told.pointers ≡ pointers_of schema → (n : ℕ) → n ≡ 8 → HasBytesInCell told found.page.0 found.offset found.place.offset n list
  can_put told sizes pointers n eight =
      let is = inside in
      let in_cell = is.in_cell in
      let held_code : on.held.row.code ≡ has.cell.code = ap (λ (c : PlacedCell). c.code) on.cell_is in
      let held_bytes : on.held.bytes ≡ has.cell.bytes = ap (λ (c : PlacedCell). c.bytes) on.cell_is in
      let held_long : length on.held.bytes ≡ length has.cell.bytes = ap (λ (b : List ℕ). length b) held_bytes in
      record {
        lies = (on.low, on.high);
        good = on.good;
        cell = on.held;
        there = contains_at (cells_of (bytes_at list found.page.0)) on.i on.held on.there;
        begins = ap (λ (r : Row). r.offset) (sym row_is) ∙ on.offset_is;
        live = ap (λ (c : PlacedCell). c.live) on.cell_is ∙ has.has.live;
        sized =
            ap (λ (f : ℕ → Option ℕ). f on.held.row.code) sizes ∙ ap (size_told schema) held_code ∙ told_size schema has.cell.code has.cell.bytes sized
            ∙ ap (λ (m : ℕ). Some m) (sym held_long);
        within = omega arith;
        beside =
            subst (λ (m : ℕ). AllByRecursion (IsBeside found.place.offset m) (told.pointers on.held.row.code)) (sym eight)
            (subst (λ (f : ℕ → List ℕ). AllByRecursion (IsBeside found.place.offset 8) (f on.held.row.code)) (sym pointers)
            (subst (λ (code : ℕ). AllByRecursion (IsBeside found.place.offset 8) (pointers_of schema code)) (sym held_code) beside));
      }

  -- what the write makes
  pub written : (value : ℤ) (part : List ℕ) (new : List PageImage) → FitsSigned w64 value → part ≡ little_bytes 8 (cast_unsigned w64 value) → length part ≡ 8 → new ≡ with_bytes list found.page.0 (found.offset + found.place.offset) part
      → StoresInt schema found value list new
  unfolding header_at
  written value part new fits part_is eight is_new =
      let is = inside in
      let in_cell = is.in_cell in
      let long = is.long in
      let start = is.start in
      let before = is.before in
      let edit = replaced-EditsCell (found.offset + found.place.offset) part (bytes_at list found.page.0) on.i on.good on.below (omega arith) (omega arith) in
      let back : found.offset + found.place.offset - offset_in (bytes_at list found.page.0) on.i ≡ found.place.offset = omega arith in
      let put_bytes : replaced (found.offset + found.place.offset - offset_in (bytes_at list found.page.0) on.i) part (between (offset_in (bytes_at list found.page.0) on.i) (stop_in (bytes_at list found.page.0) on.i) (bytes_at list found.page.0)) ≡ with_int found.place.offset value has.cell.bytes =
      ap (λ (o : ℕ). replaced o part (between (offset_in (bytes_at list found.page.0) on.i) (stop_in (bytes_at list found.page.0) on.i) (bytes_at list found.page.0))) back
      ∙ ap₂ (λ (p b : List ℕ). replaced found.place.offset p b) part_is bytes_are in
      let here : EditsCell (bytes_at list found.page.0) (replaced (found.offset + found.place.offset) part (bytes_at list found.page.0)) found.offset (with_int found.place.offset value has.cell.bytes) =
      subst₂ (λ (o : ℕ) (b : List ℕ). EditsCell (bytes_at list found.page.0) (replaced (found.offset + found.place.offset) part (bytes_at list found.page.0)) o b) start put_bytes edit in
      let count : length new ≡ length list = ap (λ (l : List PageImage). length l) is_new ∙ edited_length list found.page.0 (found.offset + found.place.offset) part in
      record {
        cell = has.cell;
        writes = record {
          has = has.has;
          kind = has.kind;
          fits = fits;
          edits = record {
            page = found.page.0;
            offset = found.offset;
            at = refl;
            low = has.low;
            was = record { bytes = bytes_at list found.page.0 };
            image = record { bytes = replaced (found.offset + found.place.offset) part (bytes_at list found.page.0) };
            puts = record { there = image_there list found.page.0 on.high; put = is_new };
            edit = here;
          };
        };
        taken = free_stays list new count (λ p. elim (cases_eq p found.page.0) [
          | inl same ↦
              ap header_of (ap₂ bytes_at is_new same ∙ edited_here list found.page.0 (found.offset + found.place.offset) part on.high) ∙ here.header ∙ ap (λ (q : ℕ). header_of (bytes_at list q)) (sym same)
          | inr apart ↦ ap header_of (ap (λ (l : List PageImage). bytes_at l p) is_new ∙ edited_other list found.page.0 (found.offset + found.place.offset) p part apart)
        ]);
        pages = data_stays list new count (λ p. elim (cases_eq p found.page.0) [
          | inl same ↦
              ap header_of (ap₂ bytes_at is_new same ∙ edited_here list found.page.0 (found.offset + found.place.offset) part on.high) ∙ here.header ∙ ap (λ (q : ℕ). header_of (bytes_at list q)) (sym same)
          | inr apart ↦ ap header_of (ap (λ (l : List PageImage). bytes_at l p) is_new ∙ edited_other list found.page.0 (found.offset + found.place.offset) p part apart)
        ]);
      }
