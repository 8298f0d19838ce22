-- The rows of good pages: each object's row has a serial that was drawn, and a pointer to it leads to its name.
use Rattle.std.proofs.Common.{◌≡◌, ℕ, ◌<◌, ◌≤◌, ◌&&◌, ◌||◌, not, Bool, true, false, cond, eqb, leb, List, [], ◌∷◌, length, refl, sym, ap, ap₂, subst, ◌∙◌, arith, true≢false, Option, Some, None, inl, inr}
use Rattle.std.specs.Prelude.{unwrap_or, is_some, ◌/◌, ◌%◌}
use Rattle.std.specs.List.{find, slice_get, list_all, AllByRecursion}
use Rattle.std.specs.Option.{option_map, option_and_then}
use Rattle.std.specs.Ordering.{nat_cmp}
use Rattle.std.specs.FinMap as maps
use Rattle.std.proofs.lemmas.Bool.{cases_Bool, cases_eq, and_parts, and_from, le-leb, leb-true, lt-leb, eq-eqb, eqb-true}
use Rattle.std.proofs.lemmas.Option.{same_Some, none-some, slice_get_within}
use Rattle.ostore_base.specs.declared.page.PageImage.{PageImage}
use Rattle.ostore_page_tags.specs.declared.tag_rows.Row.{Row}
use Rattle.ostore_page_tags.specs.Header.{header_of}
use Rattle.ostore_page_tags.specs.Rows.{rows_of}
use Rattle.ostore_page_tags.specs.Cells.{Cell, cells_of}
use Rattle.ostore_page_tags.specs.Rules.{is_type_code, is_chunk_code, is_tag}
use Rattle.ostore_page_tags.specs.PageLists.{bytes_at, header_at}
use Rattle.ostore_page_tags.specs.Allocated.{IsAllocated}
use Rattle.ostore_page_tags.proofs.shape.PageShape.{lawful_parts}
use Rattle.ostore_schema_layout.specs.declared.schema.Schema.{Schema}
use Rattle.ostore_schema_layout.specs.declared.schema.TypeNo.{TypeNo}
use Rattle.ostore_schema_layout.specs.declared.schema.MemberKind.{MemberKind}
use Rattle.ostore_schema_layout.specs.declared.schema.MemberKind.TheVariants as kinds
use Rattle.ostore_schema_layout.specs.Cells.{IsType, code_size}
use Rattle.ostore_schema_layout.specs.Lawful.{IsLawful, IsLawfulKind}
use Rattle.ostore_graph_model.specs.declared.values.Name.{Name}
use Rattle.ostore_graph_model.specs.Kinds.{is_scalar}
use Rattle.ostore_graph_model.specs.Graph.{Graph, Object, last_serial, is_drawn}
use Rattle.ostore_graph_model.specs.GraphRules.{IsNameOf}
use Rattle.ostore_graph_model.specs.LiveGraphs.{IsLive}
use Rattle.ostore_graph_model.specs.Addresses.{PlacedCell, placed, begins_at, cell_in, cell_at}
use Rattle.ostore_graph_model.specs.Chains.{item_type}
use Rattle.ostore_graph_model.specs.FixedPages.{serial_of}
use Rattle.ostore_graph_model.specs.Heap.{tag_at, code_at, name_in, name_at, IsObject}
use Rattle.ostore_graph_model.specs.MemberValues.{values_in, values_of}
use Rattle.ostore_graph_model.specs.Records.{Slot, RowTag, HeapCell, heap_cell, heap_of, is_sized}
use Rattle.ostore_graph_model.specs.StandsFor.{ShowsSerials}
use Rattle.ostore_graph_model.specs.LawsOfMeaning.{HoldGraph}
use Rattle.ostore_graph_model.proofs.AddressLaws.{cell_at-page}
use Rattle.ostore_graph_model.proofs.AllocationLaws.{data_page}
use Rattle.ostore_graph_model.proofs.ObjectLaws.{AreNamesOwn, names_own, tag_of_cell}
use Rattle.ostore_graph_model.proofs.PageLaws.{bytes_are}
use Rattle.ostore_graph_model.proofs.Meant.Bytes.{AreSmall, found_one, small_cells, row_cells}

-- ---- the cell at an address

-- where a cell is found: on a page of objects, among its cells
pub record IsFound (pages : List PageImage) (cell : PlacedCell) : Type 0 where
  pub page : ℕ
  pub low : 10 ≤ page
  pub high : page < length pages
  pub kind : (header_at pages page).kind ≡ 2
  pub one : Cell
  pub offset : ℕ
  pub found : find (begins_at offset) (cells_of (bytes_at pages page)) ≡ Some one
  pub is : placed (header_of (bytes_at pages page)).segment one ≡ cell

in_page : (bytes : List ℕ) (offset : ℕ) (cell : PlacedCell) → cell_in bytes offset ≡ Some cell
    → ((header_of bytes).kind ≡ 2) × (one : Cell) × (find (begins_at offset) (cells_of bytes) ≡ Some one) × (placed (header_of bytes).segment one ≡ cell)
unfolding cell_in
in_page bytes offset cell e = elim (cases_Bool (eqb (header_of bytes).kind 2)) [
  | inl kind ↦
      let there = sym (ap (λ b. cond b (option_map (placed (header_of bytes).segment) (find (begins_at offset) (cells_of bytes))) None) kind) ∙ e in
      let is = by (find (begins_at offset) (cells_of bytes)) refl there in
      (eqb-true _ _ kind, is.0, is.1, is.2)
  | inr other ↦ absurd (none-some cell (sym (ap (λ b. cond b (option_map (placed (header_of bytes).segment) (find (begins_at offset) (cells_of bytes))) None) other) ∙ e))
]
  where
    by : (found : Option Cell) → find (begins_at offset) (cells_of bytes) ≡ found → option_map (placed (header_of bytes).segment) found ≡ Some cell
        → (one : Cell) × (find (begins_at offset) (cells_of bytes) ≡ Some one) × (placed (header_of bytes).segment one ≡ cell)
    by None f there = absurd (none-some cell there)
    by (Some one) f there = (one, f, same_Some _ _ there)

pub cell_found : (pages : List PageImage) (address : ℕ) (cell : PlacedCell) → cell_at pages address ≡ Some cell → IsFound pages cell
unfolding cell_at header_at
cell_found pages address cell there = by (slice_get pages (address / 4096)) refl (sym (ap (λ b. option_and_then (λ (image : PageImage). cell_in image.bytes (address % 4096)) (cond b (slice_get pages (address / 4096)) None)) (le-leb 10 (address / 4096) low)) ∙ there)
  where
    low : 10 ≤ address / 4096
    low = cell_at-page pages address cell there

    by : (got : Option PageImage) → slice_get pages (address / 4096) ≡ got → option_and_then (λ (image : PageImage). cell_in image.bytes (address % 4096)) got ≡ Some cell → IsFound pages cell
    by None e none = absurd (none-some cell none)
    by (Some image) e some =
        let bytes : bytes_at pages (address / 4096) ≡ image.bytes = bytes_are pages (address / 4096) image e in
        let parts = in_page (bytes_at pages (address / 4096)) (address % 4096) cell (ap (λ b. cell_in b (address % 4096)) bytes ∙ some) in
        record {
          page = address / 4096;
          low = low;
          high = slice_get_within pages (address / 4096) image e;
          kind = parts.0;
          one = parts.1;
          offset = address % 4096;
          found = parts.2;
          is = parts.3;
        }

-- the rules of one row: an object's has a serial
row_tagged : (pages : List PageImage) (cell : PlacedCell) → IsAllocated pages → IsFound pages cell → is_tag cell.code cell.serial ≡ true
unfolding header_at
row_tagged pages cell fine at =
    let page = data_page pages at.page fine at.low at.high at.kind in
    let types = (lawful_parts (bytes_at pages at.page) page.lawful).3 in
    let rows = all_of (λ (row : Row). is_tag row.code row.serial) (rows_of (bytes_at pages at.page)) types in
    let each = row_cells (λ (row : Row). is_tag row.code row.serial ≡ true) (header_of (bytes_at pages at.page)).end (bytes_at pages at.page) (rows_of (bytes_at pages at.page)) rows in
    let one = found_one (begins_at at.offset) (λ (c : Cell). is_tag c.row.code c.row.serial ≡ true) (cells_of (bytes_at pages at.page)) at.one each at.found in
    subst (λ (c : PlacedCell). is_tag c.code c.serial ≡ true) at.is one
  where
    all_of : {X : Type 0} (test : X → Bool) (xs : List X) → list_all test xs ≡ true → AllByRecursion (λ x. test x ≡ true) xs
    all_of test [] all = tt
    all_of test (x ∷ xs) all = let parts = and_parts (test x) (list_all test xs) all in (parts.0, all_of test xs parts.1)

pub small_cell : (pages : List PageImage) (cell : PlacedCell) → ((page : ℕ) → AreSmall (bytes_at pages page)) → IsFound pages cell → AreSmall cell.bytes
small_cell pages cell small at =
    subst (λ (c : PlacedCell). AreSmall c.bytes) at.is
    (found_one (begins_at at.offset) (λ (c : Cell). AreSmall c.bytes) (cells_of (bytes_at pages at.page)) at.one
    (small_cells (header_of (bytes_at pages at.page)).end (bytes_at pages at.page) (rows_of (bytes_at pages at.page)) (small at.page)) at.found)

pub serial_some : (code serial : ℕ) → is_tag code serial ≡ true → is_type_code code ≡ true → 1 ≤ serial
serial_some code serial tagged typed = elim (cases_eq serial 0) [
  | inl none ↦
      let zeros : eqb serial 0 ≡ true = eq-eqb _ _ none in
      let high = leb-true code 64 (and_parts (leb 1 code) (leb code 64) typed).1 in
      let other : leb 240 code ≡ false = lt-leb _ _ (omega arith) in
      absurd (true≢false (sym tagged ∙ ap₂ (λ (z l : Bool). is_type_code code && not z || (l && leb code 246) && z) zeros other ∙ off (is_type_code code)))
  | inr some ↦ omega arith
]
  where
    off : (b : Bool) → ((b && not true) || (false && leb code 246) && true) ≡ false
    off true = refl
    off false = refl

-- ---- serials

pub last_is : (counters : ℕ → ℕ) (serials : maps.FinMap nat_cmp ℕ) → ShowsSerials counters serials → (segment : ℕ) → unwrap_or (maps.get serials segment) 0 ≡ counters segment
last_is counters serials shown segment = by (maps.get serials segment) refl
  where
    by : (found : Option ℕ) → maps.get serials segment ≡ found → unwrap_or found 0 ≡ counters segment
    by None e = elim (cases_eq (counters segment) 0) [
      | inl none ↦ sym none
      | inr some ↦ absurd (none-some (counters segment) (sym e ∙ (shown segment (counters segment)).1 (refl, some)))
    ]
    by (Some serial) e = sym ((shown segment serial).0 e).0

-- ---- types

pub type_code_of : (schema : Schema) → IsLawful schema → (n : ℕ) → IsType schema n → is_type_code n ≡ true
type_code_of schema lawful n is =
    let few = lawful.few in
    let low = is.0 in
    let high = is.1 in
    and_from (leb 1 n) (leb n 64) (le-leb 1 n low) (le-leb n 64 (omega arith))

-- what a member leads to is of a type
pub target_typed : (schema : Schema) → IsLawful schema → (kind : MemberKind) → IsLawfulKind schema kind → is_scalar kind ≡ false → is_type_code (item_type kind) ≡ true
target_typed schema lawful kinds.Int is e = absurd (true≢false e)
target_typed schema lawful (kinds.Text max) is e = absurd (true≢false e)
target_typed schema lawful (kinds.Ref target) is e = type_code_of schema lawful target.0 is
target_typed schema lawful (kinds.Set target) is e = type_code_of schema lawful target.0 is
target_typed schema lawful (kinds.List target) is e = type_code_of schema lawful target.0 is
target_typed schema lawful (kinds.DictInt target) is e = type_code_of schema lawful target.0 is
target_typed schema lawful (kinds.DictText target) is e = type_code_of schema lawful target.0 is

-- the code of a cell of a type is that of one of the schema's types
pub sized_type : (schema : Schema) (code : ℕ) (bytes : List ℕ) → is_sized schema code bytes ≡ true → is_type_code code ≡ true → IsType schema code
sized_type schema code bytes sized typed =
    let high = leb-true code 64 (and_parts (leb 1 code) (leb code 64) typed).1 in
    let other : leb 240 code ≡ false = lt-leb _ _ (omega arith) in
    let known = (and_parts (is_chunk_code code || leb 1 code && leb code (length schema.types)) (eqb (length bytes) (code_size schema code)) sized).0 in
    let types : (leb 1 code && leb code (length schema.types)) ≡ true = sym (ap (λ b. (b && leb code 246) || leb 1 code && leb code (length schema.types)) other) ∙ known in
    let parts = and_parts (leb 1 code) (leb code (length schema.types)) types in
    (leb-true 1 code parts.0, leb-true code (length schema.types) parts.1)

-- ---- rows and names

module _ (schema : Schema) (pages : List PageImage) (graph : Graph) (holds : HoldGraph schema pages graph) where
  own : AreNamesOwn (heap_of schema pages)
  own = names_own (heap_of schema pages) (serial_of pages) holds.cells_kept.serials

  -- the cell of a row
  pub cell_of_row : (address : ℕ) (row : HeapCell) → heap_of schema pages address ≡ Some row → (cell : PlacedCell) × (cell_at pages address ≡ Some cell) × (heap_cell schema cell ≡ row)
  unfolding heap_of
  cell_of_row address row there = by (cell_at pages address) refl there
    where
      by : (found : Option PlacedCell) → cell_at pages address ≡ found → option_map (heap_cell schema) found ≡ Some row → (cell : PlacedCell) × (cell_at pages address ≡ Some cell) × (heap_cell schema cell ≡ row)
      by None e is = absurd (none-some row is)
      by (Some cell) e is = (cell, e, same_Some _ _ is)

  row_drawn : (address : ℕ) (row : HeapCell) → heap_of schema pages address ≡ Some row → is_type_code row.tag.code ≡ true → is_drawn graph (name_in row.tag) ≡ true
  row_drawn address row there typed =
      let cell = cell_of_row address row there in
      let tagged = row_tagged pages cell.0 holds.pages_kept.allocated (cell_found pages address cell.0 cell.1) in
      let some = serial_some row.tag.code row.tag.serial (subst (λ (r : HeapCell). is_tag r.tag.code r.tag.serial ≡ true) cell.2 tagged) typed in
      let kept = holds.cells_kept.serials address row.tag (tag_of_cell (heap_of schema pages) address row there) typed in
      and_from (leb 1 row.tag.serial) (leb row.tag.serial (last_serial graph row.tag.segment)) (le-leb 1 row.tag.serial some)
      (le-leb row.tag.serial (last_serial graph row.tag.segment) (subst (λ n. row.tag.serial ≤ n) (sym (last_is (serial_of pages) graph.serials holds.stands.serials row.tag.segment)) kept.drawn))

  row_typed : (address : ℕ) (row : HeapCell) → heap_of schema pages address ≡ Some row → is_type_code row.tag.code ≡ true → (object : Object) → maps.get graph.objects (name_in row.tag) ≡ Some object → object.ty.0 ≡ row.tag.code
  row_typed address row there typed object e =
      let h = (holds.stands.objects (name_in row.tag) object).0 e in
      let here = tag_of_cell (heap_of schema pages) address row there in
      let also = tag_of_cell (heap_of schema pages) h.address _ h.stands.there in
      let at = own address h.address row.tag h.tag here typed also h.stands.typed h.named in
      sym h.ty ∙ ap (λ (t : RowTag). t.code) (same_Some _ _ (sym also ∙ ap (tag_at (heap_of schema pages)) at ∙ here))

  pub row_named : (ty : TypeNo) (address : ℕ) (row : HeapCell) → heap_of schema pages address ≡ Some row → is_type_code row.tag.code ≡ true → row.tag.code ≡ ty.0 → IsNameOf graph ty (name_in row.tag)
  row_named ty address row there typed code = record {
    drawn = row_drawn address row there typed;
    typed = λ object e. let is = row_typed address row there typed object e ∙ code in λ i. record { 0 = is i };
  }

  -- what is named at an address of a type's row is the name of an object of the type
  pub pointer_named : (ty : TypeNo) (pointer : ℕ) (x : Name) → is_type_code ty.0 ≡ true → code_at (heap_of schema pages) pointer ≡ Some ty.0 → name_at (heap_of schema pages) pointer ≡ Some x → IsNameOf graph ty x
  pointer_named ty pointer x typed code named = by (heap_of schema pages pointer) refl
    where
      by : (found : Option HeapCell) → heap_of schema pages pointer ≡ found → IsNameOf graph ty x
      by None e = absurd (none-some ty.0 (sym (ap (option_map (λ (c : HeapCell). c.tag.code)) e) ∙ code))
      by (Some row) e =
          let is : row.tag.code ≡ ty.0 = same_Some _ _ (sym (ap (option_map (λ (c : HeapCell). c.tag.code)) e) ∙ code) in
          let name : name_in row.tag ≡ x = same_Some _ _ (sym (ap (λ (c : Option HeapCell). option_map name_in (option_map (λ (d : HeapCell). d.tag) c)) e) ∙ named) in
          subst (IsNameOf graph ty) name (row_named ty pointer row e (ap is_type_code is ∙ typed) is)

  -- ---- live objects

  pub live_object : (address : ℕ) (tag : RowTag) (slots : List Slot) → IsObject (heap_of schema pages) address tag slots → (object : Object) × (maps.get graph.objects (name_in tag) ≡ Some object) × (object.ty.0 ≡ tag.code)
  unfolding values_of
  live_object address tag slots object =
      let cell = cell_of_row address _ object.there in (
        record { ty = record { 0 = tag.code }; values = values_in schema cell.0 },
        (holds.stands.objects (name_in tag) (record { ty = record { 0 = tag.code }; values = values_in schema cell.0 })).1
            (record { address = address; tag = tag; slots = slots; stands = object; named = refl; ty = refl; held = ap (option_map (values_in schema)) cell.1 }),
        refl,
      )

  pub object_lives : (address : ℕ) (tag : RowTag) (slots : List Slot) (x : Name) → IsObject (heap_of schema pages) address tag slots → name_in tag ≡ x → IsLive graph x
  object_lives address tag slots x object named = subst (IsLive graph) named (ap is_some (live_object address tag slots object).1)

  pub live_is_drawn : (x : Name) → IsLive graph x → is_drawn graph x ≡ true
  live_is_drawn x live = by (maps.get graph.objects x) refl live
    where
      by : (found : Option Object) → maps.get graph.objects x ≡ found → is_some found ≡ true → is_drawn graph x ≡ true
      by None e none = absurd (true≢false (sym none))
      by (Some object) e some =
          let h = (holds.stands.objects x object).0 e in
          subst (λ y. is_drawn graph y ≡ true) h.named (row_drawn h.address _ h.stands.there h.stands.typed)
