-- A new object: a serial is drawn, and a cell of zeros is added with it.
use Rattle.std.proofs.Common.{◌≡◌, ◌≢◌, ℕ, ◌+◌, ◌<◌, ◌≤◌, ◌||◌, Bool, true, false, zero, suc, List, length, map, replicate, refl, sym, ap, subst, subst₂, ◌∙◌, arith, Some, None, inl, inr, add-one, Option}
use Rattle.std.specs.List.{slice_get}
use Rattle.std.specs.Option.{option_map}
use Rattle.std.specs.FinMap as maps
use Rattle.std.proofs.lemmas.Bool.{cases_eq, eq-eqb, le-leb, and_from}
use Rattle.std.proofs.lemmas.Option.{same_Some, slice_get_within}
use Rattle.ostore_base.specs.declared.page.PageImage.{PageImage}
use Rattle.ostore_page_tags.specs.declared.page_header.PageHeader.{PageHeader}
use Rattle.ostore_page_tags.specs.Header.{header_of}
use Rattle.ostore_page_tags.specs.Rules.{IsPage, is_type_code, is_chunk_code}
use Rattle.ostore_schema_layout.specs.declared.schema.Schema.{Schema}
use Rattle.ostore_schema_layout.specs.declared.schema.TypeDef.{TypeDef}
use Rattle.ostore_schema_layout.specs.declared.schema.MemberDef.{MemberDef}
use Rattle.ostore_schema_layout.specs.Cells.{places_from, cell_size, code_size}
use Rattle.ostore_schema_layout.specs.Numbers.{members_of, members_of_found}
use Rattle.ostore_graph_model.specs.declared.values.Name.{Name}
use Rattle.ostore_graph_model.specs.declared.values.Scalar.{Scalar}
use Rattle.ostore_graph_model.specs.Graph.{Graph, Object, last_serial}
use Rattle.ostore_graph_model.specs.Deeds.Objects.{first_value, new_object, next_name, with_new}
use Rattle.ostore_graph_model.specs.Addresses.{PlacedCell, cell_at}
use Rattle.ostore_graph_model.specs.CellRules.{is_written}
use Rattle.ostore_graph_model.specs.FixedPages.{roots_of, serial_of}
use Rattle.ostore_graph_model.specs.Heap.{tag_at, live_cell, name_in}
use Rattle.ostore_graph_model.specs.HeapRules.{KeepsSerials, KeepsRoots}
use Rattle.ostore_graph_model.specs.LawsOfMeaning.{HoldGraph, LeavesGraph, LawOfNewObjects}
use Rattle.ostore_graph_model.specs.MemberValues.{values_in, values_of}
use Rattle.ostore_graph_model.specs.PageEdits.{AddsAt}
use Rattle.ostore_graph_model.specs.Records.{Slot, slot_in, Links, RowTag, heap_cell, heap_of, is_sized}
use Rattle.ostore_graph_model.specs.StandsFor.{StandsFor, ShowsRoots, ShowsSerials}
use Rattle.ostore_graph_model.proofs.AllocationLaws.{data_page}
use Rattle.ostore_graph_model.proofs.PageLaws.{page_link, bytes_are, header_is}
use Rattle.ostore_graph_model.proofs.DrawLaw.{last_serial_is, drawn_links, serial_here, draw_holds}
use Rattle.ostore_graph_model.proofs.AddressLaws.{cell_at-read, page_put, cell_at-put_other, cell_in-added_other, cell_in-added_new, cell_in-added_none}
use Rattle.ostore_graph_model.proofs.EditLaws.{put_roots, put_serials, put_pages}
use Rattle.ostore_graph_model.proofs.RecordLaws.{code_size_of_type, links_in_object}
use Rattle.ostore_graph_model.proofs.WrittenLaws.{object_code_written}
use Rattle.ostore_graph_model.proofs.HeapLaws.{ChangesObject, chains_kept, owners_kept, items_kept, pointers_kept, links_kept}
use Rattle.ostore_graph_model.proofs.ShownLaws.{lists_kept, dictionaries_kept, indexes_kept, roots_kept, good_roots}
use Rattle.ostore_graph_model.proofs.ZeroLaws.{values_zero, slots_zero, object_written_zero}
use Rattle.ostore_graph_model.proofs.AddLaw.{AddsObject, added_codes, added_names, added_changes, added_alone, added_serials, objects_added, pairs_added}

length_zeros : (n : ℕ) → length {A = ℕ} (replicate n 0) ≡ n
length_zeros zero = refl
length_zeros (suc n) = let rest = length_zeros n in omega arith

members_at : (schema : Schema) (place : ℕ) (ty : TypeDef) → slice_get schema.types place ≡ Some ty → members_of schema (place + 1) ≡ ty.members
members_at schema place ty there = ap (members_of schema) (add-one place) ∙ ap members_of_found there

module _ (schema : Schema) (old new : List PageImage) (address segment serial place : ℕ) (ty : TypeDef) (adds : AddsAt old new address segment (cell_size ty.members) (place + 1) serial)
    (there : slice_get schema.types place ≡ Some ty) (few : place + 1 ≤ 64) (graph : Graph) (holds : HoldGraph schema old graph) where
  abbrev tag : RowTag
  tag = record { segment = segment; code = place + 1; serial = serial }

  abbrev zeros : List ℕ
  zeros = replicate (cell_size ty.members) 0

  abbrev the_cell : PlacedCell
  the_cell = record { segment = segment; code = place + 1; live = true; serial = serial; bytes = replicate (cell_size ty.members) 0 }

  typed : is_type_code (place + 1) ≡ true
  typed = and_from _ _ (le-leb 1 (place + 1) (omega arith)) (le-leb (place + 1) 64 few)

  members_are : members_of schema (place + 1) ≡ ty.members
  members_are = members_at schema place ty there

  below : adds.page < length old
  below = slice_get_within old adds.page adds.was adds.puts.there

  page_was : IsPage adds.was.bytes
  page_was =
      subst IsPage (bytes_are old adds.page adds.was adds.puts.there)
      (data_page old adds.page holds.pages_kept.allocated adds.high below (ap (λ (h : PageHeader). h.kind) (header_is old adds.page adds.was adds.puts.there) ∙ adds.kind))

  -- ---- the cells

  cell_free : cell_at old address ≡ None
  cell_free = ap (cell_at old) adds.at ∙ cell_at-read old adds.page _ adds.was adds.puts.there adds.high adds.low ∙ cell_in-added_none adds.was.bytes adds.image.bytes _ _ _ adds.adds page_was

  cell_new : cell_at new address ≡ Some the_cell
  cell_new =
      ap (cell_at new) adds.at
      ∙ cell_at-read new adds.page _ adds.image (page_put old new adds.page adds.was adds.image adds.puts) adds.high adds.low
      ∙ cell_in-added_new adds.was.bytes adds.image.bytes _ _ _ adds.adds adds.kind page_was
      ∙ ap (λ (s : ℕ). Some (record { segment = s; code = place + 1; live = true; serial = serial; bytes = replicate (cell_size ty.members) 0 })) adds.segment_is

  cell_other : (other : ℕ) → other ≢ address → cell_at new other ≡ cell_at old other
  cell_other other apart =
      cell_at-put_other old new adds.page adds.was adds.image (header_of adds.was.bytes).end other adds.puts adds.low (cell_in-added_other adds.was.bytes adds.image.bytes _ _ _ adds.adds) (λ e. apart (e ∙ sym adds.at))

  -- ---- what the new cell holds

  sized : is_sized schema (place + 1) zeros ≡ true
  sized =
      let most = slice_get_within schema.types place ty there in
      let size : length zeros ≡ code_size schema (place + 1) = length_zeros (cell_size ty.members) ∙ ap cell_size (sym members_are) ∙ sym (code_size_of_type schema (place + 1) typed) in
      and_from _ _
      (ap (λ b. is_chunk_code (place + 1) || b) (and_from _ _ (le-leb 1 (place + 1) (omega arith)) (le-leb (place + 1) (length schema.types) (omega arith))) ∙ or_true (is_chunk_code (place + 1)))
      (eq-eqb _ _ size)
    where
      or_true : (b : Bool) → (b || true) ≡ true
      or_true true = refl
      or_true false = refl

  abbrev slots : List Slot
  slots = map (slot_in zeros) (places_from 0 (members_of schema (place + 1)))

  links_new : heap_of schema new address ≡ Some (live_cell tag (Links.Object slots))
  unfolding heap_of
  links_new = ap (option_map (heap_cell schema)) cell_new ∙ ap (λ (l : Links). Some (live_cell tag l)) (links_in_object schema (place + 1) zeros typed sized)

  links_free : heap_of schema old address ≡ None
  unfolding heap_of
  links_free = ap (option_map (heap_cell schema)) cell_free

  links_other : (other : ℕ) → other ≢ address → heap_of schema new other ≡ heap_of schema old other
  unfolding heap_of
  links_other other apart = ap (option_map (heap_cell schema)) (cell_other other apart)

  abbrev held : List (Option Scalar)
  held = map (λ (member : MemberDef). first_value member.kind) ty.members

  values_new : values_of schema new address ≡ Some held
  unfolding values_of
  values_new =
      ap (option_map (values_in schema)) cell_new
      ∙ ap Some (values_zero (cell_size ty.members) 0 (members_of schema (place + 1)) ∙ ap (map (λ (member : MemberDef). first_value member.kind)) members_are)

  values_other : (other : ℕ) → other ≢ address → values_of schema new other ≡ values_of schema old other
  unfolding values_of
  values_other other apart = ap (option_map (values_in schema)) (cell_other other apart)

  written : (other : ℕ) (cell : PlacedCell) → cell_at new other ≡ Some cell → is_written schema cell ≡ true
  written other cell found = elim (cases_eq other address) [
    | inl here ↦
        let is : the_cell ≡ cell = same_Some _ _ (sym cell_new ∙ ap (cell_at new) (sym here) ∙ found) in
        subst (λ c. is_written schema c ≡ true) is
        (and_from _ _ sized (object_code_written schema (place + 1) zeros typed ∙ object_written_zero (cell_size ty.members) 0 (members_of schema (place + 1))))
    | inr apart ↦ holds.cells_kept.written other cell (sym (cell_other other apart) ∙ found)
  ]

  -- ---- the law

  module _ (fresh : (other : ℕ) (also : RowTag) → tag_at (heap_of schema old) other ≡ Some also → is_type_code also.code ≡ true → name_in also ≢ name_in tag) (counted : serial ≤ serial_of old segment) where
    object : AddsObject (heap_of schema old) (heap_of schema new) address tag slots
    object = record {
      free = links_free;
      stands = record { there = links_new; typed = typed };
      others = links_other;
      empty = slots_zero (cell_size ty.members) 0 (members_of schema (place + 1));
      fresh = fresh;
    }

    change : ChangesObject schema (heap_of schema old) (heap_of schema new) address
    change = added_changes schema (heap_of schema old) (heap_of schema new) address tag slots object

    change_alone : change.inverse ≡ None
    unfolding change
    change_alone = added_alone schema (heap_of schema old) (heap_of schema new) address tag slots object

    same_link : page_link (header_of adds.image.bytes) ≡ page_link (header_of adds.was.bytes)
    same_link = ap page_link adds.adds.header

    same_counter : (header_of adds.image.bytes).last_serial ≡ (header_of adds.was.bytes).last_serial
    same_counter = ap (λ (h : PageHeader). h.last_serial) adds.adds.header

    same_roots : roots_of new ≡ roots_of old
    same_roots = put_roots old new adds.page adds.was adds.image adds.puts adds.high same_link

    same_serials : serial_of new ≡ serial_of old
    same_serials = put_serials old new adds.page adds.was adds.image adds.puts adds.high same_link same_counter

    add_stands : StandsFor schema new (record graph { objects = maps.insert graph.objects (name_in tag) (record { ty = record { 0 = place + 1 }; values = map (λ (member : MemberDef). first_value member.kind) ty.members }) })
    add_stands =
        let heap = heap_of schema old in
        let now = heap_of schema new in
        let cells = holds.cells_kept in
        let stands = holds.stands in
        let names = added_names schema heap now address tag slots object in
        record {
          objects = objects_added schema heap now address tag slots object (values_of schema old) (values_of schema new) held graph.objects values_new values_other stands.objects;
          pairs = pairs_added schema heap now address tag slots object cells.pointers cells.items graph.pairs stands.pairs;
          lists = lists_kept schema heap now address change names cells.pointers cells.items graph.lists stands.lists;
          dictionaries = dictionaries_kept schema heap now address change names cells.pointers cells.items graph.dictionaries stands.dictionaries;
          roots = subst (λ rows. ShowsRoots now rows graph.roots) (sym same_roots) (roots_kept schema heap now address change names cells.pointers cells.items (roots_of old) graph.roots cells.roots stands.roots);
          serials = subst (λ counters. ShowsSerials counters graph.serials) (sym same_serials) stands.serials;
          indexes = indexes_kept schema heap now address change names cells.pointers cells.items graph.indexes stands.indexes;
        }

    pub add_leaves : LeavesGraph schema old new (record graph { objects = maps.insert graph.objects (name_in tag) (record { ty = record { 0 = place + 1 }; values = map (λ (member : MemberDef). first_value member.kind) ty.members }) })
    add_leaves =
        let heap = heap_of schema old in
        let now = heap_of schema new in
        let cells = holds.cells_kept in
        record {
          holds = record {
            pages_kept = put_pages old new adds.page adds.was adds.image adds.puts adds.high same_link same_counter schema adds.adds.page holds.pages_kept;
            cells_kept = record {
              written = written;
              roots = subst (KeepsRoots now) (sym same_roots) (good_roots heap now (roots_of old) (added_codes schema heap now address tag slots object) cells.roots);
              pointers = pointers_kept schema heap now address change cells.pointers;
              serials = subst (λ counters. (other : ℕ) → KeepsSerials (tag_at now) counters other) (sym same_serials) (added_serials schema heap now address tag slots object (serial_of old) counted cells.serials);
              chains = chains_kept schema heap now address change cells.chains;
              owners = owners_kept schema heap now address change cells.owners;
              items = items_kept schema heap now address change cells.items;
            };
            stands = add_stands;
          };
          links_kept = λ good. links_kept schema heap now address change change_alone good;
        }

pub new_law : LawOfNewObjects
new_law schema old drawing new address segment place ty graph holds there few draws adds =
    let pages = holds.pages_kept in
    let middle = draw_holds schema old drawing segment draws pages graph holds in
    let same = drawn_links schema old drawing segment draws pages in
    let last = last_serial_is (serial_of old) graph segment holds.stands.serials in
    let raised = serial_here schema old drawing segment draws pages in
    let fresh : (other : ℕ) (also : RowTag) → tag_at (heap_of schema drawing) other ≡ Some also → is_type_code also.code ≡ true → name_in also ≢ record { segment = segment; serial = serial_of old segment + 1 } = λ other also found kind named.
    let low = (holds.cells_kept.serials other also (ap (λ heap. tag_at heap other) (sym same) ∙ found) kind).drawn in
    let in_segment : also.segment ≡ segment = ap (λ (n : Name). n.segment) named in
    let with_serial : also.serial ≡ serial_of old segment + 1 = ap (λ (n : Name). n.serial) named in
    let counter = ap (serial_of old) in_segment in
    omega arith in
    let after = add_leaves schema drawing new address segment (serial_of old segment + 1) place ty adds there few (record graph { serials = maps.insert graph.serials segment (last_serial graph segment + 1) }) middle.holds fresh (omega arith) in
    let name : record { segment = segment; serial = serial_of old segment + 1 } ≡ next_name graph segment = ap (λ (n : ℕ). record { segment = segment; serial = n + 1 }) (sym last) in
    let object_is : record { ty = record { 0 = place + 1 }; values = map (λ (member : MemberDef). first_value member.kind) ty.members } ≡ new_object schema (record { 0 = place + 1 }) =
    ap (λ (members : List MemberDef). record { ty = record { 0 = place + 1 }; values = map (λ (member : MemberDef). first_value member.kind) members }) (sym (members_at schema place ty there)) in
    let whole : LeavesGraph schema drawing new (with_new graph segment (new_object schema (record { 0 = place + 1 }))) = subst₂ (λ (n : Name) (o : Object). LeavesGraph schema drawing new (record graph {
      objects = maps.insert graph.objects n o;
      serials = maps.insert graph.serials segment (last_serial graph segment + 1);
    })) name object_is after in
    record { holds = whole.holds; links_kept = λ good. whole.links_kept (middle.links_kept good) }
