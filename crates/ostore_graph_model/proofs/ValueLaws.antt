-- A value is written into an int or text member of an object: the pages hold the graph with that value.
use Rattle.std.proofs.Common.{◌≡◌, ℕ, ◌≤◌, List, length, set, sym, ap, subst, subst₂, ◌∙◌, Option, Some}
use Rattle.std.specs.FinMap as maps
use Rattle.std.specs.Prelude.{unwrap_or}
use Rattle.ostore_base.specs.declared.page.PageImage.{PageImage}
use Rattle.ostore_page_tags.specs.Numbers.{with_int}
use Rattle.ostore_schema_layout.specs.declared.schema.Schema.{Schema}
use Rattle.ostore_schema_layout.specs.declared.schema.MemberKind.TheVariants as kinds
use Rattle.ostore_schema_layout.specs.declared.layouts.Place.{Place}
use Rattle.ostore_schema_layout.specs.Cells.{place_end}
use Rattle.ostore_graph_model.specs.declared.values.Scalar.{Scalar}
use Rattle.ostore_graph_model.specs.declared.values.Scalar.TheVariants as scalars
use Rattle.ostore_graph_model.specs.declared.values.Name.{Name}
use Rattle.ostore_graph_model.specs.Graph.{Graph, Object}
use Rattle.ostore_graph_model.specs.Deeds.{LiveMember, no_object, member_at_type}
use Rattle.ostore_graph_model.specs.Deeds.Objects.{with_value, with_held}
use Rattle.ostore_graph_model.specs.Addresses.{PlacedCell}
use Rattle.ostore_graph_model.specs.MemberValues.{value_in, values_in, values_of}
use Rattle.ostore_graph_model.specs.Records.{slot_in, tag_of, heap_of}
use Rattle.ostore_graph_model.specs.Heap.{tag_at}
use Rattle.ostore_graph_model.specs.CellRules.{is_kind_written, is_member_written}
use Rattle.ostore_graph_model.specs.HeapRules.{KeepsRoots, KeepsPointers, KeepsSerials, KeepsChains, KeepsOwner, KeepsItems, KeepsLinks}
use Rattle.ostore_graph_model.specs.StandsFor.{StandsFor, ShowsObjects, ShowsPairs, ShowsLists, ShowsDictionaries, ShowsRoots, ShowsSerials, ShowsIndexes}
use Rattle.ostore_graph_model.specs.PageEdits.{name_of, member_of}
use Rattle.ostore_graph_model.specs.LawsOfMeaning.{HoldGraph, LeavesGraph, LawOfInts}
use Rattle.ostore_graph_model.proofs.JoinedFacts.{live_parts}
use Rattle.ostore_graph_model.proofs.EditLaws.{same_roots, same_serials, pages_edited}
use Rattle.ostore_graph_model.proofs.RecordLaws.{EditsMember, edited_values, other_values, links_stay, with_int-IsWithin, with_int-value, int-slot}
use Rattle.ostore_graph_model.proofs.ObjectLaws.{names_own, objects_changed, object_with, object_of_name}
use Rattle.ostore_graph_model.proofs.MemberEdits.{cell_sized, slots_in, place_within, object_here, values_here, written_edited}

-- the graph in which an object holds a value at a member
abbrev pub holding : Graph → Name → Object → ℕ → Scalar → Graph
holding graph x object member value = record graph { objects = maps.insert graph.objects x (with_value object (record { 0 = member }) value) }

-- bytes of a value's member are others, which read as this value
pub record WritesValue (schema : Schema) (old new : List PageImage) (address member : ℕ) (cell : PlacedCell) (place : Place) (bytes : List ℕ) (value : Scalar) : Type 0 where
  pub edit : EditsMember schema old new address member cell place bytes
  pub reads : value_in bytes place ≡ Some value
  pub slot : slot_in bytes place ≡ slot_in cell.bytes place
  pub fine : is_member_written bytes place ≡ is_member_written cell.bytes place

module _ (schema : Schema) (old new : List PageImage) (address member : ℕ) (cell : PlacedCell) (place : Place) (bytes : List ℕ) (value : Scalar) (write : WritesValue schema old new address member cell place bytes value)
    (graph : Graph) (object : Object) (holds : HoldGraph schema old graph) (got : maps.get graph.objects (name_of cell) ≡ Some object) where
  same_heap : heap_of schema new ≡ heap_of schema old
  same_heap = links_stay schema old new address member cell place bytes write.edit write.slot

  held_now : values_of schema new address ≡ Some (set (values_in schema cell) member (Some value))
  held_now = edited_values schema old new address member cell place bytes write.edit ∙ ap (λ (v : Option Scalar). Some (set (values_in schema cell) member v)) write.reads

  value_stands : StandsFor schema new (holding graph (name_of cell) object member value)
  value_stands =
      let stands = holds.stands in
      let own = names_own (heap_of schema old) _ holds.cells_kept.serials in
      let held : List (Option Scalar) = set (values_in schema cell) member (Some value) in
      let here = object_here schema old address member cell place write.edit.has write.edit.sized in
      let is : with_value object (record { 0 = member }) value ≡ object_with (tag_of cell) held =
      ap (λ (o : Object). with_value o (record { 0 = member }) value)
      (object_of_name (heap_of schema old) (values_of schema old) address (tag_of cell) (slots_in schema cell) (values_in schema cell) graph.objects object own stands.objects here (values_here schema old address member cell place write.edit.has write.edit.sized) got) in
      let heap_is = sym same_heap in
      let changed = objects_changed (heap_of schema old) (values_of schema old) (values_of schema new) address (tag_of cell) (slots_in schema cell) held graph.objects own here held_now
      (other_values schema old new address member cell place bytes write.edit) stands.objects in
      record {
        objects = subst₂ (λ heap (o : Object). ShowsObjects heap (values_of schema new) (maps.insert graph.objects (name_of cell) o)) heap_is (sym is) changed;
        pairs = subst (λ heap. ShowsPairs schema heap graph.pairs) heap_is stands.pairs;
        lists = subst (λ heap. ShowsLists schema heap graph.lists) heap_is stands.lists;
        dictionaries = subst (λ heap. ShowsDictionaries schema heap graph.dictionaries) heap_is stands.dictionaries;
        roots = subst₂ (λ heap rows. ShowsRoots heap rows graph.roots) heap_is (sym (same_roots old new address bytes write.edit.edits cell write.edit.has.there)) stands.roots;
        serials = subst (λ counters. ShowsSerials counters graph.serials) (sym (same_serials old new address bytes write.edit.edits cell write.edit.has.there)) stands.serials;
        indexes = subst (λ heap. ShowsIndexes schema heap graph.indexes) heap_is stands.indexes;
      }

  pub value_law : LeavesGraph schema old new (holding graph (name_of cell) object member value)
  value_law =
      let heap_is = sym same_heap in
      let cells = holds.cells_kept in
      record {
        holds = record {
          pages_kept = pages_edited old new address bytes write.edit.edits cell write.edit.has.there schema holds.pages_kept;
          cells_kept = record {
            written = written_edited schema old new address member cell place bytes write.edit cells write.fine;
            roots = subst₂ KeepsRoots heap_is (sym (same_roots old new address bytes write.edit.edits cell write.edit.has.there)) cells.roots;
            pointers = subst (λ heap. (other : ℕ) → KeepsPointers schema heap other) heap_is cells.pointers;
            serials = subst₂ (λ heap counters. (other : ℕ) → KeepsSerials (tag_at heap) counters other) heap_is (sym (same_serials old new address bytes write.edit.edits cell write.edit.has.there)) cells.serials;
            chains = subst (λ heap. (other : ℕ) → KeepsChains schema heap other) heap_is cells.chains;
            owners = subst (λ heap. (other : ℕ) → KeepsOwner schema heap other) heap_is cells.owners;
            items = subst (λ heap. (other : ℕ) → KeepsItems heap other) heap_is cells.items;
          };
          stands = value_stands;
        };
        links_kept = λ good. subst (λ heap. (other : ℕ) → KeepsLinks schema heap other) heap_is good;
      }

-- ---- an int

int_written : (place : Place) (new old : List ℕ) → place.kind ≡ kinds.Int → is_member_written new place ≡ is_member_written old place
int_written place new old kind = ap (is_kind_written new place.offset) kind ∙ sym (ap (is_kind_written old place.offset) kind)

-- it is the graph that `set` makes
pub held_by_command : (schema : Schema) (old new : List PageImage) (cell : PlacedCell) (member : ℕ) (value : Scalar) (graph : Graph) (object : Object) (at : LiveMember) → maps.get graph.objects (name_of cell) ≡ Some object
    → member_at_type schema (name_of cell) (member_of cell member) ≡ Some at → LeavesGraph schema old new (holding graph (name_of cell) object member value) → LeavesGraph schema old new (with_held graph at value)
held_by_command schema old new cell member value graph object at got found leaves =
    let parts = live_parts schema (name_of cell) (member_of cell member) at found in
    subst (λ a. LeavesGraph schema old new (with_held graph a value)) parts.2
    (subst (λ (o : Object). LeavesGraph schema old new (holding graph (name_of cell) o member value)) (sym (ap (λ o. unwrap_or o no_object) got)) leaves)

pub int_law : LawOfInts
int_law schema old new address member cell place value graph object at holds write got found =
    let sized = cell_sized schema old address cell holds.cells_kept write.has.there in
    let within : place_end place ≤ length cell.bytes = place_within schema old address member cell place write.has sized in
    let bytes : List ℕ = with_int place.offset value cell.bytes in
    held_by_command schema old new cell member (scalars.Int value) graph object at got found
    (value_law schema old new address member cell place bytes (scalars.Int value) (record {
      edit = record { edits = write.edits; has = write.has; sized = sized; within = with_int-IsWithin place value cell.bytes write.kind within };
      reads = with_int-value place value cell.bytes write.kind within write.fits;
      slot = int-slot place bytes cell.bytes write.kind;
      fine = int_written place bytes cell.bytes write.kind;
    }) graph object holds got)
