-- Where no collection has an inverse, valid pages have no indexes.
use Rattle.std.proofs.Common.{◌≡◌, ℕ, Bool, true, false, true≢false, List, map, refl, sym, ap, subst, ◌∙◌, Option, Some, None}
use Rattle.std.specs.List.{slice_get}
use Rattle.std.specs.Option.{option_map}
use Rattle.std.proofs.lemmas.Bool.{cases_Bool}
use Rattle.std.proofs.Common.{inl, inr}
use Rattle.std.proofs.lemmas.Option.{same_Some, none-some, slice_get-map}
use Rattle.std.proofs.lemmas.List.Elements.{All-contains}
use Rattle.ostore_base.specs.declared.page.PageImage.{PageImage}
use Rattle.ostore_page_tags.specs.Rules.{is_type_code}
use Rattle.ostore_schema_layout.specs.declared.schema.Schema.{Schema}
use Rattle.ostore_schema_layout.specs.declared.schema.MemberDef.{MemberDef}
use Rattle.ostore_schema_layout.specs.declared.schema.MemberKind.{MemberKind}
use Rattle.ostore_schema_layout.specs.declared.schema.MemberKind.TheVariants as kinds
use Rattle.ostore_schema_layout.specs.declared.layouts.Place.{Place}
use Rattle.ostore_schema_layout.specs.Cells.{places_from}
use Rattle.ostore_schema_layout.specs.Numbers.{members_of}
use Rattle.ostore_graph_model.specs.Sets as sets
use Rattle.ostore_graph_model.specs.Kinds.{is_collection}
use Rattle.ostore_graph_model.specs.Orders.{PathIndex, index_cmp}
use Rattle.ostore_graph_model.specs.Graph.{Graph}
use Rattle.ostore_graph_model.specs.Addresses.{PlacedCell, cell_at}
use Rattle.ostore_graph_model.specs.Chains.{indexes_of}
use Rattle.ostore_graph_model.specs.Heap.{Heap, HasMember, live_cell}
use Rattle.ostore_graph_model.specs.IndexRules.{IsGoodIndex}
use Rattle.ostore_graph_model.specs.LawsOfIndexes.{HasNoIndexable, LawOfUndeclaredIndexes}
use Rattle.ostore_graph_model.specs.Records.{CollectionHead, Slot, slot_of, slot_in, Links, RowTag, HeapCell, heap_cell, heap_of}
use Rattle.ostore_graph_model.specs.StandsFor.{HasIndex, StandsFor}
use Rattle.ostore_graph_model.specs.Valid.{HasGoodCells, IsValid}
use Rattle.ostore_graph_model.proofs.MemberEdits.{cell_sized, place_kind}
use Rattle.ostore_graph_model.proofs.OrderLaws.{index_cmp-IsTotalOrder, index_cmp-IsAntisymmetric}
use Rattle.ostore_graph_model.proofs.RecordLaws.{links_in_object}
use Rattle.ostore_graph_model.proofs.SetFacts as set_facts

-- what begins a collection is a collection's
begins_collection : (bytes : List ℕ) (at : ℕ) (kind : MemberKind) (head : CollectionHead) → slot_of bytes at kind ≡ Slot.Begins head → is_collection kind ≡ true
begins_collection bytes at kinds.Int head is = cc
begins_collection bytes at (kinds.Text max) head is = cc
begins_collection bytes at (kinds.Ref target) head is = cc
begins_collection bytes at (kinds.Set target) head is = refl
begins_collection bytes at (kinds.List target) head is = refl
begins_collection bytes at (kinds.DictInt target) head is = refl
begins_collection bytes at (kinds.DictText target) head is = refl

-- the cell of an object in the heap
cell_there : (schema : Schema) (pages : List PageImage) (address : ℕ) (cell : HeapCell) → heap_of schema pages address ≡ Some cell
    → (placed : PlacedCell) × (cell_at pages address ≡ Some placed) × (heap_cell schema placed ≡ cell)
unfolding heap_of
cell_there schema pages address cell there = by (cell_at pages address) refl there
  where
    by : (o : Option PlacedCell) → cell_at pages address ≡ o → option_map (heap_cell schema) o ≡ Some cell → (placed : PlacedCell) × (cell_at pages address ≡ Some placed) × (heap_cell schema placed ≡ cell)
    by None none is = absurd (none-some cell is)
    by (Some placed) is some = (placed, is, same_Some _ cell some)

same_slots : (one other : List Slot) → Links.Object one ≡ Links.Object other → one ≡ other
same_slots one other e = cc

-- a member that begins a collection is one
is_of_collection : (schema : Schema) (pages : List PageImage) (address member : ℕ) (tag : RowTag) (def : MemberDef) (head : CollectionHead) → HasGoodCells schema pages
    → HasMember schema (heap_of schema pages) address member tag def (Slot.Begins head) → is_collection def.kind ≡ true
is_of_collection schema pages address member tag def head cells has =
    let found = cell_there schema pages address _ has.object.there in
    let cell : PlacedCell = found.0 in
    let code : cell.code ≡ tag.code = ap (λ (c : HeapCell). c.tag.code) found.2 in
    let typed : is_type_code cell.code ≡ true = ap is_type_code code ∙ has.object.typed in
    let slots : map (slot_in cell.bytes) (places_from 0 (members_of schema cell.code)) ≡ has.slots =
    same_slots _ _ (sym (links_in_object schema cell.code cell.bytes typed (cell_sized schema pages address cell cells found.1)) ∙ ap (λ (c : HeapCell). c.links) found.2) in
    let held : option_map (slot_in cell.bytes) (slice_get (places_from 0 (members_of schema cell.code)) member) ≡ Some (Slot.Begins head) =
    sym (slice_get-map (slot_in cell.bytes) (places_from 0 (members_of schema cell.code)) member) ∙ ap (λ (s : List Slot). slice_get s member) slots ∙ has.held in
    by cell code (slice_get (places_from 0 (members_of schema cell.code)) member) refl held
  where
    by : (cell : PlacedCell) → cell.code ≡ tag.code → (o : Option Place) → slice_get (places_from 0 (members_of schema cell.code)) member ≡ o → option_map (slot_in cell.bytes) o ≡ Some (Slot.Begins head) → is_collection def.kind ≡ true
    by cell code None is held = absurd (none-some (Slot.Begins head) held)
    by cell code (Some place) is held =
        ap is_collection (sym (place_kind 0 (members_of schema cell.code) member place def is (ap (λ (c : ℕ). slice_get (members_of schema c) member) code ∙ has.defined)))
        ∙ begins_collection cell.bytes place.offset place.kind head (same_Some _ (Slot.Begins head) held)

no_index : (schema : Schema) (pages : List PageImage) → HasNoIndexable schema → IsValid schema pages → (index : PathIndex) → HasIndex schema (heap_of schema pages) index → ⊥
no_index schema pages none valid index has =
    let good = (valid.indexes_kept.kept has.address).good index.set.member.0 has.tag has.def has.chain (has.head, has.has, has.linked) in
    let one = All-contains (IsGoodIndex schema (heap_of schema pages) valid.indexes_kept.graph has.tag index.set.member.0 has.def) (indexes_of has.chain) has.descriptor good has.there in
    one.sided (none has.tag.code index.set.member.0 has.def has.has.defined (is_of_collection schema pages has.address index.set.member.0 has.tag has.def has.head valid.cells_kept has.has))

pub undeclared_law : LawOfUndeclaredIndexes
undeclared_law schema pages graph none valid stands =
    set_facts.same_set index_cmp-IsTotalOrder index_cmp-IsAntisymmetric graph.indexes sets.empty (λ index. by index (sets.contains graph.indexes index) refl ∙ sym (set_facts.contains-empty index_cmp index))
  where
    by : (index : PathIndex) (b : Bool) → sets.contains graph.indexes index ≡ b → sets.contains graph.indexes index ≡ false
    by index true is = absurd (no_index schema pages none valid index ((stands.indexes index).0 is))
    by index false is = is
