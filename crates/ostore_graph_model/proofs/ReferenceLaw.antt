-- A one-sided reference is written into an object: the pages stay valid, and stand for the graph in which the
-- object is joined with what it leads to.
use Rattle.std.proofs.Common.{◌≡◌, ◌≢◌, ℕ, ◌+◌, ◌^◌, ◌<◌, ◌≤◌, Bool, true, false, List, length, set, refl, sym, ap, ap₂, subst, subst₂, ◌∙◌, arith, Option, Some, None}
use Rattle.std.specs.Prelude.{◌&&◌, not, if◌then◌else◌, slice_get}
use Rattle.std.specs.Ordering.{eq_by_cmp}
use Rattle.ostore_schema_layout.specs.declared.schema.MemberDef.{MemberDef}
use Rattle.ostore_schema_layout.specs.declared.schema.Inverse.{Inverse}
use Rattle.ostore_graph_model.specs.declared.values.Name.{Name}
use Rattle.ostore_graph_model.specs.Valid.{HasGoodLinks}
use Rattle.std.specs.Option.{option_map, option_and_then}
use Rattle.std.proofs.lemmas.Option.{slice_get-map}
use Rattle.ostore_base.specs.declared.page.PageImage.{PageImage}
use Rattle.ostore_page_tags.specs.Numbers.{with_number}
use Rattle.ostore_page_tags.proofs.bytes.ImageLaws.{length-with_number, number_at-with_number, SameOn-with_number_before, SameOn-with_number_behind}
use Rattle.ostore_schema_layout.specs.declared.schema.Schema.{Schema}
use Rattle.ostore_schema_layout.specs.declared.schema.TypeNo.{TypeNo}
use Rattle.ostore_schema_layout.specs.declared.schema.MemberKind.{MemberKind}
use Rattle.ostore_schema_layout.specs.declared.schema.MemberKind.TheVariants as kinds
use Rattle.ostore_schema_layout.specs.declared.layouts.Place.{Place}
use Rattle.ostore_schema_layout.specs.Cells.{kind_size, places_from, place_end}
use Rattle.ostore_schema_layout.specs.Numbers.{members_of}
use Rattle.ostore_graph_model.specs.Graph.{Graph}
use Rattle.ostore_graph_model.specs.Addresses.{PlacedCell, cell_at}
use Rattle.ostore_graph_model.specs.CellRules.{is_kind_written, is_member_written}
use Rattle.ostore_graph_model.specs.Chains.{item_type}
use Rattle.ostore_graph_model.specs.FixedPages.{roots_of, serial_of}
use Rattle.ostore_graph_model.specs.Heap.{tag_at, code_at, name_in, name_at, live_cell}
use Rattle.ostore_graph_model.specs.HeapRules.{LeadsToChunk, KeepsSerials, KeepsRoots}
use Rattle.ostore_graph_model.specs.LawsOfMeaning.{HoldGraph, LeavesGraph, LawOfReferences, LawOfNullReferences, LawOfFirstSideReferences, LawOfFirstSideNulls, LawOfSecondSideReferences}
use Rattle.ostore_graph_model.specs.Kinds.{is_ref}
use Rattle.ostore_graph_model.specs.Links.{inverse_at, member_of_inverse, comes_first, is_first, pair_from, pair_at, parted}
use Rattle.ostore_graph_model.specs.Deeds.{LiveMember}
use Rattle.ostore_graph_model.specs.Deeds.References.{with_joined}
use Rattle.ostore_graph_model.proofs.JoinedFacts.{parted_from, joined_alone, live_parts, parted_alone, joined_by_reference}
use Rattle.ostore_graph_model.specs.MemberValues.{held_at, value_in, values_of}
use Rattle.ostore_graph_model.specs.PageEdits.{name_of, member_of, WritesRef}
use Rattle.ostore_graph_model.specs.Chunks.{pointer_at}
use Rattle.ostore_graph_model.specs.Records.{Slot, slot_of, slot_in, Links, HeapCell, tag_of, heap_cell, heap_of, is_sized}
use Rattle.ostore_graph_model.specs.Sets as sets
use Rattle.ostore_graph_model.specs.Orders.{TypeMember, type_member_cmp, name_cmp, Pair, pair_cmp}
use Rattle.ostore_graph_model.specs.StandsFor.{StandsFor, ShowsObjects, ShowsPairs, ShowsRoots, ShowsSerials}
use Rattle.ostore_graph_model.proofs.EditLaws.{same_roots, same_serials, pages_edited}
use Rattle.ostore_graph_model.proofs.MemberLaws.{IsWithin}
use Rattle.ostore_graph_model.proofs.RecordLaws.{EditsMember, other_links, values_stay}
use Rattle.ostore_graph_model.proofs.ObjectLaws.{AreNamesOwn, names_own}
use Rattle.ostore_graph_model.proofs.MemberEdits.{cell_sized, place_kind, slots_in, place_within, object_here, links_now, written_edited}
use Rattle.ostore_graph_model.proofs.HeapLaws.{ChangesObject, chains_kept, owners_kept, items_kept, pointers_kept, links_kept}
use Rattle.ostore_graph_model.proofs.ShownLaws.{lists_kept, dictionaries_kept, indexes_kept, roots_kept, good_roots}
use Rattle.ostore_graph_model.proofs.ReferenceLaws.{ChangesReference, tags_stay, codes_by_tags, names_by_tags, reference_changes, reference_sided, objects_stay, pairs_joined, pairs_parted, pairs_stay}

-- ---- the bytes of a reference

module _ (place : Place) (target : TypeNo) (pointer : ℕ) (old : List ℕ) (kind : place.kind ≡ kinds.Ref target) (within : place_end place ≤ length old) where
  size : place_end place ≡ place.offset + 4
  size = ap (λ (k : MemberKind). place.offset + kind_size k) kind

  ref-IsWithin : IsWithin (with_number 4 place.offset pointer old) old place
  ref-IsWithin =
      let is = size in
      record {
        whole = length-with_number 4 place.offset pointer old (omega arith);
        before = SameOn-with_number_before 4 place.offset pointer 0 place.offset old (omega arith) (omega arith);
        behind = SameOn-with_number_behind 4 place.offset pointer (place_end place) (length old) old (omega arith) (omega arith);
      }

  ref_slot : pointer < 256 ^ 4 → slot_in (with_number 4 place.offset pointer old) place ≡ Slot.Refers pointer
  ref_slot fits =
      let is = size in
      ap (slot_of (with_number 4 place.offset pointer old) place.offset) kind
      ∙ ap Slot.Refers (number_at-with_number 4 place.offset pointer old fits (omega arith))

  ref_value : (new : List ℕ) → value_in new place ≡ value_in old place
  ref_value new = ap (held_at new place.offset) kind ∙ sym (ap (held_at old place.offset) kind)

  ref_written : (new : List ℕ) → is_member_written new place ≡ is_member_written old place
  ref_written new = ap (is_kind_written new place.offset) kind ∙ sym (ap (is_kind_written old place.offset) kind)

-- ---- the law

module _ (schema : Schema) (old new : List PageImage) (address member : ℕ) (cell : PlacedCell) (place : Place) (target : TypeNo) (pointer : ℕ) (write : WritesRef schema old new address member cell place target pointer)
    (sized : is_sized schema cell.code cell.bytes ≡ true) where
  abbrev bytes : List ℕ
  bytes = with_number 4 place.offset pointer cell.bytes

  within : place_end place ≤ length cell.bytes
  within = place_within schema old address member cell place write.has sized

  edit : EditsMember schema old new address member cell place (with_number 4 place.offset pointer cell.bytes)
  edit = record { edits = write.edits; has = write.has; sized = sized; within = ref-IsWithin place target pointer cell.bytes write.kind within }

  same_values : values_of schema new ≡ values_of schema old
  same_values = values_stay schema old new address member cell place bytes edit (ref_value place target pointer cell.bytes write.kind within bytes)

  def_kind : write.def.kind ≡ kinds.Ref target
  def_kind = sym (place_kind 0 (members_of schema cell.code) member place write.def write.has.lies write.defined) ∙ write.kind

  pub change : ChangesReference schema (heap_of schema old) (heap_of schema new) address member (tag_of cell) (slots_in schema cell) write.def pointer
  change = record {
    was = object_here schema old address member cell place write.has sized;
    is = links_now schema old new address member cell place bytes edit
        ∙ ap (λ (s : Slot). Some (live_cell (tag_of cell) (Links.Object (set (slots_in schema cell) member s)))) (ref_slot place target pointer cell.bytes write.kind within write.fits);
    others = other_links schema old new address member cell place bytes edit;
    defined = write.defined;
    target = target;
    kind = def_kind;
    before = pointer_at place.offset cell.bytes;
    held = slice_get-map (slot_in cell.bytes) (places_from 0 (members_of schema cell.code)) member ∙ ap (option_map (slot_in cell.bytes)) write.has.lies
        ∙ ap Some (ap (slot_of cell.bytes place.offset) write.kind);
  }

  tags : tag_at (heap_of schema new) ≡ tag_at (heap_of schema old)
  tags = tags_stay schema (heap_of schema old) (heap_of schema new) address member (tag_of cell) (slots_in schema cell) write.def pointer change

  module _ (graph : Graph) (holds : HoldGraph schema old graph) (leads : LeadsToChunk (heap_of schema old) target.0 pointer) where
    object : ChangesObject schema (heap_of schema old) (heap_of schema new) address
    object = reference_changes schema (heap_of schema old) (heap_of schema new) address member (tag_of cell) (slots_in schema cell) write.def pointer change holds.cells_kept.pointers
        (subst (λ k. LeadsToChunk (heap_of schema old) (item_type k) pointer) (sym def_kind) leads)

    object_sided : object.inverse ≡ write.def.inverse
    unfolding object
    object_sided = reference_sided schema (heap_of schema old) (heap_of schema new) address member (tag_of cell) (slots_in schema cell) write.def pointer change holds.cells_kept.pointers
        (subst (λ k. LeadsToChunk (heap_of schema old) (item_type k) pointer) (sym def_kind) leads)

    names : (other code : ℕ) → code_at (heap_of schema old) other ≡ Some code → name_at (heap_of schema new) other ≡ name_at (heap_of schema old) other
    names other code there = names_by_tags (heap_of schema old) (heap_of schema new) tags other

    ref_stands : (pairs : sets.FinSet pair_cmp) → ShowsPairs schema (heap_of schema new) pairs → StandsFor schema new (record graph { pairs = pairs })
    ref_stands pairs shown =
        let heap = heap_of schema old in
        let now = heap_of schema new in
        let cells = holds.cells_kept in
        let stands = holds.stands in
        record {
          objects = subst (λ values. ShowsObjects now values graph.objects) (sym same_values)
              (objects_stay schema heap now address member (tag_of cell) (slots_in schema cell) write.def pointer change (values_of schema old) graph.objects stands.objects);
          pairs = shown;
          lists = lists_kept schema heap now address object names cells.pointers cells.items graph.lists stands.lists;
          dictionaries = dictionaries_kept schema heap now address object names cells.pointers cells.items graph.dictionaries stands.dictionaries;
          roots = subst (λ rows. ShowsRoots now rows graph.roots) (sym (same_roots old new address bytes write.edits cell write.has.there))
              (roots_kept schema heap now address object names cells.pointers cells.items (roots_of old) graph.roots cells.roots stands.roots);
          serials = subst (λ counters. ShowsSerials counters graph.serials) (sym (same_serials old new address bytes write.edits cell write.has.there)) stands.serials;
          indexes = indexes_kept schema heap now address object names cells.pointers cells.items graph.indexes stands.indexes;
        }

    ref_holds : (pairs : sets.FinSet pair_cmp) → ShowsPairs schema (heap_of schema new) pairs → HoldGraph schema new (record graph { pairs = pairs })
    ref_holds pairs shown =
        let heap = heap_of schema old in
        let now = heap_of schema new in
        let cells = holds.cells_kept in
        record {
          pages_kept = pages_edited old new address bytes write.edits cell write.has.there schema holds.pages_kept;
          cells_kept = record {
            written = written_edited schema old new address member cell place bytes edit cells (ref_written place target pointer cell.bytes write.kind within bytes);
            roots = subst (KeepsRoots now) (sym (same_roots old new address bytes write.edits cell write.has.there))
                (good_roots heap now (roots_of old) (λ other code there. codes_by_tags heap now tags other ∙ there) cells.roots);
            pointers = pointers_kept schema heap now address object cells.pointers;
            serials = subst₂ (λ t counters. (other : ℕ) → KeepsSerials t counters other) (sym tags) (sym (same_serials old new address bytes write.edits cell write.has.there)) cells.serials;
            chains = chains_kept schema heap now address object cells.chains;
            owners = owners_kept schema heap now address object cells.owners;
            items = items_kept schema heap now address object cells.items;
          };
          stands = ref_stands pairs shown;
        }

    -- where the reference is one-sided, the links are as good as they were
    ref_links : write.def.inverse ≡ None → HasGoodLinks schema old → HasGoodLinks schema new
    ref_links alone good = links_kept schema (heap_of schema old) (heap_of schema new) address object (object_sided ∙ alone) good

    own : AreNamesOwn (heap_of schema old)
    own = names_own (heap_of schema old) (serial_of old) holds.cells_kept.serials

    -- it leads to a row
    pub ref_joined : comes_first (member_of cell member) write.def.inverse ≡ true → (to : PlacedCell) → pointer ≢ 0 → cell_at old pointer ≡ Some to
        → HoldGraph schema new (record graph { pairs = joined_alone graph.pairs (member_of cell member) (name_of cell) (name_of to) })
    unfolding heap_of
    ref_joined first to some there =
        ref_holds (joined_alone graph.pairs (member_of cell member) (name_of cell) (name_of to))
        (pairs_joined schema (heap_of schema old) (heap_of schema new) address member (tag_of cell) (slots_in schema cell) write.def pointer change first (name_of to) some
        (ap (λ (c : Option PlacedCell). option_map name_in (option_map (λ (l : HeapCell). l.tag) (option_map (heap_cell schema) c))) there)
        own graph.pairs holds.stands.pairs)

    -- or nowhere
    pub ref_parted : pointer ≡ 0 → HoldGraph schema new (record graph { pairs = parted_from graph.pairs (member_of cell member) (name_of cell) })
    ref_parted none =
        ref_holds (parted_from graph.pairs (member_of cell member) (name_of cell))
        (pairs_parted schema (heap_of schema old) (heap_of schema new) address member (tag_of cell) (slots_in schema cell) write.def pointer change none
        own graph.pairs holds.stands.pairs)

    -- or it is the second side of its link
    pub ref_second : comes_first (member_of cell member) write.def.inverse ≡ false → HoldGraph schema new graph
    ref_second second =
        ref_holds graph.pairs
        (pairs_stay schema (heap_of schema old) (heap_of schema new) address member (tag_of cell) (slots_in schema cell) write.def pointer change second own graph.pairs holds.stands.pairs)

pub ref_law : LawOfReferences
ref_law schema old new address member cell place target pointer to graph at holds write alone some there row found =
    let sized = cell_sized schema old address cell holds.cells_kept write.has.there in
    let kind = def_kind schema old new address member cell place target pointer write sized in
    let parts = live_parts schema (name_of cell) (member_of cell member) at found in
    subst (λ a. LeavesGraph schema old new (with_joined schema graph a (name_of to))) parts.2
    (subst (λ pairs. LeavesGraph schema old new (record graph { pairs = pairs }))
    (sym (joined_by_reference schema (member_of cell member) (name_of cell) (name_of to) graph.pairs write.def write.defined alone (ap is_ref kind)))
    (record {
      holds = ref_joined schema old new address member cell place target pointer write sized graph holds (λ e. row) (ap (comes_first (member_of cell member)) alone) to some there;
      links_kept = ref_links schema old new address member cell place target pointer write sized graph holds (λ e. row) alone;
    }))

pub null_law : LawOfNullReferences
null_law schema old new address member cell place target graph at holds write alone found =
    let sized = cell_sized schema old address cell holds.cells_kept write.has.there in
    let parts = live_parts schema (name_of cell) (member_of cell member) at found in
    subst (λ (a : LiveMember). LeavesGraph schema old new (record graph { pairs = parted schema a.at a.owner graph.pairs })) parts.2
    (subst (λ pairs. LeavesGraph schema old new (record graph { pairs = pairs }))
    (sym (parted_alone schema (member_of cell member) (name_of cell) (name_of cell) graph.pairs write.def write.defined alone))
    (record {
      holds = ref_parted schema old new address member cell place target 0 write sized graph holds (λ some. absurd (some refl)) refl;
      links_kept = ref_links schema old new address member cell place target 0 write sized graph holds (λ some. absurd (some refl)) alone;
    }))

-- ---- two-sided references

-- at a member that comes first, what is seen from it are the pairs that begin with the object
module _ (schema : Schema) (cell : PlacedCell) (member : ℕ) (def : MemberDef) (inverse : Inverse) (defined : slice_get (members_of schema cell.code) member ≡ Some def)
    (sided : def.inverse ≡ Some inverse) (first : comes_first (member_of cell member) (Some inverse) ≡ true) where
  here : inverse_at schema (member_of cell member) ≡ Some inverse
  here = ap (option_and_then (λ (d : MemberDef). d.inverse)) defined ∙ sided

  own_pair : (x y : Name) → pair_at schema (member_of cell member) x y ≡ record { link = member_of cell member; first = x; second = y }
  own_pair x y =
      ap (λ i. pair_from (member_of cell member) i x y) here
      ∙ ap (λ b. if b then record { link = member_of cell member; first = x; second = y } else record { link = member_of_inverse inverse; first = y; second = x }) first

  comes : is_first schema (member_of cell member) ≡ true
  comes = ap (comes_first (member_of cell member)) here ∙ first

  own_parted : (x : Name) (pairs : sets.FinSet pair_cmp) → parted schema (member_of cell member) x pairs ≡ parted_from pairs (member_of cell member) x
  own_parted x pairs =
      ap₂ (λ (link : TypeMember) (b : Bool). sets.retain pairs (λ pair. not (eq_by_cmp type_member_cmp pair.link link && eq_by_cmp name_cmp (if b then pair.first else pair.second) x)))
      (ap (λ (p : Pair). p.link) (own_pair x x)) comes

pub first_ref_law : LawOfFirstSideReferences
first_ref_law schema old new address member cell place target pointer inverse to graph holds write sided first some there row =
    let sized = cell_sized schema old address cell holds.cells_kept write.has.there in
    subst (λ pairs. HoldGraph schema new (record graph { pairs = pairs }))
    (sym (ap₂ (λ (left : sets.FinSet pair_cmp) (pair : Pair). sets.insert left pair)
    (own_parted schema cell member write.def inverse write.defined sided first (name_of cell) graph.pairs) (own_pair schema cell member write.def inverse write.defined sided first (name_of cell) (name_of to))))
    (ref_joined schema old new address member cell place target pointer write sized graph holds (λ e. row) (ap (comes_first (member_of cell member)) sided ∙ first) to some there)

pub first_null_law : LawOfFirstSideNulls
first_null_law schema old new address member cell place target inverse graph holds write sided first =
    let sized = cell_sized schema old address cell holds.cells_kept write.has.there in
    subst (λ pairs. HoldGraph schema new (record graph { pairs = pairs }))
    (sym (own_parted schema cell member write.def inverse write.defined sided first (name_of cell) graph.pairs))
    (ref_parted schema old new address member cell place target 0 write sized graph holds (λ some. absurd (some refl)) refl)

pub second_ref_law : LawOfSecondSideReferences
second_ref_law schema old new address member cell place target pointer inverse graph holds write sided second leads =
    let sized = cell_sized schema old address cell holds.cells_kept write.has.there in
    ref_second schema old new address member cell place target pointer write sized graph holds leads (ap (comes_first (member_of cell member)) sided ∙ second)
