-- The members of live objects: what they hold is of their kinds.
use Rattle.std.proofs.Common.{◌≡◌, ℕ, ◌+◌, ◌&&◌, true, false, cond, eqb, leb, List, [], ◌∷◌, map, refl, sym, ap, subst, ◌∙◌, arith, Option, Some, None}
use Rattle.std.specs.List.{slice_get, list_all}
use Rattle.std.specs.Option.{option_map}
use Rattle.std.specs.Str.{is_utf8}
use Rattle.std.specs.FinMap as maps
use Rattle.std.proofs.lemmas.Bool.{and_parts, lt-leb, ne_eqb}
use Rattle.std.proofs.lemmas.Option.{same_Some, none-some, slice_get-map}
use Rattle.std.proofs.lemmas.Str.{IsUtf8-from_is_utf8}
use Rattle.ostore_base.specs.declared.page.PageImage.{PageImage}
use Rattle.ostore_page_tags.specs.Numbers.{number_at}
use Rattle.ostore_page_tags.specs.Cells.{between}
use Rattle.ostore_page_tags.specs.Rules.{are_zero, is_type_code}
use Rattle.ostore_page_tags.specs.PageLists.{bytes_at}
use Rattle.ostore_schema_layout.specs.declared.schema.Schema.{Schema}
use Rattle.ostore_schema_layout.specs.declared.schema.MemberDef.{MemberDef}
use Rattle.ostore_schema_layout.specs.declared.schema.MemberKind.{MemberKind}
use Rattle.ostore_schema_layout.specs.declared.schema.MemberKind.TheVariants as kinds
use Rattle.ostore_schema_layout.specs.declared.layouts.Place.{Place}
use Rattle.ostore_schema_layout.specs.Cells.{IsType, kind_size, in_fours, places_from}
use Rattle.ostore_schema_layout.specs.Numbers.{members_of}
use Rattle.ostore_graph_model.specs.declared.values.Name.{Name}
use Rattle.ostore_graph_model.specs.declared.values.Scalar.{Scalar}
use Rattle.ostore_graph_model.specs.Graph.{Graph, Object}
use Rattle.ostore_graph_model.specs.GraphRules.{IsText, IsValueOf, AreValuesOf, IsObjectOf}
use Rattle.ostore_graph_model.specs.Addresses.{PlacedCell, cell_at}
use Rattle.ostore_graph_model.specs.CellRules.{is_text_written, is_kind_written, is_member_written, is_object_written, is_code_written, is_filled}
use Rattle.ostore_graph_model.specs.Heap.{HasMember}
use Rattle.ostore_graph_model.specs.MemberValues.{text_at, held_at, value_in, values_in, values_of}
use Rattle.ostore_graph_model.specs.Records.{Slot, slot_of, slot_in, Links, HeapCell, RowTag, tag_of, heap_of, is_sized}
use Rattle.ostore_graph_model.specs.LawsOfMeaning.{HoldGraph}
use Rattle.ostore_graph_model.proofs.MemberEdits.{cell_sized, place_kind}
use Rattle.ostore_graph_model.proofs.RecordLaws.{type_code_most, links_in_object}
use Rattle.ostore_graph_model.proofs.Meant.Bytes.{AreSmall, int_fits, text_short}
use Rattle.ostore_graph_model.proofs.Meant.Rows.{cell_of_row, cell_found, small_cell, sized_type}

-- ---- values

pub text_is : (max at stop : ℕ) (bytes : List ℕ) → is_text_written max at stop bytes ≡ true → IsText max (text_at at max bytes)
text_is max at stop bytes written =
    let parts = and_parts (leb (number_at 1 at bytes) max && is_utf8 (text_at at max bytes)) (are_zero (between (at + 1 + number_at 1 at bytes) stop bytes)) written in
    let utf8 = (and_parts (leb (number_at 1 at bytes) max) (is_utf8 (text_at at max bytes)) parts.0).1 in
    (text_short at max bytes, IsUtf8-from_is_utf8 (text_at at max bytes) utf8)

value_is : (bytes : List ℕ) → AreSmall bytes → (at : ℕ) (kind : MemberKind) → is_kind_written bytes at kind ≡ true → IsValueOf kind (held_at bytes at kind)
value_is bytes small at kinds.Int written = int_fits at bytes small
value_is bytes small at (kinds.Text max) written = text_is max at (at + in_fours (1 + max)) bytes written
value_is bytes small at (kinds.Ref target) written = tt
value_is bytes small at (kinds.Set target) written = tt
value_is bytes small at (kinds.List target) written = tt
value_is bytes small at (kinds.DictInt target) written = tt
value_is bytes small at (kinds.DictText target) written = tt

values_are : (bytes : List ℕ) → AreSmall bytes → (at : ℕ) (members : List MemberDef) → list_all (is_member_written bytes) (places_from at members) ≡ true → AreValuesOf members (map (value_in bytes) (places_from at members))
values_are bytes small at [] written = tt
values_are bytes small at (member ∷ members) written =
    let parts = and_parts (is_kind_written bytes at member.kind) (list_all (is_member_written bytes) (places_from (at + kind_size member.kind) members)) written in
    (value_is bytes small at member.kind parts.0, values_are bytes small (at + kind_size member.kind) members parts.1)

module _ (schema : Schema) (pages : List PageImage) (graph : Graph) (holds : HoldGraph schema pages graph) where
  -- the bytes of a live cell are as its code asks
  pub code_written : (address : ℕ) (cell : PlacedCell) → cell_at pages address ≡ Some cell → cell.live ≡ true → is_code_written schema cell.code cell.bytes ≡ true
  code_written address cell there live =
      let filled = (and_parts (is_sized schema cell.code cell.bytes) (is_filled schema cell) (holds.cells_kept.written address cell there)).1 in
      sym (ap (λ b. cond b (is_code_written schema cell.code cell.bytes) (are_zero cell.bytes)) live) ∙ filled

  object_written : (address : ℕ) (cell : PlacedCell) → cell_at pages address ≡ Some cell → cell.live ≡ true → is_type_code cell.code ≡ true → is_object_written schema cell.code cell.bytes ≡ true
  object_written address cell there live typed =
      let high = (type_code_most cell.code typed).1 in
      let other : eqb cell.code 244 ≡ false = ne_eqb _ _ (λ e. omega arith) in
      let low : leb 240 cell.code ≡ false = lt-leb _ _ (omega arith) in
      let is : is_code_written schema cell.code cell.bytes ≡ is_object_written schema cell.code cell.bytes = rw (other, low) refl in
      sym is ∙ code_written address cell there live

  -- an object of the graph is one of its schema
  pub object_is : ((page : ℕ) → AreSmall (bytes_at pages page)) → (x : Name) (object : Object) → maps.get graph.objects x ≡ Some object → IsObjectOf schema object
  unfolding values_of
  object_is small x object e =
      let h = (holds.stands.objects x object).0 e in
      let cell = cell_of_row schema pages graph holds h.address _ h.stands.there in
      let code : (cell.0).code ≡ object.ty.0 = ap (λ (r : HeapCell). r.tag.code) cell.2 ∙ h.ty in
      let live : (cell.0).live ≡ true = ap (λ (r : HeapCell). r.live) cell.2 in
      let typed : is_type_code (cell.0).code ≡ true = ap (λ (r : HeapCell). is_type_code r.tag.code) cell.2 ∙ h.stands.typed in
      let held : values_in schema cell.0 ≡ object.values = same_Some _ _ (sym (ap (option_map (values_in schema)) cell.1) ∙ h.held) in
      record {
        ty = subst (IsType schema) code (sized_type schema (cell.0).code (cell.0).bytes (cell_sized schema pages h.address cell.0 holds.cells_kept cell.1) typed);
        values =
            subst (λ (vs : List (Option Scalar)). AreValuesOf (members_of schema object.ty.0) vs) held
            (subst (λ n. AreValuesOf (members_of schema n) (values_in schema cell.0)) code
            (values_are (cell.0).bytes (small_cell pages cell.0 small (cell_found pages h.address cell.0 cell.1)) 0 (members_of schema (cell.0).code) (object_written h.address cell.0 cell.1 live typed)));
      }

  -- ---- what a member holds beside its value

  -- the member of a live object, in its cell
  pub record StandsIn (address m : ℕ) (tag : RowTag) (def : MemberDef) (slot : Slot) : Type 0 where
    pub cell : PlacedCell
    pub there : cell_at pages address ≡ Some cell
    pub live : cell.live ≡ true
    pub tagged : tag_of cell ≡ tag
    pub at : ℕ
    pub is : slot_of cell.bytes at def.kind ≡ slot

  pub stands_in : (address m : ℕ) (tag : RowTag) (def : MemberDef) (slot : Slot) → HasMember schema (heap_of schema pages) address m tag def slot → StandsIn address m tag def slot
  stands_in address m tag def slot has =
      let cell = cell_of_row schema pages graph holds address _ has.object.there in
      let typed : is_type_code (cell.0).code ≡ true = ap (λ (r : HeapCell). is_type_code r.tag.code) cell.2 ∙ has.object.typed in
      let links : Links.Object (map (slot_in (cell.0).bytes) (places_from 0 (members_of schema (cell.0).code))) ≡ Links.Object has.slots =
      sym (links_in_object schema (cell.0).code (cell.0).bytes typed (cell_sized schema pages address cell.0 holds.cells_kept cell.1)) ∙ ap (λ (r : HeapCell). r.links) cell.2 in
      let slots : map (slot_in (cell.0).bytes) (places_from 0 (members_of schema (cell.0).code)) ≡ has.slots = same_object_slots _ _ links in
      let held = sym (slice_get-map (slot_in (cell.0).bytes) (places_from 0 (members_of schema (cell.0).code)) m) ∙ ap (λ (l : List Slot). slice_get l m) slots ∙ has.held in
      let defined : slice_get (members_of schema (cell.0).code) m ≡ Some def = ap (λ (r : HeapCell). slice_get (members_of schema r.tag.code) m) cell.2 ∙ has.defined in
      by cell.0 cell.1 (ap (λ (r : HeapCell). r.live) cell.2) (ap (λ (r : HeapCell). r.tag) cell.2) defined (slice_get (places_from 0 (members_of schema (cell.0).code)) m) refl held
    where
      same_object_slots : (xs ys : List Slot) → Links.Object xs ≡ Links.Object ys → xs ≡ ys
      same_object_slots xs ys e = cc

      by : (cell : PlacedCell) → cell_at pages address ≡ Some cell → cell.live ≡ true → tag_of cell ≡ tag → slice_get (members_of schema cell.code) m ≡ Some def
          → (found : Option Place) → slice_get (places_from 0 (members_of schema cell.code)) m ≡ found → option_map (slot_in cell.bytes) found ≡ Some slot → StandsIn address m tag def slot
      by cell there live tagged defined None e is = absurd (none-some slot is)
      by cell there live tagged defined (Some place) e is = record {
        cell = cell;
        there = there;
        live = live;
        tagged = tagged;
        at = place.offset;
        is = ap (slot_of cell.bytes place.offset) (sym (place_kind 0 (members_of schema cell.code) m place def e defined)) ∙ same_Some _ _ is;
      }
