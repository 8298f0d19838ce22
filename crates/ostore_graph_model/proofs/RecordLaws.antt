-- What becomes of the values and links by their addresses where bytes of one member are changed.
use Rattle.std.proofs.Common.{◌≡◌, ◌≢◌, ℕ, ◌+◌, ◌≤◌, ◌&&◌, ◌||◌, true, false, cond, eqb, leb, List, [], ◌∷◌, length, map, set, refl, sym, ap, ◌∙◌, arith, Some, inl, inr, w64}
use Rattle.std.specs.Prelude.{ℤ, FitsSigned}
use Rattle.std.specs.List.{slice_get}
use Rattle.std.specs.Option.{option_map}
use Rattle.std.proofs.lemmas.Bool.{cases_eq, ne_eqb, lt-leb, leb-true, and_parts, eqb-true}
use Rattle.std.proofs.lemmas.Option.{slice_get-map, get_or_from_slice_get}
use Rattle.std.proofs.lemmas.List.{set-get_or}
use Rattle.ostore_base.specs.declared.page.PageImage.{PageImage}
use Rattle.ostore_page_tags.specs.Numbers.{with_int}
use Rattle.ostore_page_tags.specs.Rules.{is_type_code, is_chunk_code}
use Rattle.ostore_page_tags.proofs.bytes.ImageLaws.{length-with_number, int_at-with_int, SameOn-with_number_before, SameOn-with_number_behind}
use Rattle.ostore_schema_layout.specs.declared.schema.Schema.{Schema}
use Rattle.ostore_schema_layout.specs.declared.schema.MemberDef.{MemberDef}
use Rattle.ostore_schema_layout.specs.declared.schema.MemberKind.{MemberKind}
use Rattle.ostore_schema_layout.specs.declared.schema.MemberKind.TheVariants as kinds
use Rattle.ostore_schema_layout.specs.declared.layouts.Place.{Place}
use Rattle.ostore_schema_layout.specs.Cells.{kind_size, places_from, place_end, sizes, cell_size, code_size}
use Rattle.ostore_schema_layout.specs.Numbers.{members_of}
use Rattle.ostore_graph_model.specs.declared.values.Scalar.TheVariants as scalars
use Rattle.ostore_graph_model.specs.Addresses.{PlacedCell, cell_at}
use Rattle.ostore_graph_model.specs.MemberValues.{held_at, value_in, values_in, values_of}
use Rattle.ostore_graph_model.specs.PageEdits.{EditsAt, HasPlace}
use Rattle.ostore_graph_model.specs.Records.{Slot, slot_of, slot_in, Links, is_sized, links_of_code, links_in, HeapCell, tag_of, heap_cell, heap_of}
use Rattle.ostore_graph_model.proofs.AddressLaws.{placed_with, cell_at-edited_same, cell_at-edited_other}
use Rattle.ostore_graph_model.proofs.MemberLaws.{IsWithin, member_changed, value_in-IsLocal, slot_in-IsLocal}

-- ---- the links of an object

pub type_code_most : (code : ℕ) → is_type_code code ≡ true → (1 ≤ code) × (code ≤ 64)
type_code_most code typed =
    let parts = and_parts (leb 1 code) (leb code 64) typed in
    (leb-true 1 code parts.0, leb-true code 64 parts.1)

pub links_of_type : (schema : Schema) (code : ℕ) (bytes : List ℕ) → is_type_code code ≡ true → links_of_code schema code bytes ≡ Links.Object (map (slot_in bytes) (places_from 0 (members_of schema code)))
links_of_type schema code bytes typed =
    let range = type_code_most code typed in
    let most = range.1 in
    let other : eqb code 244 ≡ false = ne_eqb _ _ (λ e. omega arith) in
    let low : leb 240 code ≡ false = lt-leb _ _ (omega arith) in
    rw (other, low) refl

pub links_in_object : (schema : Schema) (code : ℕ) (bytes : List ℕ) → is_type_code code ≡ true → is_sized schema code bytes ≡ true → links_in schema code bytes ≡ Links.Object (map (slot_in bytes) (places_from 0 (members_of schema code)))
links_in_object schema code bytes typed sized =
    ap (λ b. cond b (links_of_code schema code bytes) Links.Broken) sized ∙ links_of_type schema code bytes typed

pub is_sized-same : (schema : Schema) (code : ℕ) (new old : List ℕ) → length new ≡ length old → is_sized schema code new ≡ is_sized schema code old
is_sized-same schema code new old whole = ap (λ n. (is_chunk_code code || leb 1 code && leb code (length schema.types)) && eqb n (code_size schema code)) whole

sizes_most : (members : List MemberDef) → sizes members ≤ cell_size members
sizes_most [] = omega arith
sizes_most (member ∷ members) = omega arith

pub code_size_of_type : (schema : Schema) (code : ℕ) → is_type_code code ≡ true → code_size schema code ≡ cell_size (members_of schema code)
code_size_of_type schema code typed =
    let most = (type_code_most code typed).1 in
    let low : leb 240 code ≡ false = lt-leb _ _ (omega arith) in
    rw low refl

pub members_within : (schema : Schema) (code : ℕ) (bytes : List ℕ) → is_type_code code ≡ true → is_sized schema code bytes ≡ true → 0 + sizes (members_of schema code) ≤ length bytes
members_within schema code bytes typed sized =
    let size = eqb-true _ _ (and_parts (is_chunk_code code || leb 1 code && leb code (length schema.types)) _ sized).1 in
    let same = code_size_of_type schema code typed in
    let most = sizes_most (members_of schema code) in
    omega arith

-- ---- a member is changed

-- one member of an object's cell has other bytes now, in a list of pages
pub record EditsMember (schema : Schema) (old new : List PageImage) (address member : ℕ) (cell : PlacedCell) (place : Place) (bytes : List ℕ) : Type 0 where
  pub edits : EditsAt old new address bytes
  pub has : HasPlace schema old address member cell place
  pub sized : is_sized schema cell.code cell.bytes ≡ true
  pub within : IsWithin bytes cell.bytes place

module _ (schema : Schema) (old new : List PageImage) (address member : ℕ) (cell : PlacedCell) (place : Place) (bytes : List ℕ) (edit : EditsMember schema old new address member cell place bytes) where
  pub edited_cell : cell_at new address ≡ Some (placed_with bytes cell)
  edited_cell = cell_at-edited_same old new address bytes edit.edits ∙ ap (option_map (placed_with bytes)) edit.has.there

  pub other_cell : (other : ℕ) → other ≢ address → cell_at new other ≡ cell_at old other
  other_cell other apart = cell_at-edited_other old new address bytes other edit.edits apart

  pub edited_values : values_of schema new address ≡ Some (set (values_in schema cell) member (value_in bytes place))
  unfolding values_of
  edited_values =
      ap (option_map (values_in schema)) edited_cell
      ∙ ap Some (member_changed value_in value_in-IsLocal 0 (members_of schema cell.code) member place bytes cell.bytes edit.has.lies edit.within (members_within schema cell.code cell.bytes edit.has.typed edit.sized))

  pub other_values : (other : ℕ) → other ≢ address → values_of schema new other ≡ values_of schema old other
  unfolding values_of
  other_values other apart = ap (option_map (values_in schema)) (other_cell other apart)

  abbrev pub slots : List Slot
  slots = map (slot_in cell.bytes) (places_from 0 (members_of schema cell.code))

  -- the row stays
  abbrev pub cell_with : List Slot → HeapCell
  cell_with held = record { tag = tag_of cell; live = cell.live; links = Links.Object held }

  pub old_links : heap_of schema old address ≡ Some (cell_with slots)
  unfolding heap_of
  old_links = ap (option_map (heap_cell schema)) edit.has.there ∙ ap (λ l. Some (record { tag = tag_of cell; live = cell.live; links = l })) (links_in_object schema cell.code cell.bytes edit.has.typed edit.sized)

  pub edited_links : heap_of schema new address ≡ Some (cell_with (set slots member (slot_in bytes place)))
  unfolding heap_of
  edited_links =
      ap (option_map (heap_cell schema)) edited_cell
      ∙ ap (λ l. Some (record { tag = tag_of cell; live = cell.live; links = l }))
      (links_in_object schema cell.code bytes edit.has.typed (is_sized-same schema cell.code bytes cell.bytes edit.within.whole ∙ edit.sized)
      ∙ ap Links.Object (member_changed slot_in slot_in-IsLocal 0 (members_of schema cell.code) member place bytes cell.bytes edit.has.lies edit.within (members_within schema cell.code cell.bytes edit.has.typed edit.sized)))

  pub other_links : (other : ℕ) → other ≢ address → heap_of schema new other ≡ heap_of schema old other
  unfolding heap_of
  other_links other apart = ap (option_map (heap_cell schema)) (other_cell other apart)

-- ---- an element that is put where it stands

pub set-itself : {X : Type 0} (xs : List X) (i : ℕ) (x : X) → slice_get xs i ≡ Some x → set xs i x ≡ xs
set-itself xs i x e = ap (set xs i) (sym (get_or_from_slice_get xs i x x e)) ∙ set-get_or xs i x

-- where the member has no pointers, the links stay
module _ (schema : Schema) (old new : List PageImage) (address member : ℕ) (cell : PlacedCell) (place : Place) (bytes : List ℕ) (edit : EditsMember schema old new address member cell place bytes) where
  pub links_stay : slot_in bytes place ≡ slot_in cell.bytes place → heap_of schema new ≡ heap_of schema old
  links_stay same = λ i other. (each other) i
    where
      stands : slice_get (map (slot_in cell.bytes) (places_from 0 (members_of schema cell.code))) member ≡ Some (slot_in bytes place)
      stands = slice_get-map (slot_in cell.bytes) (places_from 0 (members_of schema cell.code)) member ∙ ap (option_map (slot_in cell.bytes)) edit.has.lies ∙ ap Some (sym same)

      each : (other : ℕ) → heap_of schema new other ≡ heap_of schema old other
      each other = elim (cases_eq other address) [
        | inl here ↦
            ap (heap_of schema new) here
            ∙ edited_links schema old new address member cell place bytes edit
            ∙ ap (λ s. Some (cell_with schema old new address member cell place bytes edit s)) (set-itself _ member (slot_in bytes place) stands)
            ∙ sym (old_links schema old new address member cell place bytes edit)
            ∙ ap (heap_of schema old) (sym here)
        | inr apart ↦ other_links schema old new address member cell place bytes edit other apart
      ]

  pub values_stay : value_in bytes place ≡ value_in cell.bytes place → values_of schema new ≡ values_of schema old
  unfolding values_of
  values_stay same = λ i other. (each other) i
    where
      stands : slice_get (values_in schema cell) member ≡ Some (value_in bytes place)
      stands = slice_get-map (value_in cell.bytes) (places_from 0 (members_of schema cell.code)) member ∙ ap (option_map (value_in cell.bytes)) edit.has.lies ∙ ap Some (sym same)

      each : (other : ℕ) → values_of schema new other ≡ values_of schema old other
      each other = elim (cases_eq other address) [
        | inl here ↦
            ap (values_of schema new) here
            ∙ edited_values schema old new address member cell place bytes edit
            ∙ ap Some (set-itself (values_in schema cell) member (value_in bytes place) stands)
            ∙ sym (ap (option_map (values_in schema)) edit.has.there)
            ∙ ap (values_of schema old) (sym here)
        | inr apart ↦ other_values schema old new address member cell place bytes edit other apart
      ]

-- ---- an int is written

pub with_int-IsWithin : (place : Place) (value : ℤ) (bytes : List ℕ) → place.kind ≡ kinds.Int → place_end place ≤ length bytes → IsWithin (with_int place.offset value bytes) bytes place
with_int-IsWithin place value bytes kind within =
    let size : place_end place ≡ place.offset + 8 = ap (λ (k : MemberKind). place.offset + kind_size k) kind in
    record {
      whole = length-with_number 8 place.offset _ bytes (omega arith);
      before = SameOn-with_number_before 8 place.offset _ 0 place.offset bytes (omega arith) (omega arith);
      behind = SameOn-with_number_behind 8 place.offset _ (place_end place) (length bytes) bytes (omega arith) (omega arith);
    }

pub with_int-value : (place : Place) (value : ℤ) (bytes : List ℕ) → place.kind ≡ kinds.Int → place_end place ≤ length bytes → FitsSigned w64 value → value_in (with_int place.offset value bytes) place ≡ Some (scalars.Int value)
with_int-value place value bytes kind within fits =
    let size : place_end place ≡ place.offset + 8 = ap (λ (k : MemberKind). place.offset + kind_size k) kind in
    ap (held_at (with_int place.offset value bytes) place.offset) kind
    ∙ ap (λ n. Some (scalars.Int n)) (int_at-with_int place.offset value bytes fits (omega arith))

pub int-slot : (place : Place) (new old : List ℕ) → place.kind ≡ kinds.Int → slot_in new place ≡ slot_in old place
int-slot place new old kind = ap (slot_of new place.offset) kind ∙ sym (ap (slot_of old place.offset) kind)
