-- A member of a live object is written, in a valid list of pages: what the laws of the kinds have in common.
use Rattle.std.proofs.Common.{◌≡◌, ℕ, ◌+◌, ◌≤◌, Bool, true, List, [], ◌∷◌, length, map, set, sym, ap, ap₂, ◌∙◌, arith, Some, inl, inr, zero, suc}
use Rattle.std.specs.List.{slice_get}
use Rattle.std.specs.Option.{option_map}
use Rattle.std.proofs.lemmas.Bool.{cases_eq, and_parts}
use Rattle.std.proofs.lemmas.Option.{same_Some, none-some}
use Rattle.ostore_base.specs.declared.page.PageImage.{PageImage}
use Rattle.ostore_schema_layout.specs.declared.schema.Schema.{Schema}
use Rattle.ostore_schema_layout.specs.declared.schema.MemberDef.{MemberDef}
use Rattle.ostore_schema_layout.specs.declared.layouts.Place.{Place}
use Rattle.ostore_schema_layout.specs.Cells.{kind_size, places_from, place_end}
use Rattle.ostore_schema_layout.specs.Numbers.{members_of}
use Rattle.ostore_graph_model.specs.Addresses.{PlacedCell, cell_at}
use Rattle.ostore_graph_model.specs.CellRules.{is_written, is_filled, is_filled, is_member_written}
use Rattle.ostore_graph_model.specs.Heap.{live_cell, IsObject}
use Rattle.ostore_graph_model.specs.MemberValues.{values_in, values_of}
use Rattle.ostore_graph_model.specs.LawsOfCells.{LawOfSizes}
use Rattle.ostore_graph_model.specs.PageEdits.{HasPlace}
use Rattle.ostore_graph_model.specs.Records.{Slot, slot_in, Links, tag_of, heap_cell, heap_of, is_sized}
use Rattle.ostore_graph_model.specs.Valid.{HasGoodCells}
use Rattle.ostore_graph_model.proofs.AddressLaws.{placed_with}
use Rattle.ostore_graph_model.proofs.MemberLaws.{place_range}
use Rattle.ostore_graph_model.proofs.RecordLaws.{EditsMember, edited_cell, other_cell, edited_links, links_in_object, members_within}
use Rattle.ostore_graph_model.proofs.WrittenLaws.{written_stays}

-- a cell has the size of its code
pub cell_sized : (schema : Schema) (pages : List PageImage) (address : ℕ) (cell : PlacedCell) → HasGoodCells schema pages → cell_at pages address ≡ Some cell → is_sized schema cell.code cell.bytes ≡ true
cell_sized schema pages address cell cells there = (and_parts _ (is_filled schema cell) (cells.written address cell there)).0

pub sizes_law : LawOfSizes
sizes_law schema pages address cell cells there = cell_sized schema pages address cell cells there

-- a place is that of its member
pub place_kind : (at : ℕ) (members : List MemberDef) (m : ℕ) (place : Place) (def : MemberDef) → slice_get (places_from at members) m ≡ Some place → slice_get members m ≡ Some def → place.kind ≡ def.kind
place_kind at [] m place def e d = absurd (none-some place e)
place_kind at (member ∷ members) zero place def e d =
    sym (ap (λ (p : Place). p.kind) (same_Some (record { offset = at; kind = member.kind }) place e)) ∙ ap (λ (x : MemberDef). x.kind) (same_Some member def d)
place_kind at (member ∷ members) (suc m) place def e d = place_kind (at + kind_size member.kind) members m place def e d

abbrev pub slots_in : Schema → PlacedCell → List Slot
slots_in schema cell = map (slot_in cell.bytes) (places_from 0 (members_of schema cell.code))

module _ (schema : Schema) (pages : List PageImage) (address member : ℕ) (cell : PlacedCell) (place : Place) (has : HasPlace schema pages address member cell place) (sized : is_sized schema cell.code cell.bytes ≡ true) where
  -- the member's bytes are in the cell
  pub place_within : place_end place ≤ length cell.bytes
  place_within =
      let range = place_range 0 (members_of schema cell.code) member place has.lies in
      let high = range.1 in
      let all = members_within schema cell.code cell.bytes has.typed sized in
      omega arith

  -- the object of the cell
  pub object_here : IsObject (heap_of schema pages) address (tag_of cell) (slots_in schema cell)
  unfolding heap_of
  object_here = record {
    there =
        ap (option_map (heap_cell schema)) has.there
        ∙ ap₂ (λ (b : Bool) (l : Links). Some (record { tag = tag_of cell; live = b; links = l })) has.live (links_in_object schema cell.code cell.bytes has.typed sized);
    typed = has.typed;
  }

  pub values_here : values_of schema pages address ≡ Some (values_in schema cell)
  unfolding values_of
  values_here = ap (option_map (values_in schema)) has.there

module _ (schema : Schema) (old new : List PageImage) (address member : ℕ) (cell : PlacedCell) (place : Place) (bytes : List ℕ) (edit : EditsMember schema old new address member cell place bytes) where
  pub links_now : heap_of schema new address ≡ Some (live_cell (tag_of cell) (Links.Object (set (slots_in schema cell) member (slot_in bytes place))))
  links_now = edited_links schema old new address member cell place bytes edit ∙ ap (λ b. Some (record { tag = tag_of cell; live = b; links = Links.Object (set (slots_in schema cell) member (slot_in bytes place)) })) edit.has.live

  -- rule 10 of each cell
  pub written_edited : HasGoodCells schema old → is_member_written bytes place ≡ is_member_written cell.bytes place → (other : ℕ) (now : PlacedCell) → cell_at new other ≡ Some now → is_written schema now ≡ true
  written_edited cells same other now there = elim (cases_eq other address) [
    | inl here ↦
        let is : placed_with bytes cell ≡ now = same_Some _ _ (sym (edited_cell schema old new address member cell place bytes edit) ∙ ap (cell_at new) (sym here) ∙ there) in
        ap (is_written schema) (sym is)
        ∙ written_stays schema cell member place bytes edit.has.typed edit.sized edit.has.live edit.has.lies edit.within same
        ∙ cells.written address cell edit.has.there
    | inr apart ↦ cells.written other now (sym (other_cell schema old new address member cell place bytes edit other apart) ∙ there)
  ]
