-- The object of a row in the graph that valid pages stand for.
use Rattle.std.proofs.Common.{◌≡◌, ℕ, Bool, true, false, true≢false, List, refl, sym, ap, ap₂, ◌∙◌, Option, Some, None}
use Rattle.std.specs.FinMap as maps
use Rattle.std.specs.Option.{option_map}
use Rattle.std.proofs.lemmas.Option.{same_Some}
use Rattle.ostore_base.specs.declared.page.PageImage.{PageImage}
use Rattle.ostore_page_tags.specs.Rules.{is_type_code}
use Rattle.ostore_schema_layout.specs.declared.schema.Schema.{Schema}
use Rattle.ostore_graph_model.specs.Graph.{Graph, Object}
use Rattle.ostore_graph_model.specs.Addresses.{PlacedCell, cell_at}
use Rattle.ostore_graph_model.specs.FixedPages.{serial_of}
use Rattle.ostore_graph_model.specs.MemberValues.{values_in, values_of}
use Rattle.ostore_graph_model.specs.Records.{Links, HeapCell, tag_of, heap_cell, heap_of}
use Rattle.ostore_graph_model.specs.Heap.{IsObject, live_cell}
use Rattle.ostore_graph_model.specs.StandsFor.{StandsFor, HasObject}
use Rattle.ostore_graph_model.specs.Valid.{IsValid}
use Rattle.ostore_graph_model.specs.PageEdits.{name_of}
use Rattle.ostore_graph_model.proofs.RecordLaws.{links_in_object}
use Rattle.ostore_graph_model.proofs.MemberEdits.{cell_sized, slots_in}
use Rattle.ostore_graph_model.proofs.ObjectLaws.{names_own, tag_of_cell}
use Rattle.ostore_object_ops.specs.inside.Members.{object_in}

module _ (schema : Schema) (list : List PageImage) (address : ℕ) (cell : PlacedCell) (valid : IsValid schema list) (graph : Graph) (stands : StandsFor schema list graph)
    (there : cell_at list address ≡ Some cell) (typed : is_type_code cell.code ≡ true) where
  links_here : heap_of schema list address ≡ Some (heap_cell schema cell)
  unfolding heap_of
  links_here = ap (option_map (heap_cell schema)) there

  values_here : values_of schema list address ≡ Some (values_in schema cell)
  unfolding values_of
  values_here = ap (option_map (values_in schema)) there

  object_here : cell.live ≡ true → IsObject (heap_of schema list) address (tag_of cell) (slots_in schema cell)
  object_here live = record {
    there =
        links_here
        ∙ ap₂ (λ (b : Bool) (l : Links). Some (record { tag = tag_of cell; live = b; links = l })) live (links_in_object schema cell.code cell.bytes typed (cell_sized schema list address cell valid.cells_kept there));
    typed = typed;
  }

  -- a live row's object
  pub live_object : cell.live ≡ true → maps.get graph.objects (name_of cell) ≡ Some (object_in schema cell)
  live_object live = (stands.objects (name_of cell) (object_in schema cell)).1 (record {
    address = address;
    tag = tag_of cell;
    slots = slots_in schema cell;
    stands = object_here live;
    named = refl;
    ty = refl;
    held = values_here;
  })

  -- a dead row has none
  no_object : cell.live ≡ false → (object : Object) → maps.get graph.objects (name_of cell) ≡ Some object → ⊥
  no_object dead object got =
      let has : HasObject (heap_of schema list) (values_of schema list) (name_of cell) object = (stands.objects (name_of cell) object).0 got in
      let own = names_own (heap_of schema list) (serial_of list) valid.cells_kept.serials in
      let same : has.address ≡ address = own address has.address (tag_of cell) has.tag (tag_of_cell (heap_of schema list) address (heap_cell schema cell) links_here) typed (tag_of_cell (heap_of schema list) has.address _ has.stands.there) has.stands.typed has.named in
      let one : heap_cell schema cell ≡ live_cell has.tag (Links.Object has.slots) = same_Some _ _ (sym links_here ∙ ap (heap_of schema list) (sym same) ∙ has.stands.there) in
      true≢false (sym (ap (λ (l : HeapCell). l.live) one) ∙ dead)

  none_from : (found : Option Object) → ((object : Object) → found ≡ Some object → ⊥) → found ≡ None
  none_from None never = refl
  none_from (Some object) never = absurd (never object refl)

  pub dead_object : cell.live ≡ false → maps.get graph.objects (name_of cell) ≡ None
  dead_object dead = none_from (maps.get graph.objects (name_of cell)) (no_object dead)
