-- The count of a list is the number of its items in the graph.
use Rattle.std.proofs.Common.{◌≡◌, ◌*◌, ℕ, List, [], ◌∷◌, length, map, refl, sym, ap, subst, ◌∙◌, suc, Option, Some, None, inl, inr}
use Rattle.std.specs.Prelude.{unwrap_or}
use Rattle.std.specs.FinMap as maps
use Rattle.std.proofs.lemmas.Option.{none-some}
use Rattle.ostore_base.specs.declared.page.PageImage.{PageImage}
use Rattle.ostore_schema_layout.specs.declared.schema.Schema.{Schema}
use Rattle.ostore_schema_layout.specs.declared.schema.MemberDef.{MemberDef}
use Rattle.ostore_graph_model.specs.declared.values.Name.{Name}
use Rattle.ostore_graph_model.specs.Graph.{Graph, list_at}
use Rattle.ostore_graph_model.specs.FixedPages.{serial_of}
use Rattle.ostore_graph_model.specs.Chunks.{ChunkEntry}
use Rattle.ostore_graph_model.specs.Records.{CollectionHead, Slot, RowTag, heap_of}
use Rattle.ostore_graph_model.specs.Heap.{name_at, HasMember}
use Rattle.ostore_graph_model.specs.HeapRules.{IsGoodCollection}
use Rattle.ostore_graph_model.specs.Chains.{item_type, chunk_code, entries_of, IsChain}
use Rattle.ostore_graph_model.specs.StandsFor.{HasCollection}
use Rattle.ostore_graph_model.specs.LawsOfMeaning.{HoldGraph}
use Rattle.ostore_graph_model.specs.CollectionEdits.{object_member, LawOfListSizes}
use Rattle.ostore_graph_model.proofs.ObjectLaws.{names_own}
use Rattle.ostore_graph_model.proofs.ItemLaws.{items_lead}
use Rattle.ostore_graph_model.proofs.GraphExists.{names_of, nil_or_not, same_entries}
use Rattle.ostore_graph_model.proofs.GraphLaws.{addresses_bounded}

long_map : {X Y : Type 0} (f : X → Y) (xs : List X) → length (map f xs) ≡ length xs
long_map f [] = refl
long_map f (x ∷ xs) = ap suc (long_map f xs)

module _ (schema : Schema) (pages : List PageImage) (graph : Graph) (address member : ℕ) (tag : RowTag) (def : MemberDef) (head : CollectionHead)
    (holds : HoldGraph schema pages graph) (has : HasMember schema (heap_of schema pages) address member tag def (Slot.Begins head)) (kind : chunk_code def.kind ≡ 241) where
  good : IsGoodCollection (heap_of schema pages) (chunk_code def.kind) tag.segment head
  good = (holds.cells_kept.chains address).collections member tag def head has

  here : HasCollection schema (heap_of schema pages) (object_member tag member) 241 (entries_of good.chain)
  here = record {
    address = address;
    tag = tag;
    def = def;
    head = head;
    has = has;
    named = refl;
    kind = kind;
    all = record { chain = good.chain; linked = subst (λ k. IsChain (heap_of schema pages) k tag.segment head.first good.chain) kind good.linked; all = refl };
  }

  as_long : (held : Option (List Name)) → maps.get graph.lists (object_member tag member) ≡ held → length (entries_of good.chain) ≡ length (unwrap_or held [])
  as_long (Some xs) e =
      let cells = holds.cells_kept in
      let h = (holds.stands.lists (object_member tag member) xs).0 e in
      let own = names_own (heap_of schema pages) (serial_of pages) cells.serials in
      let same = same_entries schema (heap_of schema pages) (4096 * length pages) (addresses_bounded schema pages) own cells.chains (object_member tag member) 241 241 h.entries (entries_of good.chain) h.has here in
      ap length (sym same)
      ∙ sym (long_map (λ (entry : ChunkEntry). name_at (heap_of schema pages) entry.item) h.entries)
      ∙ ap length h.named
      ∙ long_map (λ (n : Name). Some n) xs
  as_long None e = elim (nil_or_not (entries_of good.chain)) [
    | inl none ↦ ap length none
    | inr some ↦
        let cells = holds.cells_kept in
        let rows = items_lead schema (heap_of schema pages) cells.pointers cells.items address member tag def head (entries_of good.chain) has (record { chain = good.chain; linked = good.linked; all = refl }) in
        let named = names_of (heap_of schema pages) (item_type def.kind) (entries_of good.chain) rows in
        absurd (none-some named.0 (sym e ∙ (holds.stands.lists (object_member tag member) named.0).1 (record { entries = entries_of good.chain; some = some; has = here; named = named.1 })))
  ]

  pub list_size : head.count ≡ length (list_at graph (object_member tag member))
  list_size = sym good.counted ∙ as_long (maps.get graph.lists (object_member tag member)) refl

pub list_sizes_law : LawOfListSizes
list_sizes_law schema pages graph address member tag def head holds has kind = list_size schema pages graph address member tag def head holds has kind
