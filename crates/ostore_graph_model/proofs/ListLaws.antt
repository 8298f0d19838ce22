-- A list member's collection is another: the graph has that list, and its other lists stay.
use Rattle.std.proofs.Common.{◌≡◌, ◌≢◌, ℕ, cond, List, [], map, sym, ap, subst, ◌∙◌, Some, inl, inr, true≢false}
use Rattle.std.specs.Ordering.{eq_by_cmp}
use Rattle.std.specs.FinMap as maps
use Rattle.std.proofs.lemmas.Bool.{cases_Bool}
use Rattle.std.proofs.lemmas.Option.{same_Some}
use Rattle.ostore_schema_layout.specs.declared.schema.Schema.{Schema}
use Rattle.ostore_schema_layout.specs.declared.schema.MemberDef.{MemberDef}
use Rattle.ostore_graph_model.specs.declared.values.Name.{Name}
use Rattle.ostore_graph_model.specs.Orders.{ObjectMember, object_member_cmp}
use Rattle.ostore_graph_model.specs.Chains.{chunk_code, ChainLink, entries_of}
use Rattle.ostore_graph_model.specs.Collections.{ChangesCollection}
use Rattle.ostore_graph_model.specs.CollectionEdits.{object_member}
use Rattle.ostore_graph_model.specs.Heap.{Heap, name_at}
use Rattle.ostore_graph_model.specs.HeapRules.{KeepsPointers, KeepsItems, KeepsChains}
use Rattle.ostore_graph_model.specs.Chunks.{ChunkEntry}
use Rattle.ostore_graph_model.specs.Records.{CollectionHead, Slot, RowTag}
use Rattle.ostore_graph_model.specs.StandsFor.{HasCollection, HasList, ShowsLists}
use Rattle.ostore_graph_model.proofs.OrderLaws.{object_member_cmp-IsTotalOrder, object_member_cmp-IsAntisymmetric, tied_same, same_tied, apart_tied}
use Rattle.ostore_graph_model.proofs.ObjectLaws.{AreNamesOwn}
use Rattle.ostore_graph_model.proofs.GraphExists.{same_names}
use Rattle.ostore_graph_model.proofs.CollectionFrames.{collection_now, list_forth, list_back}

module _ (schema : Schema) (heap now : Heap) (address member : ℕ) (tag : RowTag) (def : MemberDef) (slots : List Slot) (was is : CollectionHead) (chain after : List ChainLink)
    (change : ChangesCollection schema heap now address member tag def slots was is chain after)
    (chains : (other : ℕ) → KeepsChains schema heap other) (pointers : (other : ℕ) → KeepsPointers schema heap other) (items : (other : ℕ) → KeepsItems heap other)
    (own : AreNamesOwn heap) (kind : chunk_code def.kind ≡ 241) (names : List Name) (some : entries_of after ≢ []) (named : map (λ (entry : ChunkEntry). name_at now entry.item) (entries_of after) ≡ map (λ (n : Name). Some n) names)
    (lists : maps.FinMap object_member_cmp (List Name)) (shown : ShowsLists schema heap lists) where
  has_names : HasList schema now (object_member tag member) names
  has_names = record {
    entries = entries_of after;
    some = some;
    has = subst (λ k. HasCollection schema now (object_member tag member) k (entries_of after)) kind (collection_now schema heap now address member tag def slots was is chain after change chains pointers items own);
    named = named;
  }

  got : (other : ObjectMember) → maps.get (maps.insert lists (object_member tag member) names) other ≡ cond (eq_by_cmp object_member_cmp other (object_member tag member)) (Some names) (maps.get lists other)
  got other = maps.get-insert object_member_cmp-IsTotalOrder lists (object_member tag member) names other

  pub list_put : ShowsLists schema now (maps.insert lists (object_member tag member) names)
  list_put other x = (forth, back)
    where
      forth : maps.get (maps.insert lists (object_member tag member) names) other ≡ Some x → HasList schema now other x
      forth e = elim (cases_Bool (eq_by_cmp object_member_cmp other (object_member tag member))) [
        | inl tied ↦
            let is_names : names ≡ x = same_Some _ _ (sym (got other ∙ ap (λ b. cond b (Some names) (maps.get lists other)) tied) ∙ e) in
            subst (λ p. HasList schema now p x) (sym (tied_same object_member_cmp-IsAntisymmetric other (object_member tag member) tied)) (subst (HasList schema now (object_member tag member)) is_names has_names)
        | inr free ↦
            list_forth schema heap now address member tag def slots was is chain after change chains pointers items own other x (λ same. true≢false (sym (same_tied object_member_cmp-IsTotalOrder other (object_member tag member) same) ∙ free))
            ((shown other x).0 (sym (got other ∙ ap (λ b. cond b (Some names) (maps.get lists other)) free) ∙ e))
      ]

      back : HasList schema now other x → maps.get (maps.insert lists (object_member tag member) names) other ≡ Some x
      back h = elim (list_back schema heap now address member tag def slots was is chain after change chains pointers items own other x h) [
        | inl this ↦
            got other ∙ ap (λ b. cond b (Some names) (maps.get lists other)) (same_tied object_member_cmp-IsTotalOrder other (object_member tag member) this.0)
            ∙ ap Some (same_names names x (sym named ∙ this.3))
        | inr old ↦ got other ∙ ap (λ b. cond b (Some names) (maps.get lists other)) (apart_tied object_member_cmp-IsAntisymmetric other (object_member tag member) old.0) ∙ (shown other x).1 old.1
      ]
