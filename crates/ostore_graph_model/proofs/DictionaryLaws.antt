-- A dictionary member's collection is another: the graph has that dictionary, or none where it is empty, and its
-- other dictionaries stay.
use Rattle.std.proofs.Common.{◌≡◌, ◌≢◌, ◌↔◌, ◌⊎◌, ℕ, cond, List, [], sym, ap, subst, ◌∙◌, Some, None, inl, inr, true≢false}
use Rattle.std.specs.List.{Any}
use Rattle.std.specs.Ordering.{eq_by_cmp}
use Rattle.std.specs.FinMap as maps
use Rattle.std.proofs.lemmas.Bool.{cases_Bool}
use Rattle.std.proofs.lemmas.Option.{same_Some, none-some}
use Rattle.ostore_schema_layout.specs.declared.schema.Schema.{Schema}
use Rattle.ostore_schema_layout.specs.declared.schema.MemberDef.{MemberDef}
use Rattle.ostore_graph_model.specs.declared.values.Name.{Name}
use Rattle.ostore_graph_model.specs.declared.commands.Key.{Key}
use Rattle.ostore_graph_model.specs.Orders.{ObjectMember, object_member_cmp, key_cmp}
use Rattle.ostore_graph_model.specs.Chains.{chunk_code, ChainLink, entries_of}
use Rattle.ostore_graph_model.specs.Collections.{ChangesCollection}
use Rattle.ostore_graph_model.specs.CollectionEdits.{object_member}
use Rattle.ostore_graph_model.specs.Heap.{Heap}
use Rattle.ostore_graph_model.specs.HeapRules.{KeepsPointers, KeepsItems, KeepsChains}
use Rattle.ostore_graph_model.specs.Records.{CollectionHead, Slot, RowTag}
use Rattle.ostore_graph_model.specs.StandsFor.{HasDictionary, Binds, ShowsDictionaries}
use Rattle.ostore_graph_model.proofs.KeyLaws.{key_cmp-IsTotalOrder, key_cmp-IsAntisymmetric}
use Rattle.ostore_graph_model.proofs.OrderLaws.{object_member_cmp-IsTotalOrder, object_member_cmp-IsAntisymmetric, tied_same, same_tied, apart_tied}
use Rattle.ostore_graph_model.proofs.ObjectLaws.{AreNamesOwn}
use Rattle.ostore_graph_model.proofs.UniqueLaws.{one_map}
use Rattle.ostore_graph_model.proofs.CollectionFrames.{collection_now, dictionary_forth, dictionary_back}

module _ (schema : Schema) (heap now : Heap) (address member : ℕ) (tag : RowTag) (def : MemberDef) (slots : List Slot) (was is : CollectionHead) (chain after : List ChainLink)
    (change : ChangesCollection schema heap now address member tag def slots was is chain after)
    (chains : (other : ℕ) → KeepsChains schema heap other) (pointers : (other : ℕ) → KeepsPointers schema heap other) (items : (other : ℕ) → KeepsItems heap other)
    (own : AreNamesOwn heap)
    (dictionaries : maps.FinMap object_member_cmp (maps.FinMap key_cmp Name)) (shown : ShowsDictionaries schema heap dictionaries) where
  -- without entries
  module _ (none : entries_of after ≡ []) where
    left : (other : ObjectMember) → maps.get (maps.remove dictionaries (object_member tag member)) other ≡ cond (eq_by_cmp object_member_cmp other (object_member tag member)) None (maps.get dictionaries other)
    left other = maps.get-remove object_member_cmp-IsTotalOrder dictionaries (object_member tag member) other

    pub dictionary_gone : ShowsDictionaries schema now (maps.remove dictionaries (object_member tag member))
    dictionary_gone other x = (forth, back)
      where
        forth : maps.get (maps.remove dictionaries (object_member tag member)) other ≡ Some x → HasDictionary schema now other x
        forth e = elim (cases_Bool (eq_by_cmp object_member_cmp other (object_member tag member))) [
          | inl tied ↦ absurd (none-some x (sym (left other ∙ ap (λ b. cond b None (maps.get dictionaries other)) tied) ∙ e))
          | inr free ↦
              dictionary_forth schema heap now address member tag def slots was is chain after change chains pointers items own other x (λ same. true≢false (sym (same_tied object_member_cmp-IsTotalOrder other (object_member tag member) same) ∙ free))
              ((shown other x).0 (sym (left other ∙ ap (λ b. cond b None (maps.get dictionaries other)) free) ∙ e))
        ]

        back : HasDictionary schema now other x → maps.get (maps.remove dictionaries (object_member tag member)) other ≡ Some x
        back h = elim (dictionary_back schema heap now address member tag def slots was is chain after change chains pointers items own other x h) [
          | inl this ↦ absurd (this.2 none)
          | inr old ↦ left other ∙ ap (λ b. cond b None (maps.get dictionaries other)) (apart_tied object_member_cmp-IsAntisymmetric other (object_member tag member) old.0) ∙ (shown other x).1 old.1
        ]

  -- with some
  module _ (keyed : (chunk_code def.kind ≡ 242) ⊎ (chunk_code def.kind ≡ 243)) (dictionary : maps.FinMap key_cmp Name) (some : entries_of after ≢ [])
      (bound : (key : Key) (name : Name) → (maps.get dictionary key ≡ Some name) ↔ Any (Binds now key name) (entries_of after)) where
    has_bindings : HasDictionary schema now (object_member tag member) dictionary
    has_bindings = record {
      code = chunk_code def.kind;
      keyed = keyed;
      entries = entries_of after;
      some = some;
      has = collection_now schema heap now address member tag def slots was is chain after change chains pointers items own;
      bound = bound;
    }

    got : (other : ObjectMember) → maps.get (maps.insert dictionaries (object_member tag member) dictionary) other ≡ cond (eq_by_cmp object_member_cmp other (object_member tag member)) (Some dictionary) (maps.get dictionaries other)
    got other = maps.get-insert object_member_cmp-IsTotalOrder dictionaries (object_member tag member) dictionary other

    pub dictionary_put : ShowsDictionaries schema now (maps.insert dictionaries (object_member tag member) dictionary)
    dictionary_put other x = (forth, back)
      where
        forth : maps.get (maps.insert dictionaries (object_member tag member) dictionary) other ≡ Some x → HasDictionary schema now other x
        forth e = elim (cases_Bool (eq_by_cmp object_member_cmp other (object_member tag member))) [
          | inl tied ↦
              let same : dictionary ≡ x = same_Some _ _ (sym (got other ∙ ap (λ b. cond b (Some dictionary) (maps.get dictionaries other)) tied) ∙ e) in
              subst (λ p. HasDictionary schema now p x) (sym (tied_same object_member_cmp-IsAntisymmetric other (object_member tag member) tied)) (subst (HasDictionary schema now (object_member tag member)) same has_bindings)
          | inr free ↦
              dictionary_forth schema heap now address member tag def slots was is chain after change chains pointers items own other x (λ same. true≢false (sym (same_tied object_member_cmp-IsTotalOrder other (object_member tag member) same) ∙ free))
              ((shown other x).0 (sym (got other ∙ ap (λ b. cond b (Some dictionary) (maps.get dictionaries other)) free) ∙ e))
        ]

        back : HasDictionary schema now other x → maps.get (maps.insert dictionaries (object_member tag member) dictionary) other ≡ Some x
        back h = elim (dictionary_back schema heap now address member tag def slots was is chain after change chains pointers items own other x h) [
          | inl this ↦
              got other ∙ ap (λ b. cond b (Some dictionary) (maps.get dictionaries other)) (same_tied object_member_cmp-IsTotalOrder other (object_member tag member) this.0)
              ∙ ap Some (one_map key_cmp-IsTotalOrder key_cmp-IsAntisymmetric dictionary x (λ key name. Any (Binds now key name) (entries_of after)) bound this.3)
          | inr old ↦ got other ∙ ap (λ b. cond b (Some dictionary) (maps.get dictionaries other)) (apart_tied object_member_cmp-IsAntisymmetric other (object_member tag member) old.0) ∙ (shown other x).1 old.1
        ]
