-- A one-sided set's collection is another: what the graph's pairs have of its side are its items, and its other pairs
-- stay.
use Rattle.std.proofs.Common.{◌≡◌, ◌≢◌, ◌↔◌, ◌⊎◌, ℕ, true, List, refl, sym, ap, subst, ◌∙◌, Some, inl, inr}
use Rattle.std.specs.List.{slice_get, Contains}
use Rattle.ostore_graph_model.specs.Sets as sets
use Rattle.std.proofs.lemmas.Option.{same_Some, none-some}
use Rattle.ostore_schema_layout.specs.declared.schema.Schema.{Schema}
use Rattle.ostore_schema_layout.specs.declared.schema.TypeNo.{TypeNo}
use Rattle.ostore_schema_layout.specs.declared.schema.MemberDef.{MemberDef}
use Rattle.ostore_schema_layout.specs.declared.schema.MemberKind.TheVariants as kinds
use Rattle.ostore_schema_layout.specs.Numbers.{members_of}
use Rattle.ostore_schema_layout.specs.Lawful.{link_target}
use Rattle.ostore_graph_model.specs.declared.values.Name.{Name}
use Rattle.ostore_graph_model.specs.Orders.{TypeMember, Pair, pair_cmp}
use Rattle.ostore_graph_model.specs.Chains.{chunk_code, ChainLink, IsChain, entries_of, LeadsTo}
use Rattle.ostore_graph_model.specs.Collections.{ChangesCollection}
use Rattle.ostore_graph_model.specs.CollectionEdits.{entry_items, type_member}
use Rattle.ostore_graph_model.specs.Heap.{Heap, name_at, name_in, live_cell}
use Rattle.ostore_graph_model.specs.HeapRules.{KeepsPointers, KeepsItems, KeepsChains}
use Rattle.ostore_graph_model.specs.Records.{CollectionHead, Slot, Links, RowTag}
use Rattle.ostore_graph_model.specs.Links.{comes_first, IsLink}
use Rattle.ostore_graph_model.specs.StandsFor.{Joins, ShowsPairs}
use Rattle.ostore_graph_model.proofs.ObjectLaws.{AreNamesOwn, named_object}
use Rattle.ostore_graph_model.proofs.ChainLaws.{chain_unique}
use Rattle.ostore_graph_model.proofs.ReferenceLaws.{same_tags, same_slots}
use Rattle.ostore_graph_model.proofs.CollectionLaws.{has}
use Rattle.ostore_graph_model.proofs.CollectionFrames.{joins_forth, joins_back}

-- a collection leads to the items of its chain
pub leads_items : (heap : Heap) (segment : ℕ) (def : MemberDef) (head : CollectionHead) (chain : List ChainLink) → IsChain heap (chunk_code def.kind) segment head.first chain
    → (pointer : ℕ) → LeadsTo heap segment def.kind (Slot.Begins head) pointer → Contains (entry_items (entries_of chain)) pointer
leads_items heap segment def head chain linked pointer leads =
    subst (λ es. Contains (entry_items es) pointer)
    (leads.has.all ∙ ap entries_of (chain_unique heap (chunk_code def.kind) segment head.first leads.has.chain chain leads.has.linked linked)) leads.there

pub items_lead_on : (heap : Heap) (segment : ℕ) (def : MemberDef) (head : CollectionHead) (chain : List ChainLink) → IsChain heap (chunk_code def.kind) segment head.first chain
    → (pointer : ℕ) → Contains (entry_items (entries_of chain)) pointer → LeadsTo heap segment def.kind (Slot.Begins head) pointer
items_lead_on heap segment def head chain linked pointer there = record { entries = entries_of chain; has = record { chain = chain; linked = linked; all = refl }; there = there }

module _ (schema : Schema) (heap now : Heap) (address member : ℕ) (tag : RowTag) (def : MemberDef) (slots : List Slot) (was is : CollectionHead) (chain after : List ChainLink)
    (change : ChangesCollection schema heap now address member tag def slots was is chain after)
    (chains : (other : ℕ) → KeepsChains schema heap other) (pointers : (other : ℕ) → KeepsPointers schema heap other) (items : (other : ℕ) → KeepsItems heap other)
    (own : AreNamesOwn heap) (target : TypeNo) (kind : def.kind ≡ kinds.Set target) (first : comes_first (type_member tag member) def.inverse ≡ true) where
  -- what was joined with the object at the set
  joined_was : (x y : Name) → x ≡ name_in tag → Joins schema heap (type_member tag member) x y → (pointer : ℕ) × Contains (entry_items (entries_of chain)) pointer × (name_at heap pointer ≡ Some y)
  joined_was x y same j =
      let at = named_object heap address j.address tag j.tag slots j.has.slots own change.object j.has.object (j.from ∙ same) in
      let there : heap address ≡ Some (live_cell j.tag (Links.Object j.has.slots)) = ap heap (sym at) ∙ j.has.object.there in
      let tags = same_tags tag j.tag slots j.has.slots (sym change.object.there ∙ there) in
      let held = same_slots tag j.tag slots j.has.slots (sym change.object.there ∙ there) in
      let defs : j.def ≡ def = same_Some j.def def (sym j.has.defined ∙ ap (λ (t : RowTag). slice_get (members_of schema t.code) member) (sym tags) ∙ change.defined) in
      let slot : j.slot ≡ Slot.Begins was = same_Some _ _ (sym j.has.held ∙ ap (λ (l : List Slot). slice_get l member) (sym held) ∙ change.held) in
      let leads = subst (λ s. LeadsTo heap tag.segment def.kind s j.pointer) slot (subst (λ (d : MemberDef). LeadsTo heap tag.segment d.kind j.slot j.pointer) defs (subst (λ (t : RowTag). LeadsTo heap t.segment j.def.kind j.slot j.pointer) (sym tags) j.leads)) in
      (j.pointer, leads_items heap tag.segment def was chain change.linked j.pointer leads, j.to)

  join_was : (y : Name) (pointer : ℕ) → Contains (entry_items (entries_of chain)) pointer → name_at heap pointer ≡ Some y → Joins schema heap (type_member tag member) (name_in tag) y
  join_was y pointer there named = record {
    address = address;
    tag = tag;
    def = def;
    slot = Slot.Begins was;
    has = record { slots = slots; object = change.object; defined = change.defined; held = change.held };
    ty = refl;
    from = refl;
    pointer = pointer;
    leads = items_lead_on heap tag.segment def was chain change.linked pointer there;
    to = named;
  }

  join_now : (y : Name) (pointer : ℕ) → Contains (entry_items (entries_of after)) pointer → name_at now pointer ≡ Some y → Joins schema now (type_member tag member) (name_in tag) y
  join_now y pointer there named = record {
    address = address;
    tag = tag;
    def = def;
    slot = Slot.Begins is;
    has = has schema heap now address member tag def slots was is chain after change;
    ty = refl;
    from = refl;
    pointer = pointer;
    leads = items_lead_on now tag.segment def is after change.relinked pointer there;
    to = named;
  }

  set_link : IsLink schema (type_member tag member)
  set_link = record {
    def = def;
    defined = change.defined;
    sided = λ none. none-some target (sym none ∙ ap link_target kind);
    first = first;
  }

  -- An item of the set now, by its name.
  abbrev pub IsItem : Name → Type 0
  IsItem y = (pointer : ℕ) × Contains (entry_items (entries_of after)) pointer × (name_at now pointer ≡ Some y)

  abbrev pub WasItem : Name → Type 0
  WasItem y = (pointer : ℕ) × Contains (entry_items (entries_of chain)) pointer × (name_at heap pointer ≡ Some y)

  -- Of the pairs those from the set are its items now, and the others are as they were.
  module _ (pairs changed : sets.FinSet pair_cmp)
      (forth : (pair : Pair) → sets.contains changed pair ≡ true → ((pair.link ≡ type_member tag member) × (pair.first ≡ name_in tag) × IsItem pair.second) ⊎ ((pair.link ≡ type_member tag member → pair.first ≡ name_in tag → ⊥) × (sets.contains pairs pair ≡ true)))
      (here : (pair : Pair) → pair.link ≡ type_member tag member → pair.first ≡ name_in tag → IsItem pair.second → sets.contains changed pair ≡ true)
      (away : (pair : Pair) → (pair.link ≡ type_member tag member → pair.first ≡ name_in tag → ⊥) → sets.contains pairs pair ≡ true → sets.contains changed pair ≡ true)
      (shown : ShowsPairs schema heap pairs) where
    pub pairs_changed : ShowsPairs schema now changed
    pairs_changed pair = (
      λ e. elim (forth pair e) [
        | inl this ↦ record {
          link = subst (IsLink schema) (sym this.0) set_link;
          joins = subst (λ l. Joins schema now l pair.first pair.second) (sym this.0) (subst (λ x. Joins schema now (type_member tag member) x pair.second) (sym this.1) (join_now pair.second this.2.0 this.2.1 this.2.2));
        }
        | inr old ↦
            let h = (shown pair).0 old.1 in
            record { link = h.link; joins = joins_forth schema heap now address member tag def slots was is chain after change chains pointers items own pair.link pair.first pair.second old.0 h.joins }
      ],
      λ h. elim (joins_back schema heap now address member tag def slots was is chain after change chains pointers items own pair.link pair.first pair.second h.joins) [
        | inl this ↦ here pair this.0 this.1 (this.2.0, leads_items now tag.segment def is after change.relinked this.2.0 this.2.1, this.2.2)
        | inr old ↦ away pair old.0 ((shown pair).1 (record { link = h.link; joins = old.1 }))
      ],
    )

  -- the pairs from the set before
  pub was_paired : (pairs : sets.FinSet pair_cmp) → ShowsPairs schema heap pairs → (pair : Pair) → pair.link ≡ type_member tag member → pair.first ≡ name_in tag → (sets.contains pairs pair ≡ true) ↔ WasItem pair.second
  was_paired pairs shown pair link starts = (
    λ e. joined_was pair.first pair.second starts (subst (λ l. Joins schema heap l pair.first pair.second) link ((shown pair).0 e).joins),
    λ w. (shown pair).1 (record {
      link = subst (IsLink schema) (sym link) set_link;
      joins = subst (λ l. Joins schema heap l pair.first pair.second) (sym link) (subst (λ x. Joins schema heap (type_member tag member) x pair.second) (sym starts) (join_was pair.second w.0 w.1 w.2));
    }),
  )

-- What is joined at a side after a set is changed: the object at the set's side with its items, or what was joined.
module _ (schema : Schema) (heap now : Heap) (address member : ℕ) (tag : RowTag) (def : MemberDef) (slots : List Slot) (was is : CollectionHead) (chain after : List ChainLink)
    (change : ChangesCollection schema heap now address member tag def slots was is chain after)
    (chains : (other : ℕ) → KeepsChains schema heap other) (pointers : (other : ℕ) → KeepsPointers schema heap other) (items : (other : ℕ) → KeepsItems heap other)
    (own : AreNamesOwn heap) where
  pub joins_changed : (link : TypeMember) (x y : Name) → Joins schema now link x y
      ↔ (((link ≡ type_member tag member) × (x ≡ name_in tag) × ((item : ℕ) × Contains (entry_items (entries_of after)) item × (name_at now item ≡ Some y)))
      ⊎ ((link ≡ type_member tag member → x ≢ name_in tag) × Joins schema heap link x y))
  joins_changed link x y = (
    λ j. elim (joins_back schema heap now address member tag def slots was is chain after change chains pointers items own link x y j) [
      | inl this ↦ inl (this.0, this.1, (this.2.0, leads_items now tag.segment def is after change.relinked this.2.0 this.2.1, this.2.2))
      | inr old ↦ inr (old.0, old.1)
    ],
    λ h. elim h [
      | inl this ↦
          subst (λ l. Joins schema now l x y) (sym this.0) (subst (λ z. Joins schema now (type_member tag member) z y) (sym this.1) (record {
            address = address;
            tag = tag;
            def = def;
            slot = Slot.Begins is;
            has = has schema heap now address member tag def slots was is chain after change;
            ty = refl;
            from = refl;
            pointer = this.2.0;
            leads = items_lead_on now tag.segment def is after change.relinked this.2.0 this.2.1;
            to = this.2.2;
          }))
      | inr old ↦ joins_forth schema heap now address member tag def slots was is chain after change chains pointers items own link x y old.0 old.1
    ],
  )
