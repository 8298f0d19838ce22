-- Where one collection of one object is another: what the other members, lists, dictionaries, links, roots and
-- indexes show is what they showed.
use Rattle.std.proofs.Common.{◌≡◌, ◌≢◌, ◌⊎◌, ℕ, List, [], map, set, refl, sym, ap, ap₂, subst, ◌∙◌, Option, Some, None, inl, inr, true≢false}
use Rattle.std.specs.List.{slice_get, All, Any}
use Rattle.std.specs.Option.{option_map}
use Rattle.std.specs.Ordering.{eq_by_cmp}
use Rattle.std.specs.FinMap as maps
use Rattle.ostore_graph_model.specs.Sets as sets
use Rattle.std.proofs.lemmas.Bool.{cases_eq, cases_Bool}
use Rattle.std.proofs.lemmas.Option.{same_Some, none-some}
use Rattle.ostore_schema_layout.specs.declared.schema.Schema.{Schema}
use Rattle.ostore_schema_layout.specs.declared.schema.MemberDef.{MemberDef}
use Rattle.ostore_base.specs.declared.cell_codes.TheConstants.{INDEX_DESCRIPTOR}
use Rattle.ostore_schema_layout.specs.Numbers.{members_of}
use Rattle.ostore_graph_model.specs.declared.values.Name.{Name}
use Rattle.ostore_graph_model.specs.declared.commands.Key.{Key}
use Rattle.ostore_graph_model.specs.Orders.{TypeMember, ObjectMember, object_member_cmp, key_cmp, pair_cmp, text_cmp, index_cmp, name_cmp}
use Rattle.ostore_graph_model.specs.Graph.{Object}
use Rattle.ostore_graph_model.specs.FixedPages.{RootRow}
use Rattle.ostore_graph_model.specs.Chains.{item_type, chunk_code, ChainLink, IsChain, IsIn, entries_of, HasEntries, LeadsTo}
use Rattle.ostore_graph_model.specs.Collections.{ChangesCollection}
use Rattle.ostore_graph_model.specs.Heap.{Heap, tag_at, code_at, name_at, name_in, live_cell, IsObject, HasMember}
use Rattle.ostore_graph_model.specs.HeapRules.{IsGoodRoot, KeepsRoots, KeepsPointers, KeepsItems, KeepsChains, KeepsLinks}
use Rattle.ostore_graph_model.specs.Owners.{Owner, chain_head, OwnsIndexes}
use Rattle.ostore_graph_model.specs.Chunks.{ChunkEntry}
use Rattle.ostore_graph_model.specs.Records.{CollectionHead, Slot, Links, RowTag, HeapCell}
use Rattle.ostore_graph_model.specs.Links.{IsLink}
use Rattle.ostore_graph_model.specs.StandsFor.{HasObject, Joins, HasCollection, HasList, Binds, HasDictionary, HasIndex, ShowsObjects, ShowsPairs, ShowsLists, ShowsDictionaries, ShowsIndexes, ShowsRoots}
use Rattle.ostore_graph_model.proofs.OrderLaws.{object_member_cmp-IsTotalOrder, object_member_cmp-IsAntisymmetric, tied_same, same_tied}
use Rattle.ostore_graph_model.proofs.ObjectLaws.{Values, AreNamesOwn, named_object, same_object}
use Rattle.ostore_graph_model.proofs.ChainLaws.{chain_unique}
use Rattle.ostore_graph_model.proofs.ItemLaws.{items_lead, leads_to_row}
use Rattle.ostore_graph_model.proofs.ReferenceLaws.{same_tags, same_slots}
use Rattle.ostore_graph_model.proofs.ShownLaws.{map_all, any_all, all_then}
use Rattle.ostore_graph_model.proofs.CollectionLaws.{has, now_member, was_member, tags_grow, moved, object_away, object_was_away}

-- a row that was there has the name that it had
pub name_stays : (heap now : Heap) (grow : (other : ℕ) (also : RowTag) → tag_at heap other ≡ Some also → tag_at now other ≡ Some also) (pointer code : ℕ) → code_at heap pointer ≡ Some code → name_at now pointer ≡ name_at heap pointer
name_stays heap now grow pointer code there = found (heap pointer) refl
  where
    found : (cell : Option HeapCell) → heap pointer ≡ cell → name_at now pointer ≡ name_at heap pointer
    found None e = absurd (none-some code (sym (ap (option_map (λ (c : HeapCell). c.tag.code)) e) ∙ there))
    found (Some cell) e =
        let tag = ap (option_map (λ (c : HeapCell). c.tag)) e in
        ap (option_map name_in) (grow pointer cell.tag tag ∙ sym tag)

begins_same : (one other : CollectionHead) → Slot.Begins one ≡ Slot.Begins other → one ≡ other
begins_same one other e = cc

no_items_indexes : (a m b n : ℕ) → Owner.Indexes a m ≢ Owner.Items b n
no_items_indexes a m b n e = cc

same_items_object : (a m b n : ℕ) → Owner.Items a m ≡ Owner.Items b n → a ≡ b
same_items_object a m b n e = cc

same_items_member : (a m b n : ℕ) → Owner.Items a m ≡ Owner.Items b n → m ≡ n
same_items_member a m b n e = cc

module _ (schema : Schema) (heap now : Heap) (address member : ℕ) (tag : RowTag) (def : MemberDef) (slots : List Slot) (was is : CollectionHead) (chain after : List ChainLink)
    (change : ChangesCollection schema heap now address member tag def slots was is chain after)
    (chains : (other : ℕ) → KeepsChains schema heap other) (pointers : (other : ℕ) → KeepsPointers schema heap other) (items : (other : ℕ) → KeepsItems heap other)
    (own : AreNamesOwn heap) where
  abbrev pub place : ObjectMember
  place = record { object = name_in tag; member = record { 0 = member } }

  abbrev pub side : TypeMember
  side = record { ty = record { 0 = tag.code }; member = record { 0 = member } }

  pub had : HasMember schema heap address member tag def (Slot.Begins was)
  had = record { slots = slots; object = change.object; defined = change.defined; held = change.held }

  pub named_stays : (pointer code : ℕ) → code_at heap pointer ≡ Some code → name_at now pointer ≡ name_at heap pointer
  named_stays pointer code there = name_stays heap now (tags_grow schema heap now address member tag def slots was is chain after change) pointer code there

  -- ---- chains

  -- the chain of another member stays
  chain_stays : (a m : ℕ) (t : RowTag) (d : MemberDef) (head : CollectionHead) → HasMember schema heap a m t d (Slot.Begins head) → (a ≡ address → m ≡ member → ⊥) → (links : List ChainLink) → IsChain heap (chunk_code d.kind) t.segment head.first links → IsChain now (chunk_code d.kind) t.segment head.first links
  chain_stays a m t d head held apart links linked =
      moved schema heap now address member tag def slots was is chain after change chains (Owner.Items a m) (chain_head (chunk_code d.kind) t.segment head.first (item_type d.kind))
      (record { tag = t; def = d; begins = head; has = held; is = refl })
      (λ e. apart (same_items_object a m address member e) (same_items_member a m address member e))
      links linked

  -- the chain that another member has now is the one that it had
  chain_back : (a m : ℕ) (t : RowTag) (d : MemberDef) (head : CollectionHead) → HasMember schema heap a m t d (Slot.Begins head) → (a ≡ address → m ≡ member → ⊥) → (links : List ChainLink) → IsChain now (chunk_code d.kind) t.segment head.first links → IsChain heap (chunk_code d.kind) t.segment head.first links
  chain_back a m t d head held apart links linked =
      let good = (chains a).collections m t d head held in
      subst (IsChain heap (chunk_code d.kind) t.segment head.first)
      (chain_unique now (chunk_code d.kind) t.segment head.first good.chain links (chain_stays a m t d head held apart good.chain good.linked) linked)
      good.linked

  -- ---- lists and dictionaries, as collections

  collection_forth : (other : ObjectMember) (code : ℕ) (entries : List ChunkEntry) → other ≢ place → HasCollection schema heap other code entries → HasCollection schema now other code entries
  collection_forth other code entries apart c =
      let away : c.address ≡ address → other.member.0 ≡ member → ⊥ = λ a m.
      let tags = same_object heap c.address address c.tag tag c.has.slots slots a c.has.object change.object in
      apart (λ i. record { object = (sym c.named ∙ ap name_in tags) i; member = record { 0 = m i } }) in
      record {
        address = c.address;
        tag = c.tag;
        def = c.def;
        head = c.head;
        has = elim (was_member schema heap now address member tag def slots was is chain after change c.address other.member.0 c.tag c.def (Slot.Begins c.head) c.has) [ inl this ↦ absurd (away this.0 this.1) | inr stays ↦ stays ];
        named = c.named;
        kind = c.kind;
        all = record {
          chain = c.all.chain;
          linked = subst (λ k. IsChain now k c.tag.segment c.head.first c.all.chain) c.kind (chain_stays c.address other.member.0 c.tag c.def c.head c.has away c.all.chain (subst (λ k. IsChain heap k c.tag.segment c.head.first c.all.chain) (sym c.kind) c.all.linked));
          all = c.all.all;
        };
      }

  collection_back : (other : ObjectMember) (code : ℕ) (entries : List ChunkEntry) → HasCollection schema now other code entries
      → ((other ≡ place) × (code ≡ chunk_code def.kind) × (entries ≡ entries_of after)) ⊎ ((other ≢ place) × HasCollection schema heap other code entries)
  collection_back other code entries c = elim (now_member schema heap now address member tag def slots was is chain after change c.address other.member.0 c.tag c.def (Slot.Begins c.head) c.has) [
    | inl this ↦
        let code_is : code ≡ chunk_code def.kind = sym c.kind ∙ ap (λ (d : MemberDef). chunk_code d.kind) this.3 in
        let head : c.head ≡ is = begins_same c.head is this.4 in
        let linked = subst (λ (y : CollectionHead). IsChain now (chunk_code def.kind) tag.segment y.first c.all.chain) head
        (subst (λ (t : RowTag). IsChain now (chunk_code def.kind) t.segment c.head.first c.all.chain) this.2 (subst (λ k. IsChain now k c.tag.segment c.head.first c.all.chain) code_is c.all.linked)) in
        let chains_are = chain_unique now (chunk_code def.kind) tag.segment is.first c.all.chain after linked change.relinked in
        inl (
          (λ i. record { object = (sym c.named ∙ ap name_in this.2) i; member = record { 0 = this.1 i } }),
          code_is,
          c.all.all ∙ ap entries_of chains_are,
        )
    | inr old ↦ inr (
      λ e.
          let name : name_in c.tag ≡ name_in tag = c.named ∙ ap (λ (p : ObjectMember). p.object) e in
          let at = named_object heap address c.address tag c.tag slots (old.1).slots own change.object (old.1).object name in
          old.0 at (ap (λ (p : ObjectMember). p.member.0) e),
      record {
        address = c.address;
        tag = c.tag;
        def = c.def;
        head = c.head;
        has = old.1;
        named = c.named;
        kind = c.kind;
        all = record {
          chain = c.all.chain;
          linked = subst (λ k. IsChain heap k c.tag.segment c.head.first c.all.chain) c.kind (chain_back c.address other.member.0 c.tag c.def c.head old.1 old.0 c.all.chain (subst (λ k. IsChain now k c.tag.segment c.head.first c.all.chain) (sym c.kind) c.all.linked));
          all = c.all.all;
        };
      },
    )
  ]

  -- the collection itself, before and now
  pub collection_was : (code : ℕ) (entries : List ChunkEntry) → HasCollection schema heap place code entries → (code ≡ chunk_code def.kind) × (entries ≡ entries_of chain)
  collection_was code entries c =
      let at = named_object heap address c.address tag c.tag slots c.has.slots own change.object c.has.object c.named in
      let there : heap address ≡ Some (live_cell c.tag (Links.Object c.has.slots)) = ap heap (sym at) ∙ c.has.object.there in
      let tags = same_tags tag c.tag slots c.has.slots (sym change.object.there ∙ there) in
      let held = same_slots tag c.tag slots c.has.slots (sym change.object.there ∙ there) in
      let defs : c.def ≡ def = same_Some c.def def (sym c.has.defined ∙ ap (λ (t : RowTag). slice_get (members_of schema t.code) member) (sym tags) ∙ change.defined) in
      let head : c.head ≡ was = begins_same c.head was (same_Some _ _ (sym c.has.held ∙ ap (λ (l : List Slot). slice_get l member) (sym held) ∙ change.held)) in
      let code_is : code ≡ chunk_code def.kind = sym c.kind ∙ ap (λ (d : MemberDef). chunk_code d.kind) defs in
      let linked = subst (λ (y : CollectionHead). IsChain heap (chunk_code def.kind) tag.segment y.first c.all.chain) head
      (subst (λ (t : RowTag). IsChain heap (chunk_code def.kind) t.segment c.head.first c.all.chain) (sym tags) (subst (λ k. IsChain heap k c.tag.segment c.head.first c.all.chain) code_is c.all.linked)) in
      (code_is, c.all.all ∙ ap entries_of (chain_unique heap (chunk_code def.kind) tag.segment was.first c.all.chain chain linked change.linked))

  pub collection_had : HasCollection schema heap (record { object = name_in tag; member = record { 0 = member } }) (chunk_code def.kind) (entries_of chain)
  collection_had = record { address = address; tag = tag; def = def; head = was; has = had; named = refl; kind = refl; all = record { chain = chain; linked = change.linked; all = refl } }

  pub collection_now : HasCollection schema now (record { object = name_in tag; member = record { 0 = member } }) (chunk_code def.kind) (entries_of after)
  collection_now = record { address = address; tag = tag; def = def; head = is; has = has schema heap now address member tag def slots was is chain after change; named = refl; kind = refl; all = record { chain = after; linked = change.relinked; all = refl } }

  pub rows_had : All (λ (entry : ChunkEntry). code_at heap entry.item ≡ Some (item_type def.kind)) (entries_of chain)
  rows_had = items_lead schema heap pointers items address member tag def was (entries_of chain) had (record { chain = chain; linked = change.linked; all = refl })

  -- the names along a collection that was there
  pub names_stay : (other : ObjectMember) (code : ℕ) (entries : List ChunkEntry) → HasCollection schema heap other code entries → All (λ entry. name_at now entry.item ≡ name_at heap entry.item) entries
  names_stay other code entries c =
      all_then (λ (entry : ChunkEntry). code_at heap entry.item ≡ Some (item_type c.def.kind)) (λ (entry : ChunkEntry). name_at now entry.item ≡ name_at heap entry.item) entries
      (λ entry there. named_stays entry.item _ there)
      (items_lead schema heap pointers items c.address other.member.0 c.tag c.def c.head entries c.has (subst (λ k. HasEntries heap k c.tag.segment c.head.first entries) (sym c.kind) c.all))

  pub at_place_or_not : (other : ObjectMember) → (other ≡ place) ⊎ (other ≢ place)
  at_place_or_not other = elim (cases_Bool (eq_by_cmp object_member_cmp other place)) [
    | inl tied ↦ inl (tied_same object_member_cmp-IsAntisymmetric other place tied)
    | inr free ↦ inr (λ same. true≢false (sym (same_tied object_member_cmp-IsTotalOrder other place same) ∙ free))
  ]

  -- ---- lists

  pub list_forth : (other : ObjectMember) (x : List Name) → other ≢ place → HasList schema heap other x → HasList schema now other x
  list_forth other x apart h = record {
    entries = h.entries;
    some = h.some;
    has = collection_forth other 241 h.entries apart h.has;
    named = map_all (λ (entry : ChunkEntry). name_at now entry.item) (λ (entry : ChunkEntry). name_at heap entry.item) h.entries (names_stay other 241 h.entries h.has) ∙ h.named;
  }

  pub list_back : (other : ObjectMember) (x : List Name) → HasList schema now other x
      → ((other ≡ place) × (241 ≡ chunk_code def.kind) × (entries_of after ≢ []) × (map (λ (entry : ChunkEntry). name_at now entry.item) (entries_of after) ≡ map (λ (n : Name). Some n) x)) ⊎ ((other ≢ place) × HasList schema heap other x)
  list_back other x h = elim (collection_back other 241 h.entries h.has) [
    | inl this ↦ inl (this.0, this.1, (λ e. h.some (this.2 ∙ e)), ap (map (λ (entry : ChunkEntry). name_at now entry.item)) (sym this.2) ∙ h.named)
    | inr old ↦ inr (
      old.0,
      record {
        entries = h.entries;
        some = h.some;
        has = old.1;
        named = sym (map_all (λ (entry : ChunkEntry). name_at now entry.item) (λ (entry : ChunkEntry). name_at heap entry.item) h.entries (names_stay other 241 h.entries old.1)) ∙ h.named;
      },
    )
  ]

  -- where the collection is no list, the lists stay
  pub lists_stay : (241 ≡ chunk_code def.kind → ⊥) → (lists : maps.FinMap object_member_cmp (List Name)) → ShowsLists schema heap lists → ShowsLists schema now lists
  lists_stay no_list lists shown other x = (
    λ e.
        let h = (shown other x).0 e in
        elim (at_place_or_not other) [
          | inl same ↦ absurd (no_list (collection_was 241 h.entries (subst (λ p. HasCollection schema heap p 241 h.entries) same h.has)).0)
          | inr apart ↦ list_forth other x apart h
        ],
    λ h. elim (list_back other x h) [ inl this ↦ absurd (no_list this.1) | inr old ↦ (shown other x).1 old.1 ],
  )

  -- ---- dictionaries

  pub binds_stay : (other : ObjectMember) (code : ℕ) (entries : List ChunkEntry) (key : Key) (name : Name) → HasCollection schema heap other code entries → (Any (Binds heap key name) entries → Any (Binds now key name) entries) × (Any (Binds now key name) entries → Any (Binds heap key name) entries)
  binds_stay other code entries key name c =
      let same = names_stay other code entries c in (
        any_all (Binds heap key name) (Binds now key name) entries (λ k d below binds. (binds.0, same k d below ∙ binds.1)),
        any_all (Binds now key name) (Binds heap key name) entries (λ k d below binds. (binds.0, sym (same k d below) ∙ binds.1)),
      )

  pub dictionary_forth : (other : ObjectMember) (x : maps.FinMap key_cmp Name) → other ≢ place → HasDictionary schema heap other x → HasDictionary schema now other x
  dictionary_forth other x apart h = record {
    code = h.code;
    keyed = h.keyed;
    entries = h.entries;
    some = h.some;
    has = collection_forth other h.code h.entries apart h.has;
    bound = λ key name.
        let same = binds_stay other h.code h.entries key name h.has in
        (λ e. same.0 ((h.bound key name).0 e), λ any. (h.bound key name).1 (same.1 any));
  }

  pub dictionary_back : (other : ObjectMember) (x : maps.FinMap key_cmp Name) → HasDictionary schema now other x
      → ((other ≡ place) × ((chunk_code def.kind ≡ 242) ⊎ (chunk_code def.kind ≡ 243)) × (entries_of after ≢ [])
      × ((key : Key) (name : Name) → (maps.get x key ≡ Some name → Any (Binds now key name) (entries_of after)) × (Any (Binds now key name) (entries_of after) → maps.get x key ≡ Some name)))
      ⊎ ((other ≢ place) × HasDictionary schema heap other x)
  dictionary_back other x h = elim (collection_back other h.code h.entries h.has) [
    | inl this ↦ inl (
      this.0,
      subst (λ c. (c ≡ 242) ⊎ (c ≡ 243)) this.1 h.keyed,
      (λ e. h.some (this.2 ∙ e)),
      λ key name. (λ e. subst (Any (Binds now key name)) this.2 ((h.bound key name).0 e), λ any. (h.bound key name).1 (subst (Any (Binds now key name)) (sym this.2) any)),
    )
    | inr old ↦ inr (
      old.0,
      record {
        code = h.code;
        keyed = h.keyed;
        entries = h.entries;
        some = h.some;
        has = old.1;
        bound = λ key name.
            let same = binds_stay other h.code h.entries key name old.1 in
            (λ e. same.1 ((h.bound key name).0 e), λ any. (h.bound key name).1 (same.0 any));
      },
    )
  ]

  -- where the collection is no dictionary, the dictionaries stay
  pub dictionaries_stay : ((chunk_code def.kind ≡ 242) ⊎ (chunk_code def.kind ≡ 243) → ⊥) → (dictionaries : maps.FinMap object_member_cmp (maps.FinMap key_cmp Name)) → ShowsDictionaries schema heap dictionaries → ShowsDictionaries schema now dictionaries
  dictionaries_stay no_dictionary dictionaries shown other x = (
    λ e.
        let h = (shown other x).0 e in
        elim (at_place_or_not other) [
          | inl same ↦
              let code_is = (collection_was h.code h.entries (subst (λ p. HasCollection schema heap p h.code h.entries) same h.has)).0 in
              absurd (no_dictionary (subst (λ c. (c ≡ 242) ⊎ (c ≡ 243)) code_is h.keyed))
          | inr apart ↦ dictionary_forth other x apart h
        ],
    λ h. elim (dictionary_back other x h) [ inl this ↦ absurd (no_dictionary this.1) | inr old ↦ (shown other x).1 old.1 ],
  )

  -- ---- what a member leads to

  leads_forth : (a m : ℕ) (t : RowTag) (d : MemberDef) (slot : Slot) → HasMember schema heap a m t d slot → (a ≡ address → m ≡ member → ⊥) → (pointer : ℕ) → LeadsTo heap t.segment d.kind slot pointer → LeadsTo now t.segment d.kind slot pointer
  leads_forth a m t d Slot.Plain held apart pointer leads = leads
  leads_forth a m t d (Slot.Refers to) held apart pointer leads = leads
  leads_forth a m t d (Slot.Begins head) held apart pointer leads = record {
    entries = leads.entries;
    has = record { chain = leads.has.chain; linked = chain_stays a m t d head held apart leads.has.chain leads.has.linked; all = leads.has.all };
    there = leads.there;
  }

  leads_back : (a m : ℕ) (t : RowTag) (d : MemberDef) (slot : Slot) → HasMember schema heap a m t d slot → (a ≡ address → m ≡ member → ⊥) → (pointer : ℕ) → LeadsTo now t.segment d.kind slot pointer → LeadsTo heap t.segment d.kind slot pointer
  leads_back a m t d Slot.Plain held apart pointer leads = leads
  leads_back a m t d (Slot.Refers to) held apart pointer leads = leads
  leads_back a m t d (Slot.Begins head) held apart pointer leads = record {
    entries = leads.entries;
    has = record { chain = leads.has.chain; linked = chain_back a m t d head held apart leads.has.chain leads.has.linked; all = leads.has.all };
    there = leads.there;
  }

  -- ---- pairs

  pub joins_forth : (link : TypeMember) (x y : Name) → (link ≡ side → x ≡ name_in tag → ⊥) → Joins schema heap link x y → Joins schema now link x y
  joins_forth link x y apart j =
      let away : j.address ≡ address → link.member.0 ≡ member → ⊥ = λ a m.
      let tags = same_object heap j.address address j.tag tag j.has.slots slots a j.has.object change.object in
      apart (λ i. record { ty = record { 0 = (sym j.ty ∙ ap (λ (t : RowTag). t.code) tags) i }; member = record { 0 = m i } }) (sym j.from ∙ ap name_in tags) in
      record {
        address = j.address;
        tag = j.tag;
        def = j.def;
        slot = j.slot;
        has = elim (was_member schema heap now address member tag def slots was is chain after change j.address link.member.0 j.tag j.def j.slot j.has) [ inl this ↦ absurd (away this.0 this.1) | inr stays ↦ stays ];
        ty = j.ty;
        from = j.from;
        pointer = j.pointer;
        leads = leads_forth j.address link.member.0 j.tag j.def j.slot j.has away j.pointer j.leads;
        to = named_stays j.pointer _ (leads_to_row schema heap pointers items j.address link.member.0 j.tag j.def j.slot j.has j.pointer j.leads) ∙ j.to;
      }

  pub joins_back : (link : TypeMember) (x y : Name) → Joins schema now link x y
      → ((link ≡ side) × (x ≡ name_in tag) × ((pointer : ℕ) × LeadsTo now tag.segment def.kind (Slot.Begins is) pointer × (name_at now pointer ≡ Some y))) ⊎ ((link ≡ side → x ≡ name_in tag → ⊥) × Joins schema heap link x y)
  joins_back link x y j = elim (now_member schema heap now address member tag def slots was is chain after change j.address link.member.0 j.tag j.def j.slot j.has) [
    | inl this ↦ inl (
      (λ i. record { ty = record { 0 = (sym j.ty ∙ ap (λ (t : RowTag). t.code) this.2) i }; member = record { 0 = this.1 i } }),
      sym j.from ∙ ap name_in this.2,
      (
        j.pointer,
        subst (λ s. LeadsTo now tag.segment def.kind s j.pointer) this.4 (subst (λ (d : MemberDef). LeadsTo now tag.segment d.kind j.slot j.pointer) this.3 (subst (λ (t : RowTag). LeadsTo now t.segment j.def.kind j.slot j.pointer) this.2 j.leads)),
        j.to,
      ),
    )
    | inr old ↦
        let leads = leads_back j.address link.member.0 j.tag j.def j.slot old.1 old.0 j.pointer j.leads in
        inr (
          λ e f. old.0 (named_object heap address j.address tag j.tag slots (old.1).slots own change.object (old.1).object (j.from ∙ f)) (ap (λ (s : TypeMember). s.member.0) e),
          record {
            address = j.address;
            tag = j.tag;
            def = j.def;
            slot = j.slot;
            has = old.1;
            ty = j.ty;
            from = j.from;
            pointer = j.pointer;
            leads = leads;
            to = sym (named_stays j.pointer _ (leads_to_row schema heap pointers items j.address link.member.0 j.tag j.def j.slot old.1 j.pointer leads)) ∙ j.to;
          },
        )
  ]

  -- where no link goes by the collection, the pairs stay
  pub pairs_stay : (IsLink schema (record { ty = record { 0 = tag.code }; member = record { 0 = member } }) → ⊥) → (pairs : sets.FinSet pair_cmp) → ShowsPairs schema heap pairs → ShowsPairs schema now pairs
  pairs_stay no_link pairs shown pair = (
    λ e.
        let h = (shown pair).0 e in
        record { link = h.link; joins = joins_forth pair.link pair.first pair.second (λ same first. no_link (subst (IsLink schema) same h.link)) h.joins },
    λ h. (shown pair).1 (record {
      link = h.link;
      joins = elim (joins_back pair.link pair.first pair.second h.joins) [ inl this ↦ absurd (no_link (subst (IsLink schema) this.0 h.link)) | inr old ↦ old.1 ];
    }),
  )

  -- ---- links

  -- where the collection is no side of a two-sided link, the sides stay
  pub links_stay : def.inverse ≡ None → ((other : ℕ) → KeepsLinks schema heap other) → (other : ℕ) → KeepsLinks schema now other
  links_stay alone keeps other m t d slot inverse target held sided leads = elim (now_member schema heap now address member tag def slots was is chain after change other m t d slot held) [
    | inl this ↦ absurd (none-some inverse (sym alone ∙ ap (λ (x : MemberDef). x.inverse) (sym this.3) ∙ sided))
    | inr old ↦
        let before = keeps other m t d slot inverse target old.1 sided (leads_back other m t d slot old.1 old.0 target leads) in
        let away : target ≡ address → inverse.member.0 ≡ member → ⊥ = λ a n. before.sided (other_def before.tag before.def before.slot a n before.has) in
        record {
          tag = before.tag;
          def = before.def;
          slot = before.slot;
          has = elim (was_member schema heap now address member tag def slots was is chain after change target inverse.member.0 before.tag before.def before.slot before.has) [ inl this ↦ absurd (away this.0 this.1) | inr stays ↦ stays ];
          sided = before.sided;
          leads = leads_forth target inverse.member.0 before.tag before.def before.slot before.has away other before.leads;
        }
  ]
    where
      other_def : (t : RowTag) (d : MemberDef) (slot : Slot) → target ≡ address → inverse.member.0 ≡ member → HasMember schema heap target inverse.member.0 t d slot → d.inverse ≡ None
      other_def t d slot a n held =
          let tags = same_object heap target address t tag held.slots slots a held.object change.object in
          let defined = ap₂ (λ (u : RowTag) (k : ℕ). slice_get (members_of schema u.code) k) (sym tags) (sym n) ∙ held.defined in
          ap (λ (x : MemberDef). x.inverse) (same_Some d def (sym defined ∙ change.defined)) ∙ alone

  -- ---- objects

  object_forth : (values held : Values) → ((other : ℕ) → (IsIn other after → ⊥) → held other ≡ values other) → (name : Name) (object : Object) → HasObject heap values name object → HasObject now held name object
  object_forth values held same name object h = elim (cases_eq h.address address) [
    | inl here ↦
        let tags = same_object heap h.address address h.tag tag h.slots slots here h.stands change.object in
        record {
          address = address;
          tag = tag;
          slots = set slots member (Slot.Begins is);
          stands = record { there = change.there; typed = change.object.typed };
          named = ap name_in (sym tags) ∙ h.named;
          ty = ap (λ (t : RowTag). t.code) (sym tags) ∙ h.ty;
          held = same address (object_was_away schema heap now address member tag def slots was is chain after change address tag (Links.Object slots) change.object.there change.object.typed) ∙ ap values (sym here) ∙ h.held;
        }
    | inr apart ↦
        let away = object_was_away schema heap now address member tag def slots was is chain after change h.address h.tag (Links.Object h.slots) h.stands.there h.stands.typed in
        record {
          address = h.address;
          tag = h.tag;
          slots = h.slots;
          stands = record { there = change.others h.address apart away ∙ h.stands.there; typed = h.stands.typed };
          named = h.named;
          ty = h.ty;
          held = same h.address away ∙ h.held;
        }
  ]

  object_back : (values held : Values) → ((other : ℕ) → (IsIn other after → ⊥) → held other ≡ values other) → (name : Name) (object : Object) → HasObject now held name object → HasObject heap values name object
  object_back values held same name object h = elim (cases_eq h.address address) [
    | inl here ↦
        let stands : IsObject now address tag (set slots member (Slot.Begins is)) = record { there = change.there; typed = change.object.typed } in
        let tags = same_object now h.address address h.tag tag h.slots (set slots member (Slot.Begins is)) here h.stands stands in
        record {
          address = address;
          tag = tag;
          slots = slots;
          stands = change.object;
          named = ap name_in (sym tags) ∙ h.named;
          ty = ap (λ (t : RowTag). t.code) (sym tags) ∙ h.ty;
          held = sym (same address (object_was_away schema heap now address member tag def slots was is chain after change address tag (Links.Object slots) change.object.there change.object.typed)) ∙ ap held (sym here) ∙ h.held;
        }
    | inr apart ↦
        let away = object_away schema heap now address member tag def slots was is chain after change h.address h.tag (Links.Object h.slots) h.stands.there h.stands.typed in
        record {
          address = h.address;
          tag = h.tag;
          slots = h.slots;
          stands = record { there = sym (change.others h.address apart away) ∙ h.stands.there; typed = h.stands.typed };
          named = h.named;
          ty = h.ty;
          held = sym (same h.address away) ∙ h.held;
        }
  ]

  pub objects_stay : (values held : Values) → ((other : ℕ) → (IsIn other after → ⊥) → held other ≡ values other) → (objects : maps.FinMap name_cmp Object) → ShowsObjects heap values objects → ShowsObjects now held objects
  objects_stay values held same objects shown name object = (λ e. object_forth values held same name object ((shown name object).0 e), λ h. (shown name object).1 (object_back values held same name object h))

  -- ---- roots

  pub roots_stay : (rows : List RootRow) (roots : maps.FinMap text_cmp Name) → KeepsRoots heap rows → ShowsRoots heap rows roots → ShowsRoots now rows roots
  roots_stay rows roots good shown root name =
      let same = all_then (IsGoodRoot heap) (λ (row : RootRow). name_at now row.pointer ≡ name_at heap row.pointer) rows (λ row fine. named_stays row.pointer fine.leads.0 fine.leads.1) good.good in (
        λ e. any_all (λ (row : RootRow). (row.name ≡ root) × (name_at heap row.pointer ≡ Some name)) (λ (row : RootRow). (row.name ≡ root) × (name_at now row.pointer ≡ Some name)) rows (λ k d below h. (h.0, same k d below ∙ h.1)) ((shown root name).0 e),
        λ h. (shown root name).1 (any_all (λ (row : RootRow). (row.name ≡ root) × (name_at now row.pointer ≡ Some name)) (λ (row : RootRow). (row.name ≡ root) × (name_at heap row.pointer ≡ Some name)) rows (λ k d below g. (g.0, sym (same k d below) ∙ g.1)) h),
      )

  -- ---- indexes

  descriptors_forth : (a m : ℕ) (t : RowTag) (d : MemberDef) (head : CollectionHead) → HasMember schema heap a m t d (Slot.Begins head) → (links : List ChainLink) → IsChain heap INDEX_DESCRIPTOR t.segment head.descriptor links → IsChain now INDEX_DESCRIPTOR t.segment head.descriptor links
  descriptors_forth a m t d head held links linked =
      moved schema heap now address member tag def slots was is chain after change chains (Owner.Indexes a m) (chain_head INDEX_DESCRIPTOR t.segment head.descriptor (item_type d.kind))
      (record { tag = t; def = d; begins = head; has = held; is = refl }) (no_items_indexes a m address member) links linked

  descriptors_back : (a m : ℕ) (t : RowTag) (d : MemberDef) (head : CollectionHead) → HasMember schema heap a m t d (Slot.Begins head) → (links : List ChainLink) → IsChain now INDEX_DESCRIPTOR t.segment head.descriptor links → IsChain heap INDEX_DESCRIPTOR t.segment head.descriptor links
  descriptors_back a m t d head held links linked =
      let owns : OwnsIndexes schema heap a m (chain_head INDEX_DESCRIPTOR t.segment head.descriptor (item_type d.kind)) = record { tag = t; def = d; begins = head; has = held; is = refl } in
      let whole = (chains a).whole (Owner.Indexes a m) (chain_head INDEX_DESCRIPTOR t.segment head.descriptor (item_type d.kind)) refl owns in
      subst (IsChain heap INDEX_DESCRIPTOR t.segment head.descriptor)
      (chain_unique now INDEX_DESCRIPTOR t.segment head.descriptor whole.0 links (descriptors_forth a m t d head held whole.0 whole.1) linked) whole.1

  pub indexes_stay : (indexes : sets.FinSet index_cmp) → ShowsIndexes schema heap indexes → ShowsIndexes schema now indexes
  indexes_stay indexes shown index = (λ e. forth ((shown index).0 e), λ h. (shown index).1 (back h))
    where
      forth : HasIndex schema heap index → HasIndex schema now index
      forth h =
          let stays = descriptors_forth h.address index.set.member.0 h.tag h.def h.head h.has h.chain h.linked in
          elim (was_member schema heap now address member tag def slots was is chain after change h.address index.set.member.0 h.tag h.def (Slot.Begins h.head) h.has) [
            | inl this ↦
                let head : h.head ≡ was = begins_same h.head was this.4 in
                record {
                  address = address;
                  tag = tag;
                  def = def;
                  head = is;
                  has = subst (λ n. HasMember schema now address n tag def (Slot.Begins is)) (sym this.1) (has schema heap now address member tag def slots was is chain after change);
                  named = ap name_in (sym this.2) ∙ h.named;
                  chain = h.chain;
                  linked = subst (λ (p : ℕ). IsChain now INDEX_DESCRIPTOR tag.segment p h.chain) (ap (λ (x : CollectionHead). x.descriptor) head ∙ sym change.descriptor) (subst (λ (t : RowTag). IsChain now INDEX_DESCRIPTOR t.segment h.head.descriptor h.chain) this.2 stays);
                  descriptor = h.descriptor;
                  there = h.there;
                  path = h.path;
                }
            | inr held ↦ record {
              address = h.address;
              tag = h.tag;
              def = h.def;
              head = h.head;
              has = held;
              named = h.named;
              chain = h.chain;
              linked = stays;
              descriptor = h.descriptor;
              there = h.there;
              path = h.path;
            }
          ]

      back : HasIndex schema now index → HasIndex schema heap index
      back h = elim (now_member schema heap now address member tag def slots was is chain after change h.address index.set.member.0 h.tag h.def (Slot.Begins h.head) h.has) [
        | inl this ↦
            let head : h.head ≡ is = begins_same h.head is this.4 in
            let linked = subst (λ (p : ℕ). IsChain now INDEX_DESCRIPTOR tag.segment p h.chain) (ap (λ (x : CollectionHead). x.descriptor) head ∙ change.descriptor) (subst (λ (t : RowTag). IsChain now INDEX_DESCRIPTOR t.segment h.head.descriptor h.chain) this.2 h.linked) in
            record {
              address = address;
              tag = tag;
              def = def;
              head = was;
              has = subst (λ n. HasMember schema heap address n tag def (Slot.Begins was)) (sym this.1) had;
              named = ap name_in (sym this.2) ∙ h.named;
              chain = h.chain;
              linked = descriptors_back address member tag def was had h.chain linked;
              descriptor = h.descriptor;
              there = h.there;
              path = h.path;
            }
        | inr old ↦ record {
          address = h.address;
          tag = h.tag;
          def = h.def;
          head = h.head;
          has = old.1;
          named = h.named;
          chain = h.chain;
          linked = descriptors_back h.address index.set.member.0 h.tag h.def h.head old.1 h.chain h.linked;
          descriptor = h.descriptor;
          there = h.there;
          path = h.path;
        }
      ]
