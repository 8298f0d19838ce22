-- One collection of one object is another: its object's head, the entries of its chunks, and new chunks behind
-- them. All other chains and members are as they were, and the rules of group 2 hold.
use Rattle.std.proofs.Common.{◌≡◌, ◌≢◌, ◌⊎◌, ℕ, true, List, [], ◌∷◌, length, set, refl, sym, ap, ap₂, subst, ◌∙◌, Option, Some, None, inl, inr, true≢false}
use Rattle.std.specs.List.{slice_get, All}
use Rattle.std.specs.Option.{option_map}
use Rattle.std.proofs.lemmas.Bool.{cases_eq}
use Rattle.std.proofs.lemmas.Option.{same_Some, none-some, slice_get_within}
use Rattle.ostore_page_tags.specs.Rules.{is_type_code}
use Rattle.ostore_schema_layout.specs.declared.schema.Schema.{Schema}
use Rattle.ostore_schema_layout.specs.declared.schema.MemberDef.{MemberDef}
use Rattle.ostore_base.specs.declared.cell_codes.TheConstants.{INDEX_DESCRIPTOR}
use Rattle.ostore_schema_layout.specs.Numbers.{members_of}
use Rattle.ostore_graph_model.specs.Chains.{IsIn, item_type, chunk_code, ChainLink, next_of, chunk_tag, IsChain, entries_of}
use Rattle.ostore_graph_model.specs.Heap.{Heap, tag_at, code_at, links_at, live_cell, HasMember}
use Rattle.ostore_graph_model.specs.HeapRules.{KeepsSerials, LeadsToChunk, HasGoodPointers, AreItemsOf, HasGoodEntries, KeepsPointers, IsWhole, IsLawfulChain, IsGoodCollection, HasOneOwner, KeepsChains, KeepsOwner, KeepsItems}
use Rattle.ostore_graph_model.specs.Owners.{Owner, ChainHead, chain_head, Reaches, OwnsItems, OwnsIndexes, index_code, Owns, IsOwnedBy, object_of_owner}
use Rattle.ostore_graph_model.specs.Chunks.{ChunkEntry, IndexDescriptor}
use Rattle.ostore_graph_model.specs.Records.{CollectionHead, Slot, Links, RowTag, HeapCell}
use Rattle.ostore_graph_model.specs.Collections.{ChangesCollection, IsChunkOf, LawOfCollections}
use Rattle.ostore_graph_model.proofs.AddressLaws.{slice_get-set_same, slice_get-set_other}
use Rattle.ostore_graph_model.proofs.HeapLaws.{chunk_code-IsNoType, code_of, links_are, member_elsewhere, owned_code, chunk_code_no_type}
use Rattle.ostore_graph_model.proofs.ShownLaws.{good_roots}
use Rattle.ostore_graph_model.proofs.ReferenceLaws.{same_tags, same_slots, good_by_codes}
use Rattle.ostore_graph_model.proofs.ChainLaws.{in_or_not, in_chain, chain_moved, in_reaches, reaches_in}

module _ (schema : Schema) (heap now : Heap) (address member : ℕ) (tag : RowTag) (def : MemberDef) (slots : List Slot) (was is : CollectionHead) (chain after : List ChainLink)
    (change : ChangesCollection schema heap now address member tag def slots was is chain after) where
  abbrev code : ℕ
  code = chunk_code def.kind

  abbrev changed : List Slot
  changed = set slots member (Slot.Begins is)

  had : HasMember schema heap address member tag def (Slot.Begins was)
  had = record { slots = slots; object = change.object; defined = change.defined; held = change.held }

  pub has : HasMember schema now address member tag def (Slot.Begins is)
  has = record {
    slots = set slots member (Slot.Begins is);
    object = record { there = change.there; typed = change.object.typed };
    defined = change.defined;
    held = slice_get-set_same slots member (Slot.Begins is) (slice_get_within slots member (Slot.Begins was) change.held);
  }

  -- an object isn't a chunk of the chain
  pub object_away : (other : ℕ) (also : RowTag) (links : Links) → now other ≡ Some (live_cell also links) → is_type_code also.code ≡ true → IsIn other after → ⊥
  object_away other also links there typed inside =
      let cell = in_chain now (chunk_code def.kind) tag.segment is.first after other change.relinked inside in
      let tags : also ≡ chunk_tag (chunk_code def.kind) tag.segment = ap (λ (c : HeapCell). c.tag) (same_Some _ _ (sym there ∙ cell.1)) in
      true≢false (sym typed ∙ ap (λ (t : RowTag). is_type_code t.code) tags ∙ chunk_code-IsNoType def.kind)

  pub object_was_away : (other : ℕ) (also : RowTag) (links : Links) → heap other ≡ Some (live_cell also links) → is_type_code also.code ≡ true → IsIn other after → ⊥
  object_was_away other also links there typed inside = elim (change.adds other inside) [
    | inl old ↦
        let cell = in_chain heap (chunk_code def.kind) tag.segment was.first chain other change.linked old in
        let tags : also ≡ chunk_tag (chunk_code def.kind) tag.segment = ap (λ (c : HeapCell). c.tag) (same_Some _ _ (sym there ∙ cell.1)) in
        true≢false (sym typed ∙ ap (λ (t : RowTag). is_type_code t.code) tags ∙ chunk_code-IsNoType def.kind)
    | inr free ↦ none-some _ (sym free ∙ there)
  ]

  -- ---- members

  -- a member now is the collection, or as it was
  pub now_member : (other m : ℕ) (also : RowTag) (d : MemberDef) (slot : Slot) → HasMember schema now other m also d slot
      → ((other ≡ address) × (m ≡ member) × (also ≡ tag) × (d ≡ def) × (slot ≡ Slot.Begins is)) ⊎ ((other ≡ address → m ≡ member → ⊥) × HasMember schema heap other m also d slot)
  unfolding has
  now_member other m also d slot held = elim (cases_eq other address) [
    | inl same ↦
        let there : now address ≡ Some (live_cell also (Links.Object held.slots)) = ap now (sym same) ∙ held.object.there in
        let tags = same_tags tag also changed held.slots (sym change.there ∙ there) in
        let lists = same_slots tag also changed held.slots (sym change.there ∙ there) in
        elim (cases_eq m member) [
          | inl this ↦
              let defs : d ≡ def = same_Some d def (sym held.defined ∙ ap₂ (λ (t : RowTag) (n : ℕ). slice_get (members_of schema t.code) n) (sym tags) this ∙ change.defined) in
              let slots_are : slot ≡ Slot.Begins is = same_Some _ _ (sym held.held ∙ ap₂ (λ (l : List Slot) (n : ℕ). slice_get l n) (sym lists) this ∙ has.held) in
              inl (same, this, sym tags, defs, slots_are)
          | inr apart ↦ inr (
            λ a b. apart b,
            record {
              slots = slots;
              object = record { there = ap heap same ∙ subst (λ (t : RowTag). heap address ≡ Some (live_cell t (Links.Object slots))) tags change.object.there; typed = held.object.typed };
              defined = held.defined;
              held = sym (slice_get-set_other slots member m (Slot.Begins is) apart) ∙ ap (λ (l : List Slot). slice_get l m) lists ∙ held.held;
            },
          )
        ]
    | inr away ↦
        inr (λ a b. away a, member_elsewhere schema now heap other m also d slot (sym (change.others other away (object_away other also _ held.object.there held.object.typed))) held)
  ]

  pub was_member : (other m : ℕ) (also : RowTag) (d : MemberDef) (slot : Slot) → HasMember schema heap other m also d slot
      → ((other ≡ address) × (m ≡ member) × (also ≡ tag) × (d ≡ def) × (slot ≡ Slot.Begins was)) ⊎ HasMember schema now other m also d slot
  was_member other m also d slot held = elim (cases_eq other address) [
    | inl same ↦
        let there : heap address ≡ Some (live_cell also (Links.Object held.slots)) = ap heap (sym same) ∙ held.object.there in
        let tags = same_tags tag also slots held.slots (sym change.object.there ∙ there) in
        let lists = same_slots tag also slots held.slots (sym change.object.there ∙ there) in
        elim (cases_eq m member) [
          | inl this ↦
              let defs : d ≡ def = same_Some d def (sym held.defined ∙ ap₂ (λ (t : RowTag) (n : ℕ). slice_get (members_of schema t.code) n) (sym tags) this ∙ change.defined) in
              let slots_are : slot ≡ Slot.Begins was = same_Some _ _ (sym held.held ∙ ap₂ (λ (l : List Slot) (n : ℕ). slice_get l n) (sym lists) this ∙ change.held) in
              inl (same, this, sym tags, defs, slots_are)
          | inr apart ↦ inr (record {
            slots = set slots member (Slot.Begins is);
            object = record { there = ap now same ∙ subst (λ (t : RowTag). now address ≡ Some (live_cell t (Links.Object (set slots member (Slot.Begins is))))) tags change.there; typed = held.object.typed };
            defined = held.defined;
            held = slice_get-set_other slots member m (Slot.Begins is) apart ∙ ap (λ (l : List Slot). slice_get l m) lists ∙ held.held;
          })
        ]
    | inr away ↦ inr (member_elsewhere schema heap now other m also d slot (change.others other away (object_was_away other also _ held.object.there held.object.typed)) held)
  ]

  -- ---- rows stay

  pub tags_grow : (other : ℕ) (also : RowTag) → tag_at heap other ≡ Some also → tag_at now other ≡ Some also
  tags_grow other also there = elim (cases_eq other address) [
    | inl same ↦
        ap (tag_at now) same ∙ ap (option_map (λ (c : HeapCell). c.tag)) change.there ∙ sym (ap (option_map (λ (c : HeapCell). c.tag)) change.object.there) ∙ ap (tag_at heap) (sym same) ∙ there
    | inr away ↦ elim (in_or_not other after) [
      | inl inside ↦ elim (change.adds other inside) [
        | inl old ↦
            let before = in_chain heap (chunk_code def.kind) tag.segment was.first chain other change.linked old in
            let cell = in_chain now (chunk_code def.kind) tag.segment is.first after other change.relinked inside in
            ap (option_map (λ (c : HeapCell). c.tag)) cell.1 ∙ sym (ap (option_map (λ (c : HeapCell). c.tag)) before.1) ∙ there
        | inr free ↦ absurd (none-some also (sym (ap (option_map (λ (c : HeapCell). c.tag)) free) ∙ there))
      ]
      | inr outside ↦ ap (option_map (λ (c : HeapCell). c.tag)) (change.others other away outside) ∙ there
    ]
  ]

  pub codes_grow : (other k : ℕ) → code_at heap other ≡ Some k → code_at now other ≡ Some k
  codes_grow other k there = by_tag (heap other) refl
    where
      by_tag : (found : Option HeapCell) → heap other ≡ found → code_at now other ≡ Some k
      by_tag None e = absurd (none-some k (sym (ap (option_map (λ (c : HeapCell). c.tag.code)) e) ∙ there))
      by_tag (Some cell) e =
          let tag_now = tags_grow other cell.tag (ap (option_map (λ (c : HeapCell). c.tag)) e) in
          code_from (now other) cell.tag tag_now ∙ sym (ap (option_map (λ (c : HeapCell). c.tag.code)) e) ∙ there
        where
          code_from : (found : Option HeapCell) (t : RowTag) → option_map (λ (c : HeapCell). c.tag) found ≡ Some t → option_map (λ (c : HeapCell). c.tag.code) found ≡ Some t.code
          code_from None t e = absurd (none-some t e)
          code_from (Some cell) t e = ap (λ (x : RowTag). Some x.code) (same_Some cell.tag t e)

  -- the rows of objects are those that were
  object_tag : (other : ℕ) (also : RowTag) → tag_at now other ≡ Some also → is_type_code also.code ≡ true → tag_at heap other ≡ Some also
  object_tag other also there typed = elim (cases_eq other address) [
    | inl same ↦
        ap (tag_at heap) same ∙ ap (option_map (λ (c : HeapCell). c.tag)) change.object.there ∙ sym (ap (option_map (λ (c : HeapCell). c.tag)) change.there) ∙ ap (tag_at now) (sym same) ∙ there
    | inr away ↦ elim (in_or_not other after) [
      | inl inside ↦
          let cell = in_chain now (chunk_code def.kind) tag.segment is.first after other change.relinked inside in
          let tags : also ≡ chunk_tag (chunk_code def.kind) tag.segment = same_Some _ _ (sym there ∙ ap (option_map (λ (c : HeapCell). c.tag)) cell.1) in
          absurd (true≢false (sym typed ∙ ap (λ (t : RowTag). is_type_code t.code) tags ∙ chunk_code-IsNoType def.kind))
      | inr outside ↦ ap (option_map (λ (c : HeapCell). c.tag)) (sym (change.others other away outside)) ∙ there
    ]
  ]

  serials_stay : (serials : ℕ → ℕ) → ((other : ℕ) → KeepsSerials (tag_at heap) serials other) → (other : ℕ) → KeepsSerials (tag_at now) serials other
  serials_stay serials keeps other also there typed =
      let was_good = keeps other also (object_tag other also there typed) typed in
      record { own = λ b t found kind same. was_good.own b t (object_tag b t found kind) kind same; drawn = was_good.drawn }

  -- a cell that isn't in the chain, and is no object's, stays
  outside_stays : (other : ℕ) (also : RowTag) (held : Links) → (IsIn other after → ⊥) → now other ≡ Some (live_cell also held) → ((slots : List Slot) → held ≡ Links.Object slots → ⊥) → now other ≡ heap other
  outside_stays other also held outside there no_object =
      change.others other (λ same. no_object changed (ap (λ (c : HeapCell). c.links) (same_Some _ _ (sym there ∙ ap now same ∙ change.there)))) outside

  -- ---- owners

  abbrev this_owner : Owner
  this_owner = Owner.Items address member

  abbrev head_was : ChainHead
  head_was = chain_head (chunk_code def.kind) tag.segment was.first (item_type def.kind)

  abbrev head_is : ChainHead
  head_is = chain_head (chunk_code def.kind) tag.segment is.first (item_type def.kind)

  owned_was : Owns schema heap (Owner.Items address member) head_was
  owned_was = record { tag = tag; def = def; begins = was; has = had; is = refl }

  module _ (chains : (other : ℕ) → KeepsChains schema heap other) where
    -- a chunk of the chain has no other owner
    alone : (other : ℕ) (owner : Owner) (head : ChainHead) → IsIn other chain → IsOwnedBy schema heap other owner head → owner ≡ Owner.Items address member
    alone other owner head inside owned =
        let this : IsOwnedBy schema heap other (Owner.Items address member) head_was = record { owns = owned_was; reaches = in_reaches heap head_was chain other change.linked inside } in
        (chains address).apart (Owner.Items address member) head_was other refl this owner (Owner.Items address member) head head_was owned this

    -- the cells of another owner's chain are as they were
    cell_stays : (owner : Owner) (head : ChainHead) → Owns schema heap owner head → owner ≢ Owner.Items address member → (links : List ChainLink) → IsChain heap head.code head.segment head.first links → (a : ℕ) → IsIn a links → now a ≡ heap a
    cell_stays owner head owns other links linked a inside =
        let cell = in_chain heap head.code head.segment head.first links a linked inside in
        let away : a ≢ address = λ same.
        true≢false (sym change.object.typed ∙ ap (λ (t : RowTag). is_type_code t.code) (ap (λ (c : HeapCell). c.tag) (same_Some _ _ (sym change.object.there ∙ ap heap (sym same) ∙ cell.1))) ∙ owned_code schema heap owner head owns) in
        change.others a away (λ there. elim (change.adds a there) [
          | inl old ↦ other (alone a owner head old (record { owns = owns; reaches = in_reaches heap head links a linked inside }))
          | inr free ↦ none-some _ (sym free ∙ cell.1)
        ])

    pub moved : (owner : Owner) (head : ChainHead) → Owns schema heap owner head → owner ≢ Owner.Items address member → (links : List ChainLink) → IsChain heap head.code head.segment head.first links → IsChain now head.code head.segment head.first links
    moved owner head owns other links linked = chain_moved heap now head.code head.segment head.first links (cell_stays owner head owns other links linked) linked

    reached_stays : (owner : Owner) (head : ChainHead) → Owns schema heap owner head → owner ≢ Owner.Items address member → (a : ℕ) → Reaches heap head a → now a ≡ heap a
    reached_stays owner head owns other a reaches =
        let whole = (chains (object_of_owner owner)).whole owner head refl owns in
        cell_stays owner head owns other whole.0 whole.1 a (reaches_in heap head whole.0 a whole.1 reaches)

    -- and no cell of it is in the collection's chain now
    disjoint : (owner : Owner) (head : ChainHead) → Owns schema heap owner head → owner ≢ Owner.Items address member → (links : List ChainLink) → IsChain heap head.code head.segment head.first links → (a : ℕ) → IsIn a links → IsIn a after → ⊥
    disjoint owner head owns other links linked a inside there = elim (change.adds a there) [
      | inl old ↦ other (alone a owner head old (record { owns = owns; reaches = in_reaches heap head links a linked inside }))
      | inr free ↦ none-some _ (sym free ∙ (in_chain heap head.code head.segment head.first links a linked inside).1)
    ]

    moved_reach : (owner : Owner) (head : ChainHead) → Owns schema heap owner head → owner ≢ Owner.Items address member → (a : ℕ) → Reaches heap head a → Reaches now head a
    moved_reach owner head owns other a reaches =
        let whole = (chains (object_of_owner owner)).whole owner head refl owns in
        in_reaches now head whole.0 a (moved owner head owns other whole.0 whole.1) (reaches_in heap head whole.0 a whole.1 reaches)

    moved_back : (owner : Owner) (head : ChainHead) → Owns schema heap owner head → owner ≢ Owner.Items address member → (a : ℕ) → Reaches now head a → Reaches heap head a
    moved_back owner head owns other a reaches =
        let whole = (chains (object_of_owner owner)).whole owner head refl owns in
        in_reaches heap head whole.0 a whole.1 (reaches_in now head whole.0 a (moved owner head owns other whole.0 whole.1) reaches)

    no_items_indexes : (a m b n : ℕ) → Owner.Indexes a m ≢ Owner.Items b n
    no_items_indexes a m b n e = cc

    no_items_contents : (a m d b n : ℕ) → Owner.Contents a m d ≢ Owner.Items b n
    no_items_contents a m d b n e = cc

    pub same_owner_object : (a m b n : ℕ) → Owner.Items a m ≡ Owner.Items b n → a ≡ b
    same_owner_object a m b n e = cc

    pub same_owner_member : (a m b n : ℕ) → Owner.Items a m ≡ Owner.Items b n → m ≡ n
    same_owner_member a m b n e = cc

    pub same_begins : (one other : CollectionHead) → Slot.Begins one ≡ Slot.Begins other → one ≡ other
    same_begins one other e = cc

    -- the indexes of a set are as they were
    indexes_back : (other m : ℕ) (head : ChainHead) → OwnsIndexes schema now other m head → OwnsIndexes schema heap other m head
    indexes_back other m head owns = elim (now_member other m owns.tag owns.def (Slot.Begins owns.begins) owns.has) [
      | inl this ↦
          let begins : owns.begins ≡ is = same_begins owns.begins is this.4 in
          record {
            tag = tag;
            def = def;
            begins = was;
            has = subst (λ a. HasMember schema heap a m tag def (Slot.Begins was)) (sym this.0) (subst (λ n. HasMember schema heap address n tag def (Slot.Begins was)) (sym this.1) had);
            is = owns.is ∙ (λ i. chain_head INDEX_DESCRIPTOR (this.2 i).segment ((ap (λ (h : CollectionHead). h.descriptor) begins ∙ change.descriptor) i) (item_type (this.3 i).kind));
          }
      | inr old ↦ record { tag = owns.tag; def = owns.def; begins = owns.begins; has = old.1; is = owns.is }
    ]

    indexes_forth : (other m : ℕ) (head : ChainHead) → OwnsIndexes schema heap other m head → OwnsIndexes schema now other m head
    indexes_forth other m head owns = elim (was_member other m owns.tag owns.def (Slot.Begins owns.begins) owns.has) [
      | inl this ↦
          let begins : owns.begins ≡ was = same_begins owns.begins was this.4 in
          record {
            tag = tag;
            def = def;
            begins = is;
            has = subst (λ a. HasMember schema now a m tag def (Slot.Begins is)) (sym this.0) (subst (λ n. HasMember schema now address n tag def (Slot.Begins is)) (sym this.1) has);
            is = owns.is ∙ (λ i. chain_head INDEX_DESCRIPTOR (this.2 i).segment ((ap (λ (h : CollectionHead). h.descriptor) begins ∙ sym change.descriptor) i) (item_type (this.3 i).kind));
          }
      | inr stays ↦ record { tag = owns.tag; def = owns.def; begins = owns.begins; has = stays; is = owns.is }
    ]

    -- what owns a chain now is the collection, or owned it before
    owns_back : (owner : Owner) (head : ChainHead) → Owns schema now owner head → ((owner ≡ Owner.Items address member) × (head ≡ head_is)) ⊎ ((owner ≢ Owner.Items address member) × Owns schema heap owner head)
    owns_back (Owner.Items other m) head owns = elim (now_member other m owns.tag owns.def (Slot.Begins owns.begins) owns.has) [
      | inl this ↦ inl (
        ap₂ (λ a n. Owner.Items a n) this.0 this.1,
        owns.is ∙ (λ i. chain_head (chunk_code (this.3 i).kind) (this.2 i).segment ((ap (λ (h : CollectionHead). h.first) (same_begins owns.begins is this.4)) i) (item_type (this.3 i).kind)),
      )
      | inr old ↦ inr (λ e. old.0 (same_owner_object other m address member e) (same_owner_member other m address member e), record { tag = owns.tag; def = owns.def; begins = owns.begins; has = old.1; is = owns.is })
    ]
    owns_back (Owner.Indexes other m) head owns = inr (no_items_indexes other m address member, indexes_back other m head owns)
    owns_back (Owner.Contents other m descriptor) head owns =
        let over = indexes_back other m owns.over owns.owned in
        let reached = moved_back (Owner.Indexes other m) owns.over over (no_items_indexes other m address member) descriptor owns.reached in
        inr (
          no_items_contents other m descriptor address member,
          record {
            over = owns.over;
            owned = over;
            reached = reached;
            next = owns.next;
            index = owns.index;
            there = ap (option_map (λ (c : HeapCell). c.links)) (sym (reached_stays (Owner.Indexes other m) owns.over over (no_items_indexes other m address member) descriptor reached)) ∙ owns.there;
            is = owns.is;
          },
        )

    owns_forth : (owner : Owner) (head : ChainHead) → Owns schema heap owner head → (owner ≡ Owner.Items address member) ⊎ Owns schema now owner head
    owns_forth (Owner.Items other m) head owns = elim (was_member other m owns.tag owns.def (Slot.Begins owns.begins) owns.has) [
      | inl this ↦ inl (ap₂ (λ a n. Owner.Items a n) this.0 this.1)
      | inr stays ↦ inr (record { tag = owns.tag; def = owns.def; begins = owns.begins; has = stays; is = owns.is })
    ]
    owns_forth (Owner.Indexes other m) head owns = inr (indexes_forth other m head owns)
    owns_forth (Owner.Contents other m descriptor) head owns =
        let apart = no_items_indexes other m address member in
        inr (record {
          over = owns.over;
          owned = indexes_forth other m owns.over owns.owned;
          reached = moved_reach (Owner.Indexes other m) owns.over owns.owned apart descriptor owns.reached;
          next = owns.next;
          index = owns.index;
          there = ap (option_map (λ (c : HeapCell). c.links)) (reached_stays (Owner.Indexes other m) owns.over owns.owned apart descriptor owns.reached) ∙ owns.there;
          is = owns.is;
        })

    -- what is owned now is in the collection's chain, or was owned before
    owned_back : (a : ℕ) (owner : Owner) (head : ChainHead) → IsOwnedBy schema now a owner head
        → ((owner ≡ Owner.Items address member) × (head ≡ head_is) × IsIn a after) ⊎ ((IsIn a after → ⊥) × IsOwnedBy schema heap a owner head)
    owned_back a owner head owned = elim (owns_back owner head owned.owns) [
      | inl this ↦ inl (this.0, this.1, reaches_in now head_is after a change.relinked (subst (λ h. Reaches now h a) this.1 owned.reaches))
      | inr old ↦
          let reaches = moved_back owner head old.1 old.0 a owned.reaches in
          let whole = (chains (object_of_owner owner)).whole owner head refl old.1 in
          inr (disjoint owner head old.1 old.0 whole.0 whole.1 a (reaches_in heap head whole.0 a whole.1 reaches), record { owns = old.1; reaches = reaches })
    ]

    -- ---- rule 10

    module _ (counted : length (entries_of after) ≡ is.count) (lawful : IsLawfulChain (chunk_code def.kind) after) where
      collection : (other m : ℕ) (also : RowTag) (d : MemberDef) (head : CollectionHead) → HasMember schema now other m also d (Slot.Begins head) → IsGoodCollection now (chunk_code d.kind) also.segment head
      collection other m also d head held = elim (now_member other m also d (Slot.Begins head) held) [
        | inl this ↦
            let begins : head ≡ is = same_begins head is this.4 in
            let good : IsGoodCollection now (chunk_code def.kind) tag.segment is = record { chain = after; linked = change.relinked; counted = counted; lawful = lawful } in
            subst (λ h. IsGoodCollection now (chunk_code d.kind) also.segment h) (sym begins)
            (subst (λ (x : MemberDef). IsGoodCollection now (chunk_code x.kind) also.segment is) (sym this.3)
            (subst (λ (t : RowTag). IsGoodCollection now (chunk_code def.kind) t.segment is) (sym this.2) good))
        | inr old ↦
            let good = (chains other).collections m also d head old.1 in
            let owns : OwnsItems schema heap other m (chain_head (chunk_code d.kind) also.segment head.first (item_type d.kind)) = record { tag = also; def = d; begins = head; has = old.1; is = refl } in
            record {
              chain = good.chain;
              linked = moved (Owner.Items other m) (chain_head (chunk_code d.kind) also.segment head.first (item_type d.kind)) owns
                  (λ e. old.0 (same_owner_object other m address member e) (same_owner_member other m address member e)) good.chain good.linked;
              counted = good.counted;
              lawful = good.lawful;
            }
      ]

      one_owner : (a : ℕ) → HasOneOwner schema now a
      one_owner a one two head also first second = elim (owned_back a one head first) [
        | inl this ↦ elim (owned_back a two also second) [
          | inl that ↦ this.0 ∙ sym that.0
          | inr old ↦ absurd (old.0 this.2)
        ]
        | inr old ↦ elim (owned_back a two also second) [
          | inl that ↦ absurd (old.0 that.2)
          | inr aged ↦ (chains (object_of_owner one)).apart one head a refl old.1 one two head also old.1 aged.1
        ]
      ]

      pub collection_chains : (other : ℕ) → KeepsChains schema now other
      collection_chains other = record {
        collections = λ m also d head held. collection other m also d head held;
        whole = λ owner head of owns. elim (owns_back owner head owns) [
          | inl this ↦ subst (IsWhole now) (sym this.1) (after, change.relinked)
          | inr old ↦
              let whole = (chains (object_of_owner owner)).whole owner head refl old.1 in
              (whole.0, moved owner head old.1 old.0 whole.0 whole.1)
        ];
        apart = λ owner head chunk of owned. one_owner chunk;
      }

    pub collection_owners : ((other : ℕ) → KeepsOwner schema heap other) → (other : ℕ) → KeepsOwner schema now other
    collection_owners keeps other also links there chunk = elim (in_or_not other after) [
      | inl inside ↦ (Owner.Items address member, head_is, record { owns = record { tag = tag; def = def; begins = is; has = has; is = refl }; reaches = in_reaches now head_is after other change.relinked inside })
      | inr outside ↦
          let away : other ≢ address = λ same.
          chunk_code_no_type also.code chunk (subst (λ (t : RowTag). is_type_code t.code ≡ true) (ap (λ (c : HeapCell). c.tag) (same_Some _ _ (sym change.there ∙ ap now (sym same) ∙ there))) change.object.typed) in
          let was_there = keeps other also links (sym (change.others other away outside) ∙ there) chunk in
          let owner = was_there.0 in
          let head = was_there.1 in
          let owned = was_there.2 in
          elim (owns_forth owner head owned.owns) [
            | inl this ↦
                let whole = (chains (object_of_owner owner)).whole owner head refl owned.owns in
                absurd (outside (change.keeps other (own_chain owner head owned.owns this other owned.reaches)))
            | inr stays ↦ (
              owner,
              head,
              record {
                owns = stays;
                reaches = elim (owns_back owner head stays) [
                  | inl this ↦ absurd (outside (change.keeps other (own_chain owner head owned.owns this.0 other owned.reaches)))
                  | inr old ↦ moved_reach owner head owned.owns old.0 other owned.reaches
                ];
              },
            )
          ]
    ]
      where
        -- the collection's own chain
        own_chain : (owner : Owner) (head : ChainHead) → Owns schema heap owner head → owner ≡ Owner.Items address member → (a : ℕ) → Reaches heap head a → IsIn a chain
        own_chain owner head owns same a reaches =
            let items : OwnsItems schema heap address member head = subst (λ o. Owns schema heap o head) same owns in
            let is_head : head ≡ head_was = one_head items in
            reaches_in heap head_was chain a change.linked (subst (λ h. Reaches heap h a) is_head reaches)
          where
            one_head : OwnsItems schema heap address member head → head ≡ head_was
            one_head owns = elim (was_begins owns) [ inl this ↦ this | inr no_way ↦ absurd no_way ]
              where
                was_begins : OwnsItems schema heap address member head → (head ≡ head_was) ⊎ ⊥
                was_begins owns = inl (same_head owns)
                  where
                    same_head : OwnsItems schema heap address member head → head ≡ head_was
                    same_head owns =
                        let there_also = owns.has.object.there in
                        let tags = same_tags tag owns.tag slots owns.has.slots (sym change.object.there ∙ there_also) in
                        let lists = same_slots tag owns.tag slots owns.has.slots (sym change.object.there ∙ there_also) in
                        let defs : owns.def ≡ def = same_Some owns.def def (sym owns.has.defined ∙ ap (λ (t : RowTag). slice_get (members_of schema t.code) member) (sym tags) ∙ change.defined) in
                        let begins : owns.begins ≡ was = same_begins owns.begins was (same_Some _ _ (sym owns.has.held ∙ ap (λ (l : List Slot). slice_get l member) (sym lists) ∙ change.held)) in
                        owns.is ∙ (λ i. chain_head (chunk_code (defs i).kind) (sym tags i).segment ((ap (λ (h : CollectionHead). h.first) begins) i) (item_type (defs i).kind))

    -- used entries lead somewhere
    pub collection_items : ((other : ℕ) → IsIn other after → KeepsItems now other) → ((other : ℕ) → KeepsItems heap other) → (other : ℕ) → KeepsItems now other
    collection_items fine keeps other = elim (in_or_not other after) [
      | inl inside ↦ fine other inside
      | inr outside ↦ λ also next entries there. keeps other also next entries (sym (outside_stays other also (Links.Chunk next entries) outside there (λ held e. no_chunk next entries held e)) ∙ there)
    ]
      where
        no_chunk : (next : ℕ) (entries : List ChunkEntry) (held : List Slot) → Links.Chunk next entries ≡ Links.Object held → ⊥
        no_chunk next entries held e = cc

    -- ---- rule 8

    -- what is asked of each chunk of the collection now
    module _ (chunks : (other : ℕ) → IsIn other after → (links : Links) → links_at now other ≡ Some links → IsChunkOf schema now (item_type def.kind) links)
        (typed : is_type_code (item_type def.kind) ≡ true) (pointers : (other : ℕ) → KeepsPointers schema heap other) where
      grown : (k pointer : ℕ) → LeadsToChunk heap k pointer → LeadsToChunk now k pointer
      grown k pointer leads some = codes_grow pointer k (leads some)

      first_leads : (links : List ChainLink) (pointer : ℕ) → IsChain now (chunk_code def.kind) tag.segment pointer links → LeadsToChunk now (chunk_code def.kind) pointer
      first_leads [] pointer linked some = absurd (some linked)
      first_leads (one ∷ others) pointer linked some = code_of now pointer _ linked.2

      next_leads : (links : List ChainLink) (pointer other : ℕ) (held : Links) → IsChain now (chunk_code def.kind) tag.segment pointer links → IsIn other links → links_at now other ≡ Some held → LeadsToChunk now (chunk_code def.kind) (next_of held)
      next_leads [] pointer other held linked inside there = absurd inside
      next_leads (one ∷ others) pointer other held linked inside there = elim inside [
        | inl same ↦
            let is_links : one.links ≡ held = same_Some _ _ (sym (links_are now pointer _ linked.2) ∙ ap (links_at now) (sym (same ∙ linked.1)) ∙ there) in
            subst (λ l. LeadsToChunk now (chunk_code def.kind) (next_of l)) is_links (first_leads others (next_of one.links) linked.3)
        | inr rest ↦ next_leads others (next_of one.links) other held linked.3 rest there
      ]

      chunk_code_in : (other k : ℕ) → IsIn other after → code_at now other ≡ Some k → k ≡ chunk_code def.kind
      chunk_code_in other k inside there =
          same_Some _ _ (sym there ∙ code_of now other _ (in_chain now (chunk_code def.kind) tag.segment is.first after other change.relinked inside).1)

      good_entries : (other : ℕ) (also : RowTag) (next : ℕ) (entries : List ChunkEntry) → now other ≡ Some (live_cell also (Links.Chunk next entries)) → HasGoodEntries schema now other entries
      good_entries other also next entries there = elim (in_or_not other after) [
        | inl inside ↦
            let fine = chunks other inside (Links.Chunk next entries) (links_are now other _ there) in
            let same : fine.entries ≡ entries = same_entries fine.next fine.entries fine.is in
            let all = subst (λ es. All (λ (entry : ChunkEntry). code_at now entry.item ≡ Some (item_type def.kind)) es) same fine.rows in
            record {
              owned = λ owner head owned. elim (owned_back other owner head owned) [
                | inl this ↦ subst (λ (h : ChainHead). AreItemsOf schema now h.ty entries) (sym this.1) (λ k d below some. all k d below)
                | inr old ↦ absurd (old.0 inside)
              ];
              objects = λ k d below some. (item_type def.kind, all k d below, typed);
            }
        | inr outside ↦
            let same = outside_stays other also (Links.Chunk next entries) outside there (λ held e. no_object held e) in
            let was_good = ((pointers other).chunks also next entries (sym same ∙ there)).1 in
            record {
              owned = λ owner head owned. elim (owned_back other owner head owned) [
                | inl this ↦ absurd (outside this.2)
                | inr old ↦ λ k d below. grown head.ty _ (was_good.owned owner head old.1 k d below)
              ];
              objects = λ k d below some. let leads = was_good.objects k d below some in (leads.0, codes_grow _ leads.0 leads.1, leads.2);
            }
      ]
        where
          no_object : (held : List Slot) → Links.Chunk next entries ≡ Links.Object held → ⊥
          no_object held e = cc

          same_entries : (n : ℕ) (es : List ChunkEntry) → Links.Chunk next entries ≡ Links.Chunk n es → es ≡ entries
          same_entries n es e = cc

      pub collection_pointers : (other : ℕ) → KeepsPointers schema now other
      collection_pointers other = record {
        members = λ m also d slot held. elim (now_member other m also d slot held) [
          | inl this ↦ subst (λ sl. HasGoodPointers schema now d.kind sl) (sym this.4) (subst (λ (x : MemberDef). HasGoodPointers schema now x.kind (Slot.Begins is)) (sym this.3)
              (first_leads after is.first change.relinked, λ some. codes_grow is.descriptor INDEX_DESCRIPTOR (ap (code_at heap) change.descriptor ∙ ((pointers address).members member tag def (Slot.Begins was) had).1 (λ none. some (change.descriptor ∙ none)))))
          | inr old ↦ good_by_codes schema heap now codes_grow d.kind slot ((pointers other).members m also d slot old.1)
        ];
        chunks = λ also next entries there. (next_row also next entries there, good_entries other also next entries there);
        descriptors = λ also next index there. elim (in_or_not other after) [
          | inl inside ↦ let fine = chunks other inside (Links.Index next index) (links_are now other _ there) in absurd (no_index next index fine.next fine.entries fine.is)
          | inr outside ↦
              let same = outside_stays other also (Links.Index next index) outside there (λ held e. no_slots next index held e) in
              let leads = (pointers other).descriptors also next index (sym same ∙ there) in
              (grown INDEX_DESCRIPTOR next leads.0, grown (index_code index.kind) index.first leads.1)
        ];
      }
        where
          no_index : (next : ℕ) (index : IndexDescriptor) (n : ℕ) (entries : List ChunkEntry) → Links.Index next index ≡ Links.Chunk n entries → ⊥
          no_index next index n entries e = cc

          no_slots : (next : ℕ) (index : IndexDescriptor) (held : List Slot) → Links.Index next index ≡ Links.Object held → ⊥
          no_slots next index held e = cc

          no_object : (next : ℕ) (entries : List ChunkEntry) (held : List Slot) → Links.Chunk next entries ≡ Links.Object held → ⊥
          no_object next entries held e = cc

          next_row : (also : RowTag) (next : ℕ) (entries : List ChunkEntry) → now other ≡ Some (live_cell also (Links.Chunk next entries)) → LeadsToChunk now also.code next
          next_row also next entries there = elim (in_or_not other after) [
            | inl inside ↦ subst (λ c. LeadsToChunk now c next) (sym (chunk_code_in other also.code inside (code_of now other _ there))) (next_leads after is.first other (Links.Chunk next entries) change.relinked inside (links_are now other _ there))
            | inr outside ↦
                let same = outside_stays other also (Links.Chunk next entries) outside there (λ held e. no_object next entries held e) in
                grown also.code next ((pointers other).chunks also next entries (sym same ∙ there)).0
          ]

-- ---- the law

pub collection_law : LawOfCollections
collection_law schema heap now rows serials address member tag def slots was is chain after change good keeps = record {
  roots = good_roots heap now rows (codes_grow schema heap now address member tag def slots was is chain after change) keeps.roots;
  pointers = collection_pointers schema heap now address member tag def slots was is chain after change keeps.chains good.chunks good.typed keeps.pointers;
  serials_kept = serials_stay schema heap now address member tag def slots was is chain after change serials keeps.serials_kept;
  chains = collection_chains schema heap now address member tag def slots was is chain after change keeps.chains good.counted good.lawful;
  owners = collection_owners schema heap now address member tag def slots was is chain after change keeps.chains keeps.owners;
  items = collection_items schema heap now address member tag def slots was is chain after change keeps.chains good.items keeps.items;
}
