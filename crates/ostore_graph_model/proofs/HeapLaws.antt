-- A heap in which one object is another, or is new: chains, their owners and all other objects are as they were.
use Rattle.std.proofs.Common.{◌≡◌, ◌≢◌, ◌⊎◌, ℕ, true, false, cond, eqb, leb, List, [], ◌∷◌, map, refl, sym, ap, subst, ◌∙◌, arith, Option, Some, None, inl, inr, true≢false}
use Rattle.std.specs.List.{Contains}
use Rattle.std.specs.Option.{option_map}
use Rattle.std.proofs.lemmas.Bool.{cases_eq, and_parts, leb-true}
use Rattle.std.proofs.lemmas.Option.{none-some}
use Rattle.ostore_page_tags.specs.Rules.{is_type_code, is_chunk_code}
use Rattle.ostore_schema_layout.specs.declared.schema.Schema.{Schema}
use Rattle.ostore_schema_layout.specs.declared.schema.MemberDef.{MemberDef}
use Rattle.ostore_schema_layout.specs.declared.schema.MemberKind.{MemberKind}
use Rattle.ostore_schema_layout.specs.declared.schema.MemberKind.TheVariants as kinds
use Rattle.ostore_schema_layout.specs.declared.schema.Inverse.{Inverse}
use Rattle.ostore_base.specs.declared.cell_codes.TheConstants.{INDEX_DESCRIPTOR}
use Rattle.ostore_graph_model.specs.Chains.{item_type, chunk_code, ChainLink, next_of, IsChain, entries_of, HasEntries, LeadsTo}
use Rattle.ostore_graph_model.specs.Heap.{Heap, code_at, links_at, HasMember}
use Rattle.ostore_graph_model.specs.HeapRules.{LeadsToChunk, HasGoodPointers, KeepsPointers, KeepsChains, KeepsOwner, KeepsItems, KeepsLinks}
use Rattle.ostore_graph_model.specs.Owners.{Owner, ChainHead, IsWalk, Reaches, index_code, Owns, IsOwnedBy}
use Rattle.ostore_graph_model.specs.Chunks.{ChunkEntry, IndexDescriptor}
use Rattle.ostore_graph_model.specs.Records.{CollectionHead, Slot, Links, RowTag, HeapCell}

-- ---- codes of chunks

abbrev pub IsNoType : ℕ → Type 0
IsNoType code = is_type_code code ≡ false

pub chunk_code-IsNoType : (kind : MemberKind) → IsNoType (chunk_code kind)
chunk_code-IsNoType kinds.Int = refl
chunk_code-IsNoType (kinds.Text max) = refl
chunk_code-IsNoType (kinds.Ref target) = refl
chunk_code-IsNoType (kinds.Set target) = refl
chunk_code-IsNoType (kinds.List target) = refl
chunk_code-IsNoType (kinds.DictInt target) = refl
chunk_code-IsNoType (kinds.DictText target) = refl

pub index_code-IsNoType : (kind : ℕ) → IsNoType (index_code kind)
index_code-IsNoType kind =
    elim (eqb kind 1) as (λ b. IsNoType (cond b 245 (cond (eqb kind 2) 246 0))) [ true ↦ refl | false ↦ elim (eqb kind 2) as (λ b. IsNoType (cond b 246 0)) [ true ↦ refl | false ↦ refl ] ]

pub owned_code : (schema : Schema) (heap : Heap) (owner : Owner) (head : ChainHead) → Owns schema heap owner head → IsNoType head.code
owned_code schema heap (Owner.Items address member) head owns = subst (λ (h : ChainHead). IsNoType h.code) (sym owns.is) (chunk_code-IsNoType owns.def.kind)
owned_code schema heap (Owner.Indexes address member) head owns = subst (λ (h : ChainHead). IsNoType h.code) (sym owns.is) refl
owned_code schema heap (Owner.Contents address member descriptor) head owns = subst (λ (h : ChainHead). IsNoType h.code) (sym owns.is) (index_code-IsNoType owns.index.kind)

pub chunk_code_no_type : (code : ℕ) → is_chunk_code code ≡ true → is_type_code code ≡ true → ⊥
chunk_code_no_type code chunk typed =
    let low = leb-true 240 code (and_parts (leb 240 code) (leb code 246) chunk).0 in
    let high = leb-true code 64 (and_parts (leb 1 code) (leb code 64) typed).1 in
    omega arith

-- ---- the change

-- nothing is held
abbrev pub IsEmptySlot : Slot → Type 0
IsEmptySlot Slot.Plain = Unit {0}
IsEmptySlot (Slot.Refers pointer) = pointer ≡ 0
IsEmptySlot (Slot.Begins head) = head ≡ record { first = 0; count = 0; descriptor = 0 }

-- a reference with this inverse, or with none
pub record IsReferenceWith (inverse : Option Inverse) (def : MemberDef) (slot : Slot) : Type 0 where
  pub sided : def.inverse ≡ inverse
  pub pointer : ℕ
  pub is : slot ≡ Slot.Refers pointer

-- The object at one address is another, or a new one. Its members are as they were, but for references with one
-- inverse or with none, and for members that hold nothing.
pub record ChangesObject (schema : Schema) (heap now : Heap) (address : ℕ) : Type 0 where
  pub others : (other : ℕ) → other ≢ address → now other ≡ heap other
  pub before : (code : ℕ) → code_at heap address ≡ Some code → is_type_code code ≡ true
  pub after : (code : ℕ) → code_at now address ≡ Some code → is_type_code code ≡ true
  pub object : (links : Links) → links_at now address ≡ Some links → (slots : List Slot) × (links ≡ Links.Object slots)
  pub codes : (other code : ℕ) → code_at heap other ≡ Some code → code_at now other ≡ Some code
  pub inverse : Option Inverse
  pub members : (member : ℕ) (tag : RowTag) (def : MemberDef) (slot : Slot) → HasMember schema now address member tag def slot → HasMember schema heap address member tag def slot ⊎ (IsEmptySlot slot ⊎ IsReferenceWith inverse def slot)
  pub kept : (member : ℕ) (tag : RowTag) (def : MemberDef) (slot : Slot) → HasMember schema heap address member tag def slot → HasMember schema now address member tag def slot ⊎ IsReferenceWith inverse def slot
  -- the pointers in it lead to rows
  pub pointers : (member : ℕ) (tag : RowTag) (def : MemberDef) (slot : Slot) → HasMember schema now address member tag def slot → HasGoodPointers schema now def.kind slot

pub code_of : (heap : Heap) (address : ℕ) (cell : HeapCell) → heap address ≡ Some cell → code_at heap address ≡ Some cell.tag.code
code_of heap address cell there = ap (option_map (λ (c : HeapCell). c.tag.code)) there

pub links_are : (heap : Heap) (address : ℕ) (cell : HeapCell) → heap address ≡ Some cell → links_at heap address ≡ Some cell.links
links_are heap address cell there = ap (option_map (λ (c : HeapCell). c.links)) there

-- ---- chains, from one heap to another that differs at an object

module _ (heap now : Heap) (address : ℕ) (others : (other : ℕ) → other ≢ address → now other ≡ heap other) (before : (code : ℕ) → code_at heap address ≡ Some code → is_type_code code ≡ true) where
  elsewhere : (pointer code : ℕ) → IsNoType code → code_at heap pointer ≡ Some code → pointer ≢ address
  elsewhere pointer code no_type there same = true≢false (sym (before code (ap (code_at heap) (sym same) ∙ there)) ∙ no_type)

  pub chain_kept : (code segment pointer : ℕ) (chain : List ChainLink) → IsNoType code → IsChain heap code segment pointer chain → IsChain now code segment pointer chain
  chain_kept code segment pointer [] no_type linked = linked
  chain_kept code segment pointer (one ∷ chain) no_type linked =
      let away = elsewhere pointer code no_type (code_of heap pointer _ linked.2) in
      (linked.0, linked.1, others pointer away ∙ linked.2, chain_kept code segment (next_of one.links) chain no_type linked.3)

  pub entries_kept : (code segment pointer : ℕ) (entries : List ChunkEntry) → IsNoType code → HasEntries heap code segment pointer entries → HasEntries now code segment pointer entries
  entries_kept code segment pointer entries no_type has = record { chain = has.chain; linked = chain_kept code segment pointer has.chain no_type has.linked; all = has.all }

  pub leads_kept : (segment : ℕ) (kind : MemberKind) (slot : Slot) (pointer : ℕ) → LeadsTo heap segment kind slot pointer → LeadsTo now segment kind slot pointer
  leads_kept segment kind Slot.Plain pointer leads = leads
  leads_kept segment kind (Slot.Refers held) pointer leads = leads
  leads_kept segment kind (Slot.Begins head) pointer leads = record { entries = leads.entries; has = entries_kept (chunk_code kind) segment head.first leads.entries (chunk_code-IsNoType kind) leads.has; there = leads.there }

  walk_kept : (code pointer : ℕ) (walk : List ChainLink) (to : ℕ) → IsNoType code → IsWalk heap code pointer walk to → IsWalk now code pointer walk to
  walk_kept code pointer [] to no_type is = is
  walk_kept code pointer (one ∷ walk) to no_type is =
      let same = others pointer (elsewhere pointer code no_type is.2) in
      (is.0, is.1, ap (option_map (λ (c : HeapCell). c.tag.code)) same ∙ is.2, ap (option_map (λ (c : HeapCell). c.links)) same ∙ is.3, walk_kept code (next_of one.links) walk to no_type is.4)

  reaches_kept : (head : ChainHead) (to : ℕ) → IsNoType head.code → Reaches heap head to → Reaches now head to
  reaches_kept head to no_type reaches = record {
    before = reaches.before;
    walk = walk_kept head.code head.first reaches.before to no_type reaches.walk;
    some = reaches.some;
    there = ap (option_map (λ (c : HeapCell). c.tag.code)) (others to (elsewhere to head.code no_type reaches.there)) ∙ reaches.there;
  }

-- from no pointer nothing is reached
reaches_none : (heap : Heap) (head : ChainHead) (to : ℕ) → head.first ≡ 0 → Reaches heap head to → ⊥
reaches_none heap head to none reaches = walked reaches.before reaches.walk
  where
    walked : (walk : List ChainLink) → IsWalk heap head.code head.first walk to → ⊥
    walked [] is = reaches.some (sym is ∙ none)
    walked (one ∷ walk) is = is.0 none

pub member_elsewhere : (schema : Schema) (heap now : Heap) (other member : ℕ) (tag : RowTag) (def : MemberDef) (slot : Slot) → now other ≡ heap other → HasMember schema heap other member tag def slot → HasMember schema now other member tag def slot
member_elsewhere schema heap now other member tag def slot same has = record {
  slots = has.slots;
  object = record { there = same ∙ has.object.there; typed = has.object.typed };
  defined = has.defined;
  held = has.held;
}

-- ---- what follows of a change

module _ (schema : Schema) (heap now : Heap) (address : ℕ) (change : ChangesObject schema heap now address) where
  abbrev back : (other : ℕ) → other ≢ address → heap other ≡ now other
  back other apart = sym (change.others other apart)

  -- a collection of now was there, or is empty
  pub begins_back : (other member : ℕ) (tag : RowTag) (def : MemberDef) (head : CollectionHead) → HasMember schema now other member tag def (Slot.Begins head) → HasMember schema heap other member tag def (Slot.Begins head) ⊎ (head ≡ record { first = 0; count = 0; descriptor = 0 })
  begins_back other member tag def head has = elim (cases_eq other address) [
    | inl same ↦ elim (change.members member tag def (Slot.Begins head) (subst (λ a. HasMember schema now a member tag def (Slot.Begins head)) same has)) [
      | inl was ↦ inl (subst (λ a. HasMember schema heap a member tag def (Slot.Begins head)) (sym same) was)
      | inr free ↦ elim free [ inl none ↦ inr none | inr own ↦ absurd (no_begins own.pointer head own.is) ]
    ]
    | inr apart ↦ inl (member_elsewhere schema now heap other member tag def (Slot.Begins head) (back other apart) has)
  ]
    where
      no_begins : (pointer : ℕ) (head : CollectionHead) → Slot.Begins head ≡ Slot.Refers pointer → ⊥
      no_begins pointer head e = cc

  pub begins_kept : (other member : ℕ) (tag : RowTag) (def : MemberDef) (head : CollectionHead) → HasMember schema heap other member tag def (Slot.Begins head) → HasMember schema now other member tag def (Slot.Begins head)
  begins_kept other member tag def head has = elim (cases_eq other address) [
    | inl same ↦ elim (change.kept member tag def (Slot.Begins head) (subst (λ a. HasMember schema heap a member tag def (Slot.Begins head)) same has)) [
      | inl stays ↦ subst (λ a. HasMember schema now a member tag def (Slot.Begins head)) (sym same) stays
      | inr own ↦ absurd (no_begins own.pointer head own.is)
    ]
    | inr apart ↦ member_elsewhere schema heap now other member tag def (Slot.Begins head) (change.others other apart) has
  ]
    where
      no_begins : (pointer : ℕ) (head : CollectionHead) → Slot.Begins head ≡ Slot.Refers pointer → ⊥
      no_begins pointer head e = cc

  -- ---- owners

  owns_kept : (owner : Owner) (head : ChainHead) → Owns schema heap owner head → Owns schema now owner head
  owns_kept (Owner.Items other member) head owns = record { tag = owns.tag; def = owns.def; begins = owns.begins; has = begins_kept other member owns.tag owns.def owns.begins owns.has; is = owns.is }
  owns_kept (Owner.Indexes other member) head owns = record { tag = owns.tag; def = owns.def; begins = owns.begins; has = begins_kept other member owns.tag owns.def owns.begins owns.has; is = owns.is }
  owns_kept (Owner.Contents other member descriptor) head owns =
      let over = owns.owned in
      let no_type = owned_code schema heap (Owner.Indexes other member) owns.over over in
      record {
        over = owns.over;
        owned = record { tag = over.tag; def = over.def; begins = over.begins; has = begins_kept other member over.tag over.def over.begins over.has; is = over.is };
        reached = reaches_kept heap now address change.others change.before owns.over descriptor no_type owns.reached;
        next = owns.next;
        index = owns.index;
        there = ap (option_map (λ (c : HeapCell). c.links)) (change.others descriptor (elsewhere heap now address change.others change.before descriptor owns.over.code no_type owns.reached.there)) ∙ owns.there;
        is = owns.is;
      }

  -- what owns a chain now did so, or its chain is empty
  owns_back : (owner : Owner) (head : ChainHead) → Owns schema now owner head → Owns schema heap owner head ⊎ (head.first ≡ 0)
  owns_back (Owner.Items other member) head owns = elim (begins_back other member owns.tag owns.def owns.begins owns.has) [
    | inl was ↦ inl (record { tag = owns.tag; def = owns.def; begins = owns.begins; has = was; is = owns.is })
    | inr none ↦ inr (ap (λ (h : ChainHead). h.first) owns.is ∙ ap (λ (h : CollectionHead). h.first) none)
  ]
  owns_back (Owner.Indexes other member) head owns = elim (begins_back other member owns.tag owns.def owns.begins owns.has) [
    | inl was ↦ inl (record { tag = owns.tag; def = owns.def; begins = owns.begins; has = was; is = owns.is })
    | inr none ↦ inr (ap (λ (h : ChainHead). h.first) owns.is ∙ ap (λ (h : CollectionHead). h.descriptor) none)
  ]
  owns_back (Owner.Contents other member descriptor) head owns =
      let over = owns.owned in
      let no_type = owned_code schema now (Owner.Indexes other member) owns.over over in
      elim (begins_back other member over.tag over.def over.begins over.has) [
        | inl was ↦ inl (record {
          over = owns.over;
          owned = record { tag = over.tag; def = over.def; begins = over.begins; has = was; is = over.is };
          reached = reaches_kept now heap address (λ a apart. sym (change.others a apart)) change.after owns.over descriptor no_type owns.reached;
          next = owns.next;
          index = owns.index;
          there = ap (option_map (λ (c : HeapCell). c.links)) (back descriptor (elsewhere now heap address (λ a apart. sym (change.others a apart)) change.after descriptor owns.over.code no_type owns.reached.there)) ∙ owns.there;
          is = owns.is;
        })
        | inr none ↦ absurd (reaches_none now owns.over descriptor (ap (λ (h : ChainHead). h.first) over.is ∙ ap (λ (h : CollectionHead). h.descriptor) none) owns.reached)
      ]

  pub owned_kept : (other : ℕ) (owner : Owner) (head : ChainHead) → IsOwnedBy schema heap other owner head → IsOwnedBy schema now other owner head
  owned_kept other owner head owned = record {
    owns = owns_kept owner head owned.owns;
    reaches = reaches_kept heap now address change.others change.before head other (owned_code schema heap owner head owned.owns) owned.reaches;
  }

  pub owned_back : (other : ℕ) (owner : Owner) (head : ChainHead) → IsOwnedBy schema now other owner head → IsOwnedBy schema heap other owner head
  owned_back other owner head owned = elim (owns_back owner head owned.owns) [
    | inl was ↦ record {
      owns = was;
      reaches = reaches_kept now heap address (λ a apart. sym (change.others a apart)) change.after head other (owned_code schema now owner head owned.owns) owned.reaches;
    }
    | inr none ↦ absurd (reaches_none now head other none owned.reaches)
  ]

  -- ---- rule 10

  pub chains_kept : ((other : ℕ) → KeepsChains schema heap other) → (other : ℕ) → KeepsChains schema now other
  chains_kept keeps other = record {
    collections = λ member tag def head has. elim (begins_back other member tag def head has) [
      | inl was ↦
          let good = (keeps other).collections member tag def head was in
          record { chain = good.chain; linked = chain_kept heap now address change.others change.before (chunk_code def.kind) tag.segment head.first good.chain (chunk_code-IsNoType def.kind) good.linked; counted = good.counted; lawful = good.lawful }
      | inr none ↦ record { chain = []; linked = ap (λ (h : CollectionHead). h.first) none; counted = sym (ap (λ (h : CollectionHead). h.count) none); lawful = (λ e. tt, λ e. tt, λ e. tt) }
    ];
    whole = λ owner head of owns. elim (owns_back owner head owns) [
      | inl was ↦
          let whole = (keeps other).whole owner head of was in
          (whole.0, chain_kept heap now address change.others change.before head.code head.segment head.first whole.0 (owned_code schema heap owner head was) whole.1)
      | inr none ↦ ([], none)
    ];
    apart = λ owner head chunk of owned. λ one two first second is also.
        (keeps other).apart owner head chunk of (owned_back chunk owner head owned) one two first second (owned_back chunk one first is) (owned_back chunk two second also);
  }

  pub owners_kept : ((other : ℕ) → KeepsOwner schema heap other) → (other : ℕ) → KeepsOwner schema now other
  owners_kept keeps other tag links there chunk =
      let apart : other ≢ address = λ same. chunk_code_no_type tag.code chunk (change.after tag.code (ap (code_at now) (sym same) ∙ code_of now other _ there)) in
      let was = keeps other tag links (back other apart ∙ there) chunk in
      (was.0, was.1, owned_kept other was.0 was.1 was.2)

  chunk_apart : (other next : ℕ) (entries : List ChunkEntry) → links_at now other ≡ Some (Links.Chunk next entries) → other ≢ address
  chunk_apart other next entries there same =
      let object = change.object (Links.Chunk next entries) (ap (links_at now) (sym same) ∙ there) in
      no_chunk object.0 object.1
    where
      no_chunk : (slots : List Slot) → Links.Chunk next entries ≡ Links.Object slots → ⊥
      no_chunk slots e = cc

  index_apart : (other next : ℕ) (index : IndexDescriptor) → links_at now other ≡ Some (Links.Index next index) → other ≢ address
  index_apart other next index there same =
      let object = change.object (Links.Index next index) (ap (links_at now) (sym same) ∙ there) in
      no_index object.0 object.1
    where
      no_index : (slots : List Slot) → Links.Index next index ≡ Links.Object slots → ⊥
      no_index slots e = cc

  pub items_kept : ((other : ℕ) → KeepsItems heap other) → (other : ℕ) → KeepsItems now other
  items_kept keeps other tag next entries there = keeps other tag next entries (back other (chunk_apart other next entries (links_are now other _ there)) ∙ there)

  -- ---- rule 8

  row_kept : (code pointer : ℕ) → LeadsToChunk heap code pointer → LeadsToChunk now code pointer
  row_kept code pointer leads some = change.codes pointer code (leads some)

  good_kept : (kind : MemberKind) (slot : Slot) → HasGoodPointers schema heap kind slot → HasGoodPointers schema now kind slot
  good_kept kind Slot.Plain good = tt
  good_kept kind (Slot.Refers pointer) good = row_kept (item_type kind) pointer good
  good_kept kind (Slot.Begins head) good = (row_kept (chunk_code kind) head.first good.0, row_kept INDEX_DESCRIPTOR head.descriptor good.1)

  pub pointers_kept : ((other : ℕ) → KeepsPointers schema heap other) → (other : ℕ) → KeepsPointers schema now other
  pointers_kept keeps other = record {
    members = λ member tag def slot has. elim (cases_eq other address) [
      | inl same ↦ change.pointers member tag def slot (subst (λ a. HasMember schema now a member tag def slot) same has)
      | inr apart ↦ good_kept def.kind slot ((keeps other).members member tag def slot (member_elsewhere schema now heap other member tag def slot (back other apart) has))
    ];
    chunks = λ tag next entries there.
        let was = (keeps other).chunks tag next entries (back other (chunk_apart other next entries (links_are now other _ there)) ∙ there) in (
          row_kept tag.code next was.0,
          record {
            owned = λ owner head owned k d below. row_kept head.ty _ (was.1.owned owner head (owned_back other owner head owned) k d below);
            objects = λ k d below some. let leads = was.1.objects k d below some in (leads.0, change.codes _ leads.0 leads.1, leads.2);
          },
        );
    descriptors = λ tag next index there.
        let was = (keeps other).descriptors tag next index (back other (index_apart other next index (links_are now other _ there)) ∙ there) in
        (row_kept INDEX_DESCRIPTOR next was.0, row_kept (index_code index.kind) index.first was.1);
  }

  -- ---- rule 11

  pub no_empty_leads : (segment : ℕ) (kind : MemberKind) (slot : Slot) (pointer : ℕ) → IsEmptySlot slot → LeadsTo now segment kind slot pointer → ⊥
  no_empty_leads segment kind Slot.Plain pointer none leads = leads
  no_empty_leads segment kind (Slot.Refers held) pointer none leads = leads.1 (sym leads.0 ∙ none)
  no_empty_leads segment kind (Slot.Begins head) pointer none leads = no_entries leads.has.chain leads.has.linked leads.has.all leads.there
    where
      no_entries : (chain : List ChainLink) → IsChain now (chunk_code kind) segment head.first chain → leads.entries ≡ entries_of chain → Contains (map (λ entry. entry.item) leads.entries) pointer → ⊥
      no_entries [] linked all there = absurd (no_item leads.entries all there)
        where
          no_item : (entries : List ChunkEntry) → entries ≡ [] → Contains (map (λ entry. entry.item) entries) pointer → ⊥
          no_item [] e has = omega (arith, has.1)
          no_item (entry ∷ entries) e has = cc
      no_entries (one ∷ chain) linked all there = linked.0 (ap (λ (h : CollectionHead). h.first) none)

  -- where the references that changed are one-sided, a side of a two-sided link is as it was
  sided_back : change.inverse ≡ None → (other member : ℕ) (tag : RowTag) (def : MemberDef) (slot : Slot) (target : ℕ) → HasMember schema now other member tag def slot → def.inverse ≢ None → LeadsTo now tag.segment def.kind slot target → HasMember schema heap other member tag def slot
  sided_back alone other member tag def slot target has sided leads = elim (cases_eq other address) [
    | inl same ↦ elim (change.members member tag def slot (subst (λ a. HasMember schema now a member tag def slot) same has)) [
      | inl was ↦ subst (λ a. HasMember schema heap a member tag def slot) (sym same) was
      | inr free ↦ elim free [ inl none ↦ absurd (no_empty_leads tag.segment def.kind slot target none leads) | inr own ↦ absurd (sided (own.sided ∙ alone)) ]
    ]
    | inr apart ↦ member_elsewhere schema now heap other member tag def slot (back other apart) has
  ]

  sided_kept : change.inverse ≡ None → (other member : ℕ) (tag : RowTag) (def : MemberDef) (slot : Slot) → HasMember schema heap other member tag def slot → def.inverse ≢ None → HasMember schema now other member tag def slot
  sided_kept alone other member tag def slot has sided = elim (cases_eq other address) [
    | inl same ↦ elim (change.kept member tag def slot (subst (λ a. HasMember schema heap a member tag def slot) same has)) [
      | inl stays ↦ subst (λ a. HasMember schema now a member tag def slot) (sym same) stays
      | inr own ↦ absurd (sided (own.sided ∙ alone))
    ]
    | inr apart ↦ member_elsewhere schema heap now other member tag def slot (change.others other apart) has
  ]

  some_none : (inverse : Inverse) (found : Option Inverse) → found ≡ Some inverse → found ≢ None
  some_none inverse found e none = none-some inverse (sym none ∙ e)

  pub links_kept : change.inverse ≡ None → ((other : ℕ) → KeepsLinks schema heap other) → (other : ℕ) → KeepsLinks schema now other
  links_kept alone keeps other member tag def slot inverse target has is leads =
      let sided = some_none inverse def.inverse is in
      let was = sided_back alone other member tag def slot target has sided leads in
      let side = keeps other member tag def slot inverse target was is (leads_kept now heap address (λ a apart. sym (change.others a apart)) change.after tag.segment def.kind slot target leads) in
      record {
        tag = side.tag;
        def = side.def;
        slot = side.slot;
        has = sided_kept alone target inverse.member.0 side.tag side.def side.slot side.has side.sided;
        sided = side.sided;
        leads = leads_kept heap now address change.others change.before side.tag.segment side.def.kind side.slot other side.leads;
      }
