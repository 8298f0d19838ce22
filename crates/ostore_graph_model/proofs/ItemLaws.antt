-- Where the pointers of a heap are good, the items of a collection lead to rows of its type.
use Rattle.std.proofs.Common.{◌≡◌, ◌≢◌, ℕ, zero, suc, List, [], ◌∷◌, ◌++◌, map, refl, sym, ap, subst, ◌∙◌, arith, Some}
use Rattle.std.specs.List.{All, Contains}
use Rattle.std.proofs.lemmas.List.Elements.{All-append, All-nil}
use Rattle.ostore_schema_layout.specs.declared.schema.Schema.{Schema}
use Rattle.ostore_schema_layout.specs.declared.schema.MemberDef.{MemberDef}
use Rattle.ostore_graph_model.specs.Chains.{item_type, chunk_code, ChainLink, next_of, IsChain, entries_of_links, entries_of, HasEntries, LeadsTo}
use Rattle.ostore_graph_model.specs.Heap.{Heap, code_at, links_at, live_cell, HasMember}
use Rattle.ostore_graph_model.specs.HeapRules.{KeepsPointers, KeepsItems}
use Rattle.ostore_graph_model.specs.Owners.{Owner, ChainHead, chain_head, IsWalk, Owns}
use Rattle.ostore_graph_model.specs.Chunks.{ChunkEntry}
use Rattle.ostore_graph_model.specs.Records.{CollectionHead, Slot, Links, RowTag}
use Rattle.ostore_graph_model.proofs.HeapLaws.{code_of, links_are}

-- a walk goes on over the cell that it came to
pub walk_on : (heap : Heap) (code pointer : ℕ) (before : List ChainLink) (to : ℕ) (one : ChainLink) → IsWalk heap code pointer before to → to ≢ 0 → one.address ≡ to → code_at heap to ≡ Some code → links_at heap to ≡ Some one.links
    → IsWalk heap code pointer (before ++ one ∷ []) (next_of one.links)
walk_on heap code pointer [] to one is some at there links = (λ e. some (sym is ∙ e), at ∙ sym is, ap (code_at heap) is ∙ there, ap (links_at heap) is ∙ links, refl)
walk_on heap code pointer (first ∷ before) to one is some at there links = (is.0, is.1, is.2, is.3, walk_on heap code (next_of first.links) before to one is.4 some at there links)

-- what holds of the items of all entries holds of each item
pub each_item : (P : ℕ → Type 0) (entries : List ChunkEntry) → All (λ (entry : ChunkEntry). P entry.item) entries → (pointer : ℕ) → Contains (map (λ (entry : ChunkEntry). entry.item) entries) pointer → P pointer
each_item P [] all pointer there = absurd (let below = there.1 in omega arith)
each_item P (entry ∷ entries) all pointer (zero, below, is) = subst P is (all 0 entry (omega arith))
each_item P (entry ∷ entries) all pointer (suc k, below, is) = each_item P entries (λ i d low. all (suc i) d (omega arith)) pointer (k, omega arith, is)

module _ (schema : Schema) (heap : Heap) (pointers : (address : ℕ) → KeepsPointers schema heap address) (items : (address : ℕ) → KeepsItems heap address) where
  chunk_items : (owner : Owner) (head : ChainHead) → Owns schema heap owner head → (before : List ChainLink) (pointer : ℕ) → IsWalk heap head.code head.first before pointer → pointer ≢ 0 → code_at heap pointer ≡ Some head.code
      → (tag : RowTag) (links : Links) → heap pointer ≡ Some (live_cell tag links) → All (λ entry. code_at heap entry.item ≡ Some head.ty) (entries_of_links links)
  chunk_items owner head owns before pointer walk some there tag Links.Broken cell = All-nil _
  chunk_items owner head owns before pointer walk some there tag (Links.Object slots) cell = All-nil _
  chunk_items owner head owns before pointer walk some there tag (Links.Chunk next entries) cell =
      let good = ((pointers pointer).chunks tag next entries cell).1 in
      let owned = good.owned owner head (record { owns = owns; reaches = record { before = before; walk = walk; some = some; there = there } }) in
      λ k d below. owned k d below (items pointer tag next entries cell k d below)
  chunk_items owner head owns before pointer walk some there tag (Links.Index next index) cell = All-nil _

  chain_items : (owner : Owner) (head : ChainHead) → Owns schema heap owner head → (before : List ChainLink) (pointer : ℕ) (chain : List ChainLink) → IsWalk heap head.code head.first before pointer → IsChain heap head.code head.segment pointer chain
      → All (λ entry. code_at heap entry.item ≡ Some head.ty) (entries_of chain)
  chain_items owner head owns before pointer [] walk linked = All-nil _
  chain_items owner head owns before pointer (one ∷ others) walk linked =
      let there = code_of heap pointer _ linked.2 in
      let links = links_are heap pointer _ linked.2 in
      All-append (λ (entry : ChunkEntry). code_at heap entry.item ≡ Some head.ty) (entries_of_links one.links) (entries_of others)
      (chunk_items owner head owns before pointer walk linked.0 there _ one.links linked.2)
      (chain_items owner head owns (before ++ one ∷ []) (next_of one.links) others (walk_on heap head.code head.first before pointer one walk linked.0 linked.1 there links) linked.3)

  -- the items of a member's collection
  pub items_lead : (address member : ℕ) (tag : RowTag) (def : MemberDef) (head : CollectionHead) (entries : List ChunkEntry) → HasMember schema heap address member tag def (Slot.Begins head) → HasEntries heap (chunk_code def.kind) tag.segment head.first entries
      → All (λ entry. code_at heap entry.item ≡ Some (item_type def.kind)) entries
  items_lead address member tag def head entries has all =
      let chain = chain_head (chunk_code def.kind) tag.segment head.first (item_type def.kind) in
      subst (λ es. All (λ (entry : ChunkEntry). code_at heap entry.item ≡ Some (item_type def.kind)) es) (sym all.all)
      (chain_items (Owner.Items address member) chain (record { tag = tag; def = def; begins = head; has = has; is = refl }) [] head.first all.chain refl all.linked)

  -- what a member leads to is a row of its type
  pub leads_to_row : (address member : ℕ) (tag : RowTag) (def : MemberDef) (slot : Slot) → HasMember schema heap address member tag def slot → (pointer : ℕ) → LeadsTo heap tag.segment def.kind slot pointer → code_at heap pointer ≡ Some (item_type def.kind)
  leads_to_row address member tag def Slot.Plain has pointer leads = absurd leads
  leads_to_row address member tag def (Slot.Refers to) has pointer leads =
      let good = (pointers address).members member tag def (Slot.Refers to) has in
      ap (code_at heap) (sym leads.0) ∙ good (λ none. leads.1 (sym leads.0 ∙ none))
  leads_to_row address member tag def (Slot.Begins head) has pointer leads =
      each_item (λ item. code_at heap item ≡ Some (item_type def.kind)) leads.entries (items_lead address member tag def head leads.entries has leads.has) pointer leads.there
