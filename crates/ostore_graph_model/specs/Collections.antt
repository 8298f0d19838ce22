-- A collection that is changed as a whole: what `insert`, `remove`, `append`, `put`, `bind` and `unbind` make of the
-- heap. Within such a command a chunk may have an entry that the count doesn't count yet, so laws speak of its end.
use Rattle.std.specs.Prelude.{◌≡◌, ◌≢◌, ◌⊎◌, ℕ, true, List, length, All, Some, None, slice_set}
use Rattle.std.specs.List.{slice_get}
use Rattle.ostore_page_tags.specs.Rules.{is_type_code}
use Rattle.ostore_schema_layout.specs.declared.schema.Schema.{Schema}
use Rattle.ostore_schema_layout.specs.declared.schema.MemberDef.{MemberDef}
use Rattle.ostore_schema_layout.specs.Numbers.{members_of}
use Rattle.ostore_graph_model.specs.FixedPages.{RootRow}
use Rattle.ostore_graph_model.specs.Chunks.{ChunkEntry}
use Rattle.ostore_graph_model.specs.Records.{CollectionHead, Slot, Links, RowTag}
use Rattle.ostore_graph_model.specs.Heap.{Heap, tag_at, IsRowOf, links_at, live_cell, IsObject}
use Rattle.ostore_graph_model.specs.Chains.{item_type, chunk_code, ChainLink, IsChain, IsIn, entries_of}
use Rattle.ostore_graph_model.specs.HeapRules.{KeepsRoots, KeepsPointers, KeepsSerials, KeepsChains, KeepsOwner, KeepsItems, IsLawfulChain}

-- A member's collection had a chain, and has another one now, which has all cells of the first, and new ones
-- that stand where no cell was. All else of the heap stays.
pub record ChangesCollection (schema : Schema) (heap now : Heap) (address member : ℕ) (tag : RowTag) (def : MemberDef) (slots : List Slot) (was is : CollectionHead) (chain after : List ChainLink) : Type 0 where
  pub object : IsObject heap address tag slots
  pub defined : slice_get (members_of schema tag.code) member ≡ Some def
  pub held : slice_get slots member ≡ Some (Slot.Begins was)
  pub there : now address ≡ Some (live_cell tag (Links.Object (slice_set slots member (Slot.Begins is))))
  pub descriptor : is.descriptor ≡ was.descriptor
  pub linked : IsChain heap (chunk_code def.kind) tag.segment was.first chain
  pub relinked : IsChain now (chunk_code def.kind) tag.segment is.first after
  pub keeps : (other : ℕ) → IsIn other chain → IsIn other after
  pub adds : (other : ℕ) → IsIn other after → IsIn other chain ⊎ (heap other ≡ None)
  pub others : (other : ℕ) → other ≢ address → (IsIn other after → ⊥) → now other ≡ heap other

-- a chunk's entries lead to rows of the collection's type
pub record IsChunkOf (schema : Schema) (now : Heap) (ty : ℕ) (links : Links) : Type 0 where
  pub next : ℕ
  pub entries : List ChunkEntry
  pub is : links ≡ Links.Chunk next entries
  pub rows : All (λ entry. IsRowOf schema now ty entry.item) entries

-- the collection is as it should be now: its count, its entries, and each of its chunks
pub record IsGoodNow (schema : Schema) (now : Heap) (def : MemberDef) (is : CollectionHead) (after : List ChainLink) : Type 0 where
  pub counted : length (entries_of after) ≡ is.count
  pub lawful : IsLawfulChain (chunk_code def.kind) after
  pub typed : is_type_code (item_type def.kind) ≡ true
  pub chunks : (other : ℕ) → IsIn other after → (links : Links) → links_at now other ≡ Some links → IsChunkOf schema now (item_type def.kind) links
  pub items : (other : ℕ) → IsIn other after → KeepsItems now other

-- the rules 7 to 10 on a heap, but for the bytes of single cells
pub record KeepsHeap (schema : Schema) (heap : Heap) (rows : List RootRow) (serials : ℕ → ℕ) : Type 0 where
  pub roots : KeepsRoots heap rows
  pub pointers : (address : ℕ) → KeepsPointers schema heap address
  pub serials_kept : (address : ℕ) → KeepsSerials (tag_at heap) serials address
  pub chains : (address : ℕ) → KeepsChains schema heap address
  pub owners : (address : ℕ) → KeepsOwner schema heap address
  pub items : (address : ℕ) → KeepsItems heap address

-- a collection that is as it should be after its change leaves a good heap
abbrev pub LawOfCollections : Type 0
LawOfCollections =
    (schema : Schema) (heap now : Heap) (rows : List RootRow) (serials : ℕ → ℕ) (address member : ℕ) (tag : RowTag) (def : MemberDef) (slots : List Slot) (was is : CollectionHead) (chain after : List ChainLink)
    → ChangesCollection schema heap now address member tag def slots was is chain after → IsGoodNow schema now def is after
    → KeepsHeap schema heap rows serials → KeepsHeap schema now rows serials
