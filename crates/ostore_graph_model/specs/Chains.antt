-- Collections and their chains of chunks: what is found by following pointers from one cell to the next.
use Rattle.std.specs.Prelude.{◌≡◌, ◌≢◌, ◌⊎◌, ℕ, List, [], ◌∷◌, map, Some}
use Rattle.std.specs.List.{flat_map, Contains}
use Rattle.ostore_base.specs.declared.cell_codes.TheConstants.{SET_CHUNK, LIST_CHUNK, INT_DICTIONARY_CHUNK, TEXT_DICTIONARY_CHUNK}
use Rattle.ostore_schema_layout.specs.declared.schema.MemberKind.{MemberKind}
use Rattle.ostore_schema_layout.specs.declared.schema.MemberKind.TheVariants as kinds
use Rattle.ostore_graph_model.specs.Kinds.{target_of}
use Rattle.ostore_graph_model.specs.Chunks.{ChunkEntry, IndexDescriptor}
use Rattle.ostore_graph_model.specs.Records.{Slot, Links, RowTag}
use Rattle.ostore_graph_model.specs.Heap.{Heap, live_cell}

-- the type of the objects that a member leads to
abbrev pub item_type : MemberKind → ℕ
item_type kind = (target_of kind).0

-- the code of a collection's chunks; no cell has the code 0
abbrev pub chunk_code : MemberKind → ℕ
chunk_code kinds.Int = 0
chunk_code (kinds.Text max) = 0
chunk_code (kinds.Ref target) = 0
chunk_code (kinds.Set target) = SET_CHUNK
chunk_code (kinds.List target) = LIST_CHUNK
chunk_code (kinds.DictInt target) = INT_DICTIONARY_CHUNK
chunk_code (kinds.DictText target) = TEXT_DICTIONARY_CHUNK

-- ---- chains

-- a chunk or a descriptor of a chain
pub record ChainLink : Type 0 where
  pub address : ℕ
  pub links : Links

-- where the next one is
abbrev pub next_of : Links → ℕ
next_of Links.Broken = 0
next_of (Links.Object slots) = 0
next_of (Links.Chunk next entries) = next
next_of (Links.Index next descriptor) = next

-- the tag of a chunk or a descriptor, which has no serial
abbrev pub chunk_tag : ℕ → ℕ → RowTag
chunk_tag code segment = record { segment = segment; code = code; serial = 0 }

-- from a pointer on, these live chunks of one code and one segment follow one another, and then comes none
abbrev pub IsChain : Heap → ℕ → ℕ → ℕ → List ChainLink → Type 0
IsChain heap code segment pointer [] = pointer ≡ 0
IsChain heap code segment pointer (one ∷ others) =
    (pointer ≢ 0) × (one.address ≡ pointer) × (heap pointer ≡ Some (live_cell (chunk_tag code segment) one.links)) × IsChain heap code segment (next_of one.links) others

-- an address is that of a chunk or descriptor of a chain
abbrev pub IsIn : ℕ → List ChainLink → Type 0
IsIn address [] = ⊥
IsIn address (one ∷ others) = (address ≡ one.address) ⊎ IsIn address others

abbrev pub entries_of_links : Links → List ChunkEntry
entries_of_links Links.Broken = []
entries_of_links (Links.Object slots) = []
entries_of_links (Links.Chunk next entries) = entries
entries_of_links (Links.Index next descriptor) = []

-- the entries along a chain, in order
abbrev pub entries_of : List ChainLink → List ChunkEntry
entries_of chain = flat_map (λ one. entries_of_links one.links) chain

abbrev pub indexes_of_links : Links → List IndexDescriptor
indexes_of_links Links.Broken = []
indexes_of_links (Links.Object slots) = []
indexes_of_links (Links.Chunk next entries) = []
indexes_of_links (Links.Index next descriptor) = descriptor ∷ []

-- the indexes along a chain of descriptors
abbrev pub indexes_of : List ChainLink → List IndexDescriptor
indexes_of chain = flat_map (λ one. indexes_of_links one.links) chain

-- a chain has these entries
pub record HasEntries (heap : Heap) (code segment pointer : ℕ) (entries : List ChunkEntry) : Type 0 where
  pub chain : List ChainLink
  pub linked : IsChain heap code segment pointer chain
  pub all : entries ≡ entries_of chain

-- ---- what a member leads to

-- a chain has an entry with this pointer
pub record HasEntryOf (heap : Heap) (code segment pointer item : ℕ) : Type 0 where
  pub entries : List ChunkEntry
  pub has : HasEntries heap code segment pointer entries
  pub there : Contains (map (λ entry. entry.item) entries) item

-- what a member of a kind holds leads to this address: a reference that is this pointer, or a collection
-- with this item
abbrev pub LeadsTo : Heap → ℕ → MemberKind → Slot → ℕ → Type 0
LeadsTo heap segment kind Slot.Plain pointer = ⊥
LeadsTo heap segment kind (Slot.Refers held) pointer = (held ≡ pointer) × (pointer ≢ 0)
LeadsTo heap segment kind (Slot.Begins head) pointer = HasEntryOf heap (chunk_code kind) segment head.first pointer
