-- What makes a heap good: pointers lead to rows of the right type (rule 8), names are given once (rule 9), chains
-- are whole and belong to one owner each (rule 10), and each side of a link knows the other (rule 11). A rule is
-- said of one address, and fails at the page of that address.
use Rattle.std.specs.Prelude.{◌≡◌, ◌≢◌, ◌⊎◌, ℕ, ◌≤◌, IsTrue, List, [], ◌∷◌, length, All, Option, Some, None}
use Rattle.ostore_base.specs.declared.cell_codes.TheConstants.{SET_CHUNK, LIST_CHUNK, INT_DICTIONARY_CHUNK, TEXT_DICTIONARY_CHUNK, INDEX_DESCRIPTOR}
use Rattle.ostore_page_tags.specs.Rules.{is_type_code, is_chunk_code}
use Rattle.ostore_text_words.specs.Words.{is_identifier}
use Rattle.ostore_schema_layout.specs.declared.schema.Schema.{Schema}
use Rattle.ostore_schema_layout.specs.declared.schema.MemberDef.{MemberDef}
use Rattle.ostore_schema_layout.specs.declared.schema.MemberKind.{MemberKind}
use Rattle.ostore_schema_layout.specs.declared.schema.Inverse.{Inverse}
use Rattle.ostore_schema_layout.specs.Cells.{ArePairwise, chunk_of}
use Rattle.ostore_graph_model.specs.FixedPages.{RootRow}
use Rattle.ostore_graph_model.specs.Chunks.{ChunkEntry, IndexDescriptor}
use Rattle.ostore_graph_model.specs.Records.{CollectionHead, Slot, Links, RowTag}
use Rattle.ostore_graph_model.specs.Heap.{Heap, code_at, name_in, IsRowOf, live_cell, HasMember}
use Rattle.ostore_graph_model.specs.Chains.{item_type, chunk_code, ChainLink, IsChain, entries_of_links, entries_of, LeadsTo}
use Rattle.ostore_graph_model.specs.Owners.{Owner, ChainHead, index_code, Owns, IsOwnedBy, object_of_owner}

-- ---- roots (rule 7)

-- a row of an object stands at an address, live or dead
abbrev pub IsObjectRow : Heap → ℕ → Type 0
IsObjectRow heap address = (code : ℕ) × (code_at heap address ≡ Some code) × IsTrue (is_type_code code)

-- the name is an identifier, and the pointer leads to an object's row
pub record IsGoodRoot (heap : Heap) (row : RootRow) : Type 0 where
  pub name : IsTrue (is_identifier row.name)
  pub leads : IsObjectRow heap row.pointer

-- and no name comes twice
pub record KeepsRoots (heap : Heap) (roots : List RootRow) : Type 0 where
  pub good : All (IsGoodRoot heap) roots
  pub own : ArePairwise (λ earlier later. earlier.name ≢ later.name) roots

-- ---- pointers (rule 8)

-- a pointer is 0, or leads to a chunk or descriptor of this code
abbrev pub LeadsToChunk : Heap → ℕ → ℕ → Type 0
LeadsToChunk heap code pointer = pointer ≢ 0 → code_at heap pointer ≡ Some code

-- a pointer is 0, or leads to a row of this type
abbrev pub LeadsToRow : Schema → Heap → ℕ → ℕ → Type 0
LeadsToRow schema heap ty pointer = pointer ≢ 0 → IsRowOf schema heap ty pointer

-- the pointers that a member has in its object's own cell
abbrev pub HasGoodPointers : Schema → Heap → MemberKind → Slot → Type 0
HasGoodPointers schema heap kind Slot.Plain = Unit {0}
HasGoodPointers schema heap kind (Slot.Refers pointer) = LeadsToRow schema heap (item_type kind) pointer
HasGoodPointers schema heap kind (Slot.Begins head) = LeadsToChunk heap (chunk_code kind) head.first × LeadsToChunk heap INDEX_DESCRIPTOR head.descriptor

abbrev pub AreItemsOf : Schema → Heap → ℕ → List ChunkEntry → Type 0
AreItemsOf schema heap ty entries = All (λ entry. LeadsToRow schema heap ty entry.item) entries

-- A chunk's entries lead to rows of the type that each owner asks. Where no owner reaches the chunk, no type is
-- asked: any object's row will do.
pub record HasGoodEntries (schema : Schema) (heap : Heap) (address : ℕ) (entries : List ChunkEntry) : Type 0 where
  pub owned : (owner : Owner) (head : ChainHead) → IsOwnedBy schema heap address owner head → AreItemsOf schema heap head.ty entries
  pub objects : All (λ entry. entry.item ≢ 0 → IsObjectRow heap entry.item) entries

-- The pointers of the live cell at an address: of an object, a chunk or a descriptor. An entry behind a chunk's count is
-- zero by what is asked of cells, so that nothing is asked of its pointer.
pub record KeepsPointers (schema : Schema) (heap : Heap) (address : ℕ) : Type 0 where
  pub members : (member : ℕ) (tag : RowTag) (def : MemberDef) (slot : Slot) → HasMember schema heap address member tag def slot → HasGoodPointers schema heap def.kind slot
  pub chunks : (tag : RowTag) (next : ℕ) (entries : List ChunkEntry) → heap address ≡ Some (live_cell tag (Links.Chunk next entries)) → LeadsToChunk heap tag.code next × HasGoodEntries schema heap address entries
  pub descriptors : (tag : RowTag) (next : ℕ) (index : IndexDescriptor) → heap address ≡ Some (live_cell tag (Links.Index next index)) → LeadsToChunk heap INDEX_DESCRIPTOR next × LeadsToChunk heap (index_code index.kind) index.first

-- ---- serials (rule 9)

-- the tag of the row at each address
abbrev pub Tags : Type 0
Tags = ℕ → Option RowTag

-- No other object row of the segment, live or dead, has this row's serial, and the segment has drawn it. Of two
-- rows with one serial both fail.
pub record KeepsSerial (tags : Tags) (serials : ℕ → ℕ) (address : ℕ) (tag : RowTag) : Type 0 where
  pub own : (other : ℕ) (also : RowTag) → tags other ≡ Some also → IsTrue (is_type_code also.code) → name_in also ≡ name_in tag → other ≡ address
  pub drawn : tag.serial ≤ serials tag.segment

abbrev pub KeepsSerials : Tags → (ℕ → ℕ) → ℕ → Type 0
KeepsSerials tags serials address = (tag : RowTag) → tags address ≡ Some tag → IsTrue (is_type_code tag.code) → KeepsSerial tags serials address tag

-- ---- chains (rule 10)

-- a chain that leads on to its end, over live cells in its owner's segment
abbrev pub IsWhole : Heap → ChainHead → Type 0
IsWhole heap head = (chain : List ChainLink) × IsChain heap head.code head.segment head.first chain

-- all chunks but the last are full; the last one may have no entry
abbrev pub FillsLastFirst : ℕ → List ChainLink → Type 0
FillsLastFirst room [] = Unit {0}
FillsLastFirst room (last ∷ []) = Unit {0}
FillsLastFirst room (one ∷ next ∷ others) = (length (entries_of_links one.links) ≡ room) × FillsLastFirst room (next ∷ others)

-- what is asked of the entries of each kind of collection: a set has no item twice, a list fills its last
-- chunk first, a dictionary has no key twice
abbrev pub IsLawfulChain : ℕ → List ChainLink → Type 0
IsLawfulChain code chain =
    (code ≡ SET_CHUNK → ArePairwise (λ earlier later. earlier.item ≢ later.item) (entries_of chain))
    × (code ≡ LIST_CHUNK → FillsLastFirst (chunk_of LIST_CHUNK).entries chain)
    × ((code ≡ INT_DICTIONARY_CHUNK) ⊎ (code ≡ TEXT_DICTIONARY_CHUNK) → ArePairwise (λ earlier later. earlier.key ≢ later.key) (entries_of chain))

-- the count of a collection is the number of its entries
pub record IsGoodCollection (heap : Heap) (code segment : ℕ) (head : CollectionHead) : Type 0 where
  pub chain : List ChainLink
  pub linked : IsChain heap code segment head.first chain
  pub counted : length (entries_of chain) ≡ head.count
  pub lawful : IsLawfulChain code chain

-- an address is reached from one owner at most
abbrev pub HasOneOwner : Schema → Heap → ℕ → Type 0
HasOneOwner schema heap address = (owner other : Owner) (head also : ChainHead) → IsOwnedBy schema heap address owner head → IsOwnedBy schema heap address other also → owner ≡ other

-- What concerns the chains of an object. Of a chunk that two owners reach, neither chain is as it should be.
pub record KeepsChains (schema : Schema) (heap : Heap) (address : ℕ) : Type 0 where
  pub collections : (member : ℕ) (tag : RowTag) (def : MemberDef) (head : CollectionHead) → HasMember schema heap address member tag def (Slot.Begins head) → IsGoodCollection heap (chunk_code def.kind) tag.segment head
  pub whole : (owner : Owner) (head : ChainHead) → object_of_owner owner ≡ address → Owns schema heap owner head → IsWhole heap head
  pub apart : (owner : Owner) (head : ChainHead) (chunk : ℕ) → object_of_owner owner ≡ address → IsOwnedBy schema heap chunk owner head → HasOneOwner schema heap chunk

-- a live chunk or descriptor has an owner
abbrev pub KeepsOwner : Schema → Heap → ℕ → Type 0
KeepsOwner schema heap address = (tag : RowTag) (links : Links) → heap address ≡ Some (live_cell tag links) → IsTrue (is_chunk_code tag.code)
    → (owner : Owner) × (head : ChainHead) × IsOwnedBy schema heap address owner head

-- no used entry of a live chunk has the pointer 0
abbrev pub KeepsItems : Heap → ℕ → Type 0
KeepsItems heap address = (tag : RowTag) (next : ℕ) (entries : List ChunkEntry) → heap address ≡ Some (live_cell tag (Links.Chunk next entries)) → All (λ entry. entry.item ≢ 0) entries

-- ---- links (rule 11)

-- the live object at an address has a side of a two-sided link that leads to another address
pub record HasSideTo (schema : Schema) (heap : Heap) (address member target : ℕ) : Type 0 where
  pub tag : RowTag
  pub def : MemberDef
  pub slot : Slot
  pub has : HasMember schema heap address member tag def slot
  pub sided : def.inverse ≢ None
  pub leads : LeadsTo heap tag.segment def.kind slot target

-- What a side of a two-sided link leads to has this object on the other side; a dead object has no side. It is
-- asked at the object whose side it is, also where a chunk on another page holds the entry.
abbrev pub KeepsLinks : Schema → Heap → ℕ → Type 0
KeepsLinks schema heap address = (member : ℕ) (tag : RowTag) (def : MemberDef) (slot : Slot) (inverse : Inverse) (target : ℕ)
    → HasMember schema heap address member tag def slot → def.inverse ≡ Some inverse → LeadsTo heap tag.segment def.kind slot target
    → HasSideTo schema heap target inverse.member.0 address
