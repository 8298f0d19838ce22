-- To whom the chunks and descriptors of a heap belong: which chains there are, and what is reached along each.
use Rattle.std.specs.Prelude.{◌≡◌, ◌≢◌, ℕ, ◌==◌, if◌then◌else◌, List, [], ◌∷◌, Some}
use Rattle.ostore_base.specs.declared.cell_codes.TheConstants.{INDEX_DESCRIPTOR, INT_INDEX_CHUNK, TEXT_INDEX_CHUNK}
use Rattle.ostore_schema_layout.specs.declared.schema.Schema.{Schema}
use Rattle.ostore_schema_layout.specs.declared.schema.MemberDef.{MemberDef}
use Rattle.ostore_graph_model.specs.Chunks.{IndexDescriptor, of_ints, of_texts}
use Rattle.ostore_graph_model.specs.Records.{CollectionHead, Slot, Links, RowTag}
use Rattle.ostore_graph_model.specs.Heap.{Heap, code_at, links_at, HasMember}
use Rattle.ostore_graph_model.specs.Chains.{item_type, chunk_code, ChainLink, next_of}

-- what a chain belongs to
pub data Owner : Type 0 where
  -- the items of a collection: the object's address, and the member
  Items : ℕ → ℕ → Owner
  -- the indexes of a set: the object's address, and the member
  Indexes : ℕ → ℕ → Owner
  -- the entries of one of these indexes: the set's object and member, and the descriptor's address
  Contents : ℕ → ℕ → ℕ → Owner

-- How a chain begins: the code of its cells, the segment that they are in, the first one, and the type of its
-- items. A chain is in its owner's segment.
pub record ChainHead : Type 0 where
  pub code : ℕ
  pub segment : ℕ
  pub first : ℕ
  pub ty : ℕ

abbrev pub chain_head : ℕ → ℕ → ℕ → ℕ → ChainHead
chain_head code segment first ty = record { code = code; segment = segment; first = first; ty = ty }

-- from a pointer a walk over cells of one code comes to this address; it goes on over dead cells, and no
-- further than a cell that is broken
abbrev pub IsWalk : Heap → ℕ → ℕ → List ChainLink → ℕ → Type 0
IsWalk heap code pointer [] address = pointer ≡ address
IsWalk heap code pointer (one ∷ others) address =
    (pointer ≢ 0) × (one.address ≡ pointer) × (code_at heap pointer ≡ Some code) × (links_at heap pointer ≡ Some one.links) × IsWalk heap code (next_of one.links) others address

-- a walk from a chain's beginning comes to a cell of the chain's code
pub record Reaches (heap : Heap) (head : ChainHead) (address : ℕ) : Type 0 where
  pub before : List ChainLink
  pub walk : IsWalk heap head.code head.first before address
  pub some : address ≢ 0
  pub there : code_at heap address ≡ Some head.code

-- ---- what each owner owns

pub record OwnsItems (schema : Schema) (heap : Heap) (address member : ℕ) (head : ChainHead) : Type 0 where
  pub tag : RowTag
  pub def : MemberDef
  pub begins : CollectionHead
  pub has : HasMember schema heap address member tag def (Slot.Begins begins)
  pub is : head ≡ chain_head (chunk_code def.kind) tag.segment begins.first (item_type def.kind)

pub record OwnsIndexes (schema : Schema) (heap : Heap) (address member : ℕ) (head : ChainHead) : Type 0 where
  pub tag : RowTag
  pub def : MemberDef
  pub begins : CollectionHead
  pub has : HasMember schema heap address member tag def (Slot.Begins begins)
  pub is : head ≡ chain_head INDEX_DESCRIPTOR tag.segment begins.descriptor (item_type def.kind)

-- the code of an index's chunks, by the kind of its last step; no cell has the code 0, so that with another
-- kind there is no chunk that the index could begin with
abbrev pub index_code : ℕ → ℕ
index_code kind = if kind == of_ints then INT_INDEX_CHUNK else if kind == of_texts then TEXT_INDEX_CHUNK else 0

pub record OwnsContents (schema : Schema) (heap : Heap) (address member descriptor : ℕ) (head : ChainHead) : Type 0 where
  pub over : ChainHead
  pub owned : OwnsIndexes schema heap address member over
  pub reached : Reaches heap over descriptor
  pub next : ℕ
  pub index : IndexDescriptor
  pub there : links_at heap descriptor ≡ Some (Links.Index next index)
  pub is : head ≡ chain_head (index_code index.kind) over.segment index.first over.ty

abbrev pub Owns : Schema → Heap → Owner → ChainHead → Type 0
Owns schema heap (Owner.Items address member) head = OwnsItems schema heap address member head
Owns schema heap (Owner.Indexes address member) head = OwnsIndexes schema heap address member head
Owns schema heap (Owner.Contents address member descriptor) head = OwnsContents schema heap address member descriptor head

-- the chunk or descriptor at an address is reached from an owner
pub record IsOwnedBy (schema : Schema) (heap : Heap) (address : ℕ) (owner : Owner) (head : ChainHead) : Type 0 where
  pub owns : Owns schema heap owner head
  pub reaches : Reaches heap head address

-- The object that an owner belongs to. What is wrong with a chain is blamed on this object's page, that of an
-- index's chain too.
abbrev pub object_of_owner : Owner → ℕ
object_of_owner (Owner.Items address member) = address
object_of_owner (Owner.Indexes address member) = address
object_of_owner (Owner.Contents address member descriptor) = address
