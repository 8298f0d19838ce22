-- What leads on from a cell: the references of an object and the heads of its collections, the entries of a
-- chunk, the index of a descriptor. A cell is read by its code and the schema: the code is that of an object's
-- type, of a chunk of a set, a list or a dictionary, of a chunk of an index, or of an index's descriptor.
use Rattle.std.specs.Prelude.{ℕ, ◌+◌, Bool, ◌&&◌, ◌||◌, ◌==◌, nat_le, if◌then◌else◌, List, length, map, Option}
use Rattle.std.specs.Option.{option_map}
use Rattle.ostore_base.specs.declared.page.PageImage.{PageImage}
use Rattle.ostore_base.specs.declared.cell_codes.TheConstants.{SET_CHUNK, INDEX_DESCRIPTOR, NEXT_IN_CHUNK}
use Rattle.ostore_page_tags.specs.Numbers.{number_at}
use Rattle.ostore_page_tags.specs.Rules.{is_chunk_code}
use Rattle.ostore_schema_layout.specs.declared.schema.Schema.{Schema}
use Rattle.ostore_schema_layout.specs.declared.schema.MemberKind.{MemberKind}
use Rattle.ostore_schema_layout.specs.declared.schema.MemberKind.TheVariants as kinds
use Rattle.ostore_schema_layout.specs.declared.layouts.Place.{Place}
use Rattle.ostore_schema_layout.specs.Cells.{places_from, code_size}
use Rattle.ostore_schema_layout.specs.Numbers.{members_of}
use Rattle.ostore_graph_model.specs.Addresses.{PlacedCell, cell_at}
use Rattle.ostore_graph_model.specs.Chunks.{pointer_at, ChunkEntry, entries_in, IndexDescriptor, descriptor_in}

-- ---- objects

-- what a set, a list or a dictionary begins with: its first chunk, how many entries it has, and, a set alone,
-- its first index descriptor
pub record CollectionHead : Type 0 where
  pub first : ℕ
  pub count : ℕ
  pub descriptor : ℕ

-- what a member holds beside its value
pub data Slot : Type 0 where
  -- nothing: an int or a text
  Plain : Slot
  -- a reference, by its pointer
  Refers : ℕ → Slot
  -- a collection
  Begins : CollectionHead → Slot

-- where the count stands in a collection's head, and the first descriptor in a set's
abbrev pub count_in_head : ℕ
count_in_head = 4

abbrev pub descriptor_in_head : ℕ
descriptor_in_head = 8

abbrev pub head_at : ℕ → ℕ → List ℕ → CollectionHead
head_at at descriptor bytes = record {
  first = pointer_at at bytes;
  count = number_at 4 (at + count_in_head) bytes;
  descriptor = descriptor;
}

abbrev pub slot_of : List ℕ → ℕ → MemberKind → Slot
slot_of bytes at kinds.Int = Slot.Plain
slot_of bytes at (kinds.Text max) = Slot.Plain
slot_of bytes at (kinds.Ref target) = Slot.Refers (pointer_at at bytes)
slot_of bytes at (kinds.Set target) = Slot.Begins (head_at at (pointer_at (at + descriptor_in_head) bytes) bytes)
slot_of bytes at (kinds.List target) = Slot.Begins (head_at at 0 bytes)
slot_of bytes at (kinds.DictInt target) = Slot.Begins (head_at at 0 bytes)
slot_of bytes at (kinds.DictText target) = Slot.Begins (head_at at 0 bytes)

abbrev pub slot_in : List ℕ → Place → Slot
slot_in bytes place = slot_of bytes place.offset place.kind

-- ---- any cell

-- what leads on from a cell
pub data Links : Type 0 where
  -- nothing, since its code isn't there or its size isn't its code's
  Broken : Links
  -- what each member of an object holds
  Object : List Slot → Links
  -- the next chunk, and the entries
  Chunk : ℕ → List ChunkEntry → Links
  -- the next descriptor, and the index
  Index : ℕ → IndexDescriptor → Links

-- the code is there, and the cell has the size of its code
abbrev pub is_sized : Schema → ℕ → List ℕ → Bool
is_sized schema code bytes = (is_chunk_code code || nat_le 1 code && nat_le code (length schema.types)) && length bytes == code_size schema code

abbrev pub links_of_code : Schema → ℕ → List ℕ → Links
links_of_code schema code bytes =
    if code == INDEX_DESCRIPTOR then Links.Index (pointer_at NEXT_IN_CHUNK bytes) (descriptor_in bytes)
    else if nat_le SET_CHUNK code then Links.Chunk (pointer_at NEXT_IN_CHUNK bytes) (entries_in code bytes)
    else Links.Object (map (slot_in bytes) (places_from 0 (members_of schema code)))

abbrev pub links_in : Schema → ℕ → List ℕ → Links
links_in schema code bytes = if is_sized schema code bytes then links_of_code schema code bytes else Links.Broken

-- what the row of a cell says, with its page's segment, but for whether it is live
pub record RowTag : Type 0 where
  pub segment : ℕ
  pub code : ℕ
  pub serial : ℕ

-- a row, and what leads on from its cell
pub record HeapCell : Type 0 where
  pub tag : RowTag
  pub live : Bool
  pub links : Links

abbrev pub tag_of : PlacedCell → RowTag
tag_of cell = record { segment = cell.segment; code = cell.code; serial = cell.serial }

abbrev pub heap_cell : Schema → PlacedCell → HeapCell
heap_cell schema cell = record { tag = tag_of cell; live = cell.live; links = links_in schema cell.code cell.bytes }

-- the heap: the row and the links at each address
unfoldable pub heap_of : Schema → List PageImage → ℕ → Option HeapCell
heap_of schema pages address = option_map (heap_cell schema) (cell_at pages address)
