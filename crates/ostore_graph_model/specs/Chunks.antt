-- What chunks and descriptors have: the entries of a chunk of a set, a list, a dictionary or an index, and the index
-- of a descriptor.
use Rattle.std.specs.Prelude.{ℕ, ◌+◌, ◌*◌, ◌==◌, nat_le, if◌then◌else◌, List, map, Option, Some, None}
use Rattle.std.specs.List.{range_with_len}
use Rattle.ostore_base.specs.declared.cell_codes.TheConstants.{INT_DICTIONARY_CHUNK, TEXT_DICTIONARY_CHUNK, INT_INDEX_CHUNK, TEXT_INDEX_CHUNK, COUNT_IN_CHUNK, ENTRIES_IN_CHUNK}
use Rattle.ostore_page_tags.specs.Numbers.{number_at, int_at}
use Rattle.ostore_schema_layout.specs.Cells.{chunk_of}
use Rattle.ostore_graph_model.specs.declared.values.Name.{Name}
use Rattle.ostore_graph_model.specs.declared.commands.Key.{Key}
use Rattle.ostore_graph_model.specs.declared.commands.Key.TheVariants as keys
use Rattle.ostore_graph_model.specs.Limits.{longest_key, most_steps}
use Rattle.ostore_graph_model.specs.MemberValues.{text_at}

-- the pointer at a place, 0 for none
abbrev pub pointer_at : ℕ → List ℕ → ℕ
pointer_at at bytes = number_at 4 at bytes

-- ---- chunks

-- an entry of a chunk: its item, the key where it has one, and the item's name, which an index alone keeps
pub record ChunkEntry : Type 0 where
  pub key : Option Key
  pub item : ℕ
  pub name : Name

-- the key of an entry that begins at a place
abbrev pub key_at : ℕ → ℕ → List ℕ → Option Key
key_at code at bytes =
    if code == INT_DICTIONARY_CHUNK then Some (keys.Int (int_at at bytes))
    else if code == INT_INDEX_CHUNK then Some (keys.Int (int_at at bytes))
    else if code == TEXT_DICTIONARY_CHUNK then Some (keys.Text (text_at at longest_key bytes))
    else if code == TEXT_INDEX_CHUNK then Some (keys.Text (text_at at longest_key bytes))
    else None

-- where an index keeps the name of an entry's item: behind its pointer, of 4 bytes
abbrev pub name_place : ℕ → ℕ
name_place code = (chunk_of code).pointer_at + 4

-- how many bytes that name has: the serial in 4 bytes, then the segment
abbrev pub name_bytes : ℕ
name_bytes = 5

-- the name of an entry's item, which an index alone keeps
abbrev pub name_kept : ℕ → ℕ → List ℕ → Name
name_kept code at bytes =
    if nat_le INT_INDEX_CHUNK code then record { segment = number_at 1 (at + 4) bytes; serial = number_at 4 at bytes }
    else record { segment = 0; serial = 0 }

abbrev pub entry_at : ℕ → ℕ → List ℕ → ChunkEntry
entry_at code at bytes = record {
  key = key_at code at bytes;
  item = pointer_at (at + (chunk_of code).pointer_at) bytes;
  name = name_kept code (at + name_place code) bytes;
}

-- how many entries of a chunk are used
abbrev pub count_in : List ℕ → ℕ
count_in bytes = number_at 2 COUNT_IN_CHUNK bytes

-- where entry i of a chunk begins
abbrev pub entry_place : ℕ → ℕ → ℕ
entry_place code i = ENTRIES_IN_CHUNK + (chunk_of code).entry_size * i

-- the used entries of a chunk, in order
abbrev pub entries_in : ℕ → List ℕ → List ChunkEntry
entries_in code bytes = map (λ i. entry_at code (entry_place code i) bytes) (range_with_len 0 (count_in bytes))

-- ---- descriptors

-- a step of an index's path: a member of a type
pub record PathStep : Type 0 where
  pub ty : ℕ
  pub member : ℕ

abbrev pub step_at : ℕ → List ℕ → PathStep
step_at at bytes = record { ty = number_at 1 at bytes; member = number_at 1 (at + 1) bytes }

-- the numbers in a descriptor of an index of ints and of one of texts
abbrev pub of_ints : ℕ
of_ints = 1

abbrev pub of_texts : ℕ
of_texts = 2

-- an index of a set: its first chunk, how many steps its path has, whether it is of ints or of texts, and room
-- for three steps
pub record IndexDescriptor : Type 0 where
  pub first : ℕ
  pub steps : ℕ
  pub kind : ℕ
  pub path : List PathStep

-- where its parts stand in a descriptor, behind the next one's pointer
abbrev pub first_in_descriptor : ℕ
first_in_descriptor = 4

abbrev pub steps_in_descriptor : ℕ
steps_in_descriptor = 8

abbrev pub kind_in_descriptor : ℕ
kind_in_descriptor = 9

abbrev pub path_in_descriptor : ℕ
path_in_descriptor = 10

-- the bytes of a step: its type, and its member
abbrev pub step_bytes : ℕ
step_bytes = 2

abbrev pub descriptor_in : List ℕ → IndexDescriptor
descriptor_in bytes = record {
  first = pointer_at first_in_descriptor bytes;
  steps = number_at 1 steps_in_descriptor bytes;
  kind = number_at 1 kind_in_descriptor bytes;
  path = map (λ i. step_at (path_in_descriptor + step_bytes * i) bytes) (range_with_len 0 most_steps);
}
