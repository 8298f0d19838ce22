-- Cells: where the members of an object lie in its cell, which chunks and descriptors there are beside
-- the objects, and where the pointers of each are. Sizes and places are in bytes.
use Rattle.std.specs.Prelude.{◌≡◌, ◌⊎◌, ℕ, ◌+◌, ◌*◌, ◌/◌, ◌%◌, ◌<◌, ◌≤◌, nat_le, ◌==◌, if◌then◌else◌, List, [], ◌∷◌, length, map, Option}
use Rattle.std.specs.List.{flat_map, range_with_len, find, AllByRecursion}
use Rattle.ostore_schema_layout.specs.declared.schema.Schema.{Schema}
use Rattle.ostore_schema_layout.specs.declared.schema.MemberDef.{MemberDef}
use Rattle.ostore_schema_layout.specs.declared.schema.MemberKind.{MemberKind}
use Rattle.ostore_schema_layout.specs.declared.schema.MemberKind.TheVariants as kinds
use Rattle.ostore_schema_layout.specs.declared.layouts.Place.{Place}
use Rattle.ostore_schema_layout.specs.declared.layouts.Layout.{Layout}
use Rattle.ostore_schema_layout.specs.Limits.{largest_cell}
use Rattle.ostore_schema_layout.specs.Numbers.{members_of}
use Rattle.ostore_base.specs.declared.cell_codes.TheConstants.{SET_CHUNK, INT_DICTIONARY_CHUNK, TEXT_DICTIONARY_CHUNK, INDEX_DESCRIPTOR, INT_INDEX_CHUNK, TEXT_INDEX_CHUNK, ENTRIES_IN_CHUNK}

-- each item stands in a relation to every later one
abbrev pub ArePairwise : {X : Type 0} → (X → X → Type 0) → List X → Type 0
ArePairwise related [] = Unit {0}
ArePairwise related (first ∷ others) = AllByRecursion (related first) others × ArePairwise related others

-- ---- objects

-- the next multiple of 4
abbrev pub in_fours : ℕ → ℕ
in_fours n = (n + 3) / 4 * 4

-- How many bytes a member takes. A text has its length before its bytes; a set its first chunk, its
-- count and its first index descriptor; a list or dictionary its first chunk and its count.
abbrev pub kind_size : MemberKind → ℕ
kind_size kinds.Int = 8
kind_size (kinds.Text max) = in_fours (1 + max)
kind_size (kinds.Ref target) = 4
kind_size (kinds.Set target) = 12
kind_size (kinds.List target) = 8
kind_size (kinds.DictInt target) = 8
kind_size (kinds.DictText target) = 8

-- members lie in text order, each at the next free byte
abbrev pub places_from : ℕ → List MemberDef → List Place
places_from at [] = []
places_from at (member ∷ members) = record { offset = at; kind = member.kind } ∷ places_from (at + kind_size member.kind) members

abbrev pub sizes : List MemberDef → ℕ
sizes [] = 0
sizes (member ∷ members) = kind_size member.kind + sizes members

-- a type without members has a cell of 4 bytes
abbrev pub cell_size : List MemberDef → ℕ
cell_size [] = 4
cell_size (member ∷ members) = sizes (member ∷ members)

abbrev pub layout_of : List MemberDef → Layout
layout_of members = record { size = cell_size members; members = places_from 0 members }

-- the number is that of a type of the schema
abbrev pub IsType : Schema → ℕ → Type 0
IsType schema number = (1 ≤ number) × (number ≤ length schema.types)

-- a layout can stand on a page: members are apart, each in the cell, and the cell is some fours
abbrev pub place_end : Place → ℕ
place_end place = place.offset + kind_size place.kind

pub record IsSoundLayout (layout : Layout) : Type 0 where
  pub some : 0 < layout.size
  pub fours : layout.size % 4 ≡ 0
  pub most : layout.size ≤ largest_cell
  pub within : AllByRecursion (λ place. (place.offset % 4 ≡ 0) × (place_end place ≤ layout.size)) layout.members
  pub apart : ArePairwise (λ earlier later. place_end earlier ≤ later.offset) layout.members

-- ---- chunks and descriptors

-- The entries of a chunk. Before them stand the next chunk's pointer, the count in 2 bytes and a zero
-- in 2 bytes.
pub record ChunkForm : Type 0 where
  pub entries : ℕ
  pub entry_size : ℕ
  -- where the pointer stands in an entry
  pub pointer_at : ℕ

abbrev pub chunk_form : ℕ → ℕ → ℕ → ChunkForm
chunk_form entries entry_size pointer_at = record { entries = entries; entry_size = entry_size; pointer_at = pointer_at }

-- by the codes of chunks; a set's and a list's have pointers alone
abbrev pub chunk_of : ℕ → ChunkForm
chunk_of code =
    if code == INT_DICTIONARY_CHUNK then chunk_form 16 12 8
    else if code == TEXT_DICTIONARY_CHUNK then chunk_form 8 48 44
    else if code == INT_INDEX_CHUNK then chunk_form 16 20 8
    else if code == TEXT_INDEX_CHUNK then chunk_form 16 56 44
    else chunk_form 30 4 0

-- an index descriptor has the next descriptor's pointer, the first chunk's, and 8 bytes
abbrev pub chunk_size : ℕ → ℕ
chunk_size code = if code == INDEX_DESCRIPTOR then 16 else ENTRIES_IN_CHUNK + (chunk_of code).entries * (chunk_of code).entry_size

-- the size of a cell of a code
abbrev pub code_size : Schema → ℕ → ℕ
code_size schema code = if nat_le SET_CHUNK code then chunk_size code else cell_size (members_of schema code)

-- ---- pointers

-- the pointers of a member that begins at a place
abbrev pub pointers_of_kind : ℕ → MemberKind → List ℕ
pointers_of_kind at kinds.Int = []
pointers_of_kind at (kinds.Text max) = []
pointers_of_kind at (kinds.Ref target) = at ∷ []
pointers_of_kind at (kinds.Set target) = at ∷ (at + 8) ∷ []
pointers_of_kind at (kinds.List target) = at ∷ []
pointers_of_kind at (kinds.DictInt target) = at ∷ []
pointers_of_kind at (kinds.DictText target) = at ∷ []

abbrev pub pointers_of_place : Place → List ℕ
pointers_of_place place = pointers_of_kind place.offset place.kind

abbrev pub entry_pointers : ChunkForm → List ℕ
entry_pointers form = map (λ i. ENTRIES_IN_CHUNK + form.pointer_at + form.entry_size * i) (range_with_len 0 form.entries)

abbrev pub chunk_pointers : ℕ → List ℕ
chunk_pointers code = if code == INDEX_DESCRIPTOR then 0 ∷ 4 ∷ [] else 0 ∷ entry_pointers (chunk_of code)

abbrev pub type_pointers : List MemberDef → List ℕ
type_pointers members = flat_map pointers_of_place (places_from 0 members)

-- where the pointers of a cell of a code are, ascending
abbrev pub pointers_of : Schema → ℕ → List ℕ
pointers_of schema code = if nat_le SET_CHUNK code then chunk_pointers code else type_pointers (members_of schema code)

-- pointers at these places, 4 bytes each, lie in a cell of the code
abbrev pub AreInCell : Schema → ℕ → List ℕ → Type 0
AreInCell schema code places = AllByRecursion (λ place. place + 4 ≤ code_size schema code) places

-- the code of a type of the schema, or of a chunk or descriptor
abbrev pub HasCode : Schema → ℕ → Type 0
HasCode schema code = IsType schema code ⊎ ((SET_CHUNK ≤ code) × (code ≤ TEXT_INDEX_CHUNK))

-- the least pointer from a place on
abbrev pub pointer_from : Schema → ℕ → ℕ → Option ℕ
pointer_from schema code from = find (λ place. nat_le from place) (pointers_of schema code)
