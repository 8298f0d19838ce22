-- The heap of a database: the row at each address, and what leads on from its cell. Here is what can be said
-- of rows, of objects and of their members.
use Rattle.std.specs.Prelude.{◌≡◌, ℕ, true, IsTrue, List, Option, Some}
use Rattle.std.specs.List.{slice_get}
use Rattle.std.specs.Option.{option_map}
use Rattle.ostore_page_tags.specs.Rules.{is_type_code}
use Rattle.ostore_schema_layout.specs.declared.schema.Schema.{Schema}
use Rattle.ostore_schema_layout.specs.declared.schema.MemberDef.{MemberDef}
use Rattle.ostore_schema_layout.specs.Numbers.{members_of}
use Rattle.ostore_graph_model.specs.declared.values.Name.{Name}
use Rattle.ostore_graph_model.specs.Records.{Slot, Links, RowTag, HeapCell}

abbrev pub Heap : Type 0
Heap = ℕ → Option HeapCell

-- ---- rows, live or dead

abbrev pub tag_at : Heap → ℕ → Option RowTag
tag_at heap address = option_map (λ cell. cell.tag) (heap address)

abbrev pub code_at : Heap → ℕ → Option ℕ
code_at heap address = option_map (λ cell. cell.tag.code) (heap address)

abbrev pub links_at : Heap → ℕ → Option Links
links_at heap address = option_map (λ cell. cell.links) (heap address)

abbrev pub name_in : RowTag → Name
name_in tag = record { segment = tag.segment; serial = tag.serial }

-- the name of the row at an address
abbrev pub name_at : Heap → ℕ → Option Name
name_at heap address = option_map name_in (tag_at heap address)

-- A row of a type stands at an address, live or dead. All that asks for objects of a type asks this.
abbrev pub IsRowOf : Schema → Heap → ℕ → ℕ → Type 0
IsRowOf schema heap ty address = code_at heap address ≡ Some ty

-- ---- objects and their members

-- a live row and what leads on from its cell
abbrev pub live_cell : RowTag → Links → HeapCell
live_cell tag links = record { tag = tag; live = true; links = links }

-- a live object stands at an address, with these in its members
pub record IsObject (heap : Heap) (address : ℕ) (tag : RowTag) (slots : List Slot) : Type 0 where
  pub there : heap address ≡ Some (live_cell tag (Links.Object slots))
  pub typed : IsTrue (is_type_code tag.code)

-- the live object at an address has this member, which holds this
pub record HasMember (schema : Schema) (heap : Heap) (address member : ℕ) (tag : RowTag) (def : MemberDef) (slot : Slot) : Type 0 where
  pub slots : List Slot
  pub object : IsObject heap address tag slots
  pub defined : slice_get (members_of schema tag.code) member ≡ Some def
  pub held : slice_get slots member ≡ Some slot
