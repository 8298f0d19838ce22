-- What the int and text members of an object hold, read off its cell.
use Rattle.std.specs.Prelude.{ℕ, ◌+◌, List, map, take, Option, Some, None}
use Rattle.std.specs.Option.{option_map}
use Rattle.ostore_base.specs.declared.page.PageImage.{PageImage}
use Rattle.ostore_page_tags.specs.Numbers.{number_at, int_at}
use Rattle.ostore_page_tags.specs.Cells.{between}
use Rattle.ostore_schema_layout.specs.declared.schema.Schema.{Schema}
use Rattle.ostore_schema_layout.specs.declared.schema.MemberKind.{MemberKind}
use Rattle.ostore_schema_layout.specs.declared.schema.MemberKind.TheVariants as kinds
use Rattle.ostore_schema_layout.specs.declared.layouts.Place.{Place}
use Rattle.ostore_schema_layout.specs.Cells.{places_from}
use Rattle.ostore_schema_layout.specs.Numbers.{members_of}
use Rattle.ostore_graph_model.specs.declared.values.Scalar.{Scalar}
use Rattle.ostore_graph_model.specs.declared.values.Scalar.TheVariants as scalars
use Rattle.ostore_graph_model.specs.Addresses.{PlacedCell, cell_at}

-- The text at a place: its length in a byte, then its bytes, and room for as many as max. A length that is
-- above max is cut to the room, so that a text is never read off another member's bytes.
abbrev pub text_at : ℕ → ℕ → List ℕ → List ℕ
text_at at max bytes = take (number_at 1 at bytes) (between (at + 1) (at + 1 + max) bytes)

-- what a member that begins at a place holds; a member of another kind has no value of its own
abbrev pub held_at : List ℕ → ℕ → MemberKind → Option Scalar
held_at bytes at kinds.Int = Some (scalars.Int (int_at at bytes))
held_at bytes at (kinds.Text max) = Some (scalars.Text (text_at at max bytes))
held_at bytes at (kinds.Ref target) = None
held_at bytes at (kinds.Set target) = None
held_at bytes at (kinds.List target) = None
held_at bytes at (kinds.DictInt target) = None
held_at bytes at (kinds.DictText target) = None

abbrev pub value_in : List ℕ → Place → Option Scalar
value_in bytes place = held_at bytes place.offset place.kind

-- the values of a cell, one for each member of its type
abbrev pub values_in : Schema → PlacedCell → List (Option Scalar)
values_in schema cell = map (value_in cell.bytes) (places_from 0 (members_of schema cell.code))

-- the values of the object at each address
unfoldable pub values_of : Schema → List PageImage → ℕ → Option (List (Option Scalar))
values_of schema pages address = option_map (values_in schema) (cell_at pages address)
