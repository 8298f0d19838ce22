-- Types and members by their names and by their numbers. Of two things of one name the first is meant.
-- Types count from 1, and members from 0.
use Rattle.std.specs.Prelude.{ℕ, zero, suc, ◌+◌, List, [], Option, Some, None, option_map}
use Rattle.std.specs.List.{find, position, slice_get}
use Rattle.std.specs.Str.{bytes_eq}
use Rattle.ostore_schema_layout.specs.declared.schema.Schema.{Schema}
use Rattle.ostore_schema_layout.specs.declared.schema.TypeDef.{TypeDef}
use Rattle.ostore_schema_layout.specs.declared.schema.TypeNo.{TypeNo}
use Rattle.ostore_schema_layout.specs.declared.schema.MemberDef.{MemberDef}
use Rattle.ostore_schema_layout.specs.declared.schema.MemberNo.{MemberNo}

-- ---- by name, in any list of things that go by names

-- the first of this name
abbrev pub first_named : {X : Type 0} → (X → List ℕ) → List X → List ℕ → Option X
first_named name_of xs name = find (λ x. bytes_eq (name_of x) name) xs

-- and its place, from 0
unfoldable pub place_named : {X : Type 0} → (X → List ℕ) → List X → List ℕ → Option ℕ
place_named name_of xs name = position (λ x. bytes_eq (name_of x) name) xs

-- ---- by number

abbrev pub type_at : Schema → ℕ → Option TypeDef
type_at schema zero = None
type_at schema (suc n) = slice_get schema.types n

abbrev pub members_of_found : Option TypeDef → List MemberDef
members_of_found None = []
members_of_found (Some ty) = ty.members

-- the members of a type
abbrev pub members_of : Schema → ℕ → List MemberDef
members_of schema number = members_of_found (type_at schema number)

abbrev pub member_at : Schema → TypeNo → MemberNo → Option MemberDef
member_at schema ty member = slice_get (members_of schema ty.0) member.0

-- ---- numbers by names

abbrev pub type_of_place : ℕ → TypeNo
type_of_place place = record { 0 = place + 1 }

abbrev pub member_of_place : ℕ → MemberNo
member_of_place place = record { 0 = place }

abbrev pub type_named : Schema → List ℕ → Option TypeNo
type_named schema name = option_map type_of_place (place_named (λ ty. ty.name) schema.types name)

-- the member of a type
abbrev pub member_named : Schema → TypeNo → List ℕ → Option MemberNo
member_named schema ty name = option_map member_of_place (place_named (λ member. member.name) (members_of schema ty.0) name)

-- ---- names by numbers

abbrev pub name_of_type : Option TypeDef → List ℕ
name_of_type None = []
name_of_type (Some ty) = ty.name

abbrev pub type_name : Schema → TypeNo → List ℕ
type_name schema ty = name_of_type (type_at schema ty.0)

abbrev pub name_of_member : Option MemberDef → List ℕ
name_of_member None = []
name_of_member (Some member) = member.name

abbrev pub member_name : Schema → TypeNo → MemberNo → List ℕ
member_name schema ty member = name_of_member (member_at schema ty member)
