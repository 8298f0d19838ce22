-- The faults of what a text declares. A name that is declared twice means its first declaration.
use Rattle.std.specs.Prelude.{ℕ, ◌+◌, Bool, true, false, ◌&&◌, not, if◌then◌else◌, nat_lt, nat_le, List, [], ◌∷◌, ◌++◌, length, Option, Some, None}
use Rattle.std.specs.Str.{bytes_eq}
use Rattle.ostore_schema_layout.specs.declared.declarations.NameAt.{NameAt}
use Rattle.ostore_schema_layout.specs.declared.declarations.TypeDeclaration.{TypeDeclaration}
use Rattle.ostore_schema_layout.specs.declared.declarations.MemberDeclaration.{MemberDeclaration}
use Rattle.ostore_schema_layout.specs.declared.declarations.KindDeclaration.{KindDeclaration}
use Rattle.ostore_schema_layout.specs.declared.declarations.KindDeclaration.TheVariants as kinds
use Rattle.ostore_schema_layout.specs.declared.declarations.InverseDeclaration.{InverseDeclaration}
use Rattle.ostore_schema_layout.specs.declared.schema.TypeNo.{TypeNo}
use Rattle.ostore_schema_layout.specs.declared.schema.MemberKind.{MemberKind}
use Rattle.ostore_schema_layout.specs.declared.schema.MemberKind.TheVariants as members
use Rattle.ostore_schema_layout.specs.declared.fault.SchemaFault.{SchemaFault}
use Rattle.ostore_schema_layout.specs.declared.fault.SchemaFault.TheVariants.{DuplicateType, DuplicateMember, UnknownType, InverseMismatch, CellTooLarge, TooManyTypes, TooManyMembers}
use Rattle.ostore_schema_layout.specs.Limits.{most_types, most_members, largest_cell}
use Rattle.ostore_schema_layout.specs.Numbers.{first_named}
use Rattle.ostore_schema_layout.specs.Cells.{kind_size}

-- ---- what names mean

-- the type, or the member, that a name means
abbrev pub type_named : List TypeDeclaration → List ℕ → Option TypeDeclaration
type_named types name = first_named (λ ty. ty.name.name) types name

abbrev pub member_named : List MemberDeclaration → List ℕ → Option MemberDeclaration
member_named members name = first_named (λ member. member.name.name) members name

abbrev pub is_there : {X : Type 0} → Option X → Bool
is_there None = false
is_there (Some x) = true

-- the type that a kind names, and where
abbrev pub target_named : KindDeclaration → Option NameAt
target_named kinds.Int = None
target_named (kinds.Text max) = None
target_named (kinds.Ref target inverse) = Some target
target_named (kinds.Set target inverse) = Some target
target_named (kinds.List target) = Some target
target_named (kinds.DictInt target) = Some target
target_named (kinds.DictText target) = Some target

-- the inverse that a kind names
abbrev pub inverse_named : KindDeclaration → Option InverseDeclaration
inverse_named (kinds.Ref target inverse) = inverse
inverse_named (kinds.Set target inverse) = inverse
inverse_named kinds.Int = None
inverse_named (kinds.Text max) = None
inverse_named (kinds.List target) = None
inverse_named (kinds.DictInt target) = None
inverse_named (kinds.DictText target) = None

-- what a member of the kind holds, where its target has this number
abbrev pub with_target : KindDeclaration → TypeNo → MemberKind
with_target kinds.Int number = members.Int
with_target (kinds.Text max) number = members.Text max
with_target (kinds.Ref target inverse) number = members.Ref number
with_target (kinds.Set target inverse) number = members.Set number
with_target (kinds.List target) number = members.List number
with_target (kinds.DictInt target) number = members.DictInt number
with_target (kinds.DictText target) number = members.DictText number

-- ---- cells, which count every member line of a type

-- which type is the target makes no difference
abbrev pub declared_size : KindDeclaration → ℕ
declared_size kind = kind_size (with_target kind (record { 0 = 0 }))

abbrev pub declared_sizes : List MemberDeclaration → ℕ
declared_sizes [] = 0
declared_sizes (member ∷ members) = declared_size member.kind + declared_sizes members

-- ---- inverses

-- the inverse is named T.m
abbrev pub names_this : InverseDeclaration → List ℕ → List ℕ → Bool
names_this inverse ty member = bytes_eq inverse.ty ty && bytes_eq inverse.member member

abbrev pub names_back : Option InverseDeclaration → List ℕ → List ℕ → Bool
names_back None ty member = false
names_back (Some inverse) ty member = names_this inverse ty member

-- the member is a reference or a set whose target is this type and whose inverse is this member
abbrev pub is_side_of : KindDeclaration → List ℕ → List ℕ → Bool
is_side_of (kinds.Ref target inverse) ty member = bytes_eq target.name ty && names_back inverse ty member
is_side_of (kinds.Set target inverse) ty member = bytes_eq target.name ty && names_back inverse ty member
is_side_of kinds.Int ty member = false
is_side_of (kinds.Text max) ty member = false
is_side_of (kinds.List target) ty member = false
is_side_of (kinds.DictInt target) ty member = false
is_side_of (kinds.DictText target) ty member = false

abbrev pub is_found_side_of : Option MemberDeclaration → List ℕ → List ℕ → Bool
is_found_side_of None ty member = false
is_found_side_of (Some found) ty member = is_side_of found.kind ty member

abbrev pub members_found : Option TypeDeclaration → List MemberDeclaration
members_found None = []
members_found (Some ty) = ty.members

-- the member that an inverse names, where it is there
abbrev pub other_member : List TypeDeclaration → InverseDeclaration → Option MemberDeclaration
other_member types inverse = member_named (members_found (type_named types inverse.ty)) inverse.member

-- `inverse T.m` of a member: T is the member's own target, T.m is another member, and it is the other
-- side of the link
unfoldable pub is_inverse : List TypeDeclaration → List ℕ → List ℕ → List ℕ → InverseDeclaration → Bool
is_inverse types ty member target inverse =
    bytes_eq inverse.ty target && not (names_this inverse ty member)
    && is_found_side_of (other_member types inverse) ty member

-- ---- the faults, in the order of their places, and at one place of their numbers

abbrev pub fault_if : Bool → SchemaFault → List SchemaFault
fault_if test fault = if test then fault ∷ [] else []

abbrev pub target_faults : List TypeDeclaration → Option NameAt → List SchemaFault
target_faults types None = []
target_faults types (Some target) = fault_if (not (is_there (type_named types target.name))) (UnknownType target.at)

abbrev pub inverse_faults : List TypeDeclaration → List ℕ → List ℕ → Option NameAt → Option InverseDeclaration → List SchemaFault
inverse_faults types ty member None inverse = []
inverse_faults types ty member (Some target) None = []
inverse_faults types ty member (Some target) (Some inverse) = fault_if (not (is_inverse types ty member target.name inverse)) (InverseMismatch inverse.at)

-- of a member of a type, behind earlier members
unfoldable pub member_faults : List TypeDeclaration → List ℕ → List MemberDeclaration → MemberDeclaration → List SchemaFault
member_faults types ty earlier member =
    fault_if (is_there (member_named earlier member.name.name)) (DuplicateMember member.name.at)
    ++ fault_if (nat_le most_members (length earlier)) (TooManyMembers member.name.at)
    ++ target_faults types (target_named member.kind)
    ++ inverse_faults types ty member.name.name (target_named member.kind) (inverse_named member.kind)

unfoldable pub members_faults : List TypeDeclaration → List ℕ → List MemberDeclaration → List MemberDeclaration → List SchemaFault
members_faults types ty earlier [] = []
members_faults types ty earlier (member ∷ members) =
    member_faults types ty earlier member ++ members_faults types ty (earlier ++ member ∷ []) members

-- at the name of a type, behind earlier types
unfoldable pub name_faults : List TypeDeclaration → TypeDeclaration → List SchemaFault
name_faults earlier ty =
    fault_if (is_there (type_named earlier ty.name.name)) (DuplicateType ty.name.at)
    ++ fault_if (nat_lt largest_cell (declared_sizes ty.members)) (CellTooLarge ty.name.at)
    ++ fault_if (nat_le most_types (length earlier)) (TooManyTypes ty.name.at)

-- of a type, behind earlier types
abbrev pub type_faults : List TypeDeclaration → List TypeDeclaration → TypeDeclaration → List SchemaFault
type_faults types earlier ty = name_faults earlier ty ++ members_faults types ty.name.name [] ty.members

unfoldable pub types_faults : List TypeDeclaration → List TypeDeclaration → List TypeDeclaration → List SchemaFault
types_faults types earlier [] = []
types_faults types earlier (ty ∷ others) =
    type_faults types earlier ty ++ types_faults types (earlier ++ ty ∷ []) others

-- all faults of what a text declares
abbrev pub faults_of : List TypeDeclaration → List SchemaFault
faults_of types = types_faults types [] types

abbrev pub first_of : List SchemaFault → Option SchemaFault
first_of [] = None
first_of (fault ∷ faults) = Some fault
