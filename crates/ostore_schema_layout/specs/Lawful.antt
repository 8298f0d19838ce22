-- Which schemas are lawful: those that a text can spell.
use Rattle.std.specs.Prelude.{◌≡◌, ◌≢◌, ℕ, suc, ◌≤◌, IsTrue, List, [], ◌∷◌, length, Option, Some, None}
use Rattle.ostore_text_words.specs.Words.{is_identifier}
use Rattle.ostore_schema_layout.specs.declared.schema.Schema.{Schema}
use Rattle.ostore_schema_layout.specs.declared.schema.TypeDef.{TypeDef}
use Rattle.ostore_schema_layout.specs.declared.schema.TypeNo.{TypeNo}
use Rattle.ostore_schema_layout.specs.declared.schema.MemberDef.{MemberDef}
use Rattle.ostore_schema_layout.specs.declared.schema.MemberNo.{MemberNo}
use Rattle.ostore_schema_layout.specs.declared.schema.MemberKind.{MemberKind}
use Rattle.ostore_schema_layout.specs.declared.schema.MemberKind.TheVariants as kinds
use Rattle.ostore_schema_layout.specs.declared.schema.Inverse.{Inverse}
use Rattle.ostore_schema_layout.specs.Cells.{ArePairwise, IsType, cell_size}
use Rattle.ostore_schema_layout.specs.Limits.{most_types, most_members, longest_text, largest_cell}
use Rattle.ostore_schema_layout.specs.Numbers.{member_at}

-- what a kind holds is there
abbrev pub IsLawfulKind : Schema → MemberKind → Type 0
IsLawfulKind schema kinds.Int = Unit {0}
IsLawfulKind schema (kinds.Text max) = (1 ≤ max) × (max ≤ longest_text)
IsLawfulKind schema (kinds.Ref target) = IsType schema target.0
IsLawfulKind schema (kinds.Set target) = IsType schema target.0
IsLawfulKind schema (kinds.List target) = IsType schema target.0
IsLawfulKind schema (kinds.DictInt target) = IsType schema target.0
IsLawfulKind schema (kinds.DictText target) = IsType schema target.0

-- the type that a side of a link leads to: references and sets are the sides
abbrev pub link_target : MemberKind → Option TypeNo
link_target (kinds.Ref target) = Some target
link_target (kinds.Set target) = Some target
link_target kinds.Int = None
link_target (kinds.Text max) = None
link_target (kinds.List target) = None
link_target (kinds.DictInt target) = None
link_target (kinds.DictText target) = None

abbrev pub inverse_of : TypeNo → MemberNo → Inverse
inverse_of ty member = record { ty = ty; member = member }

-- the member found is a side that leads to this type and names this one as its inverse
pub record NamesBack (found : Option MemberDef) (ty : TypeNo) (number : MemberNo) : Type 0 where
  pub other : MemberDef
  pub there : found ≡ Some other
  pub target : link_target other.kind ≡ Some ty
  pub back : other.inverse ≡ Some (inverse_of ty number)

-- the inverse of a member is the other side of its link
pub record IsTwoSided (schema : Schema) (ty : TypeNo) (number : MemberNo) (kind : MemberKind) (inverse : Inverse) : Type 0 where
  pub leads : link_target kind ≡ Some inverse.ty
  pub named : NamesBack (member_at schema inverse.ty inverse.member) ty number
  pub apart : inverse ≢ inverse_of ty number

abbrev pub IsLawfulInverse : Schema → TypeNo → MemberNo → MemberKind → Option Inverse → Type 0
IsLawfulInverse schema ty number kind None = Unit {0}
IsLawfulInverse schema ty number kind (Some inverse) = IsTwoSided schema ty number kind inverse

pub record IsLawfulMember (schema : Schema) (ty : TypeNo) (number : MemberNo) (member : MemberDef) : Type 0 where
  pub name : IsTrue (is_identifier member.name)
  pub kind : IsLawfulKind schema member.kind
  pub inverse : IsLawfulInverse schema ty number member.kind member.inverse

-- members, of which the first has a number
abbrev pub AreLawfulMembers : Schema → TypeNo → ℕ → List MemberDef → Type 0
AreLawfulMembers schema ty number [] = Unit {0}
AreLawfulMembers schema ty number (member ∷ members) =
    IsLawfulMember schema ty (record { 0 = number }) member × AreLawfulMembers schema ty (suc number) members

pub record IsLawfulType (schema : Schema) (number : TypeNo) (ty : TypeDef) : Type 0 where
  pub name : IsTrue (is_identifier ty.name)
  pub few : length ty.members ≤ most_members
  pub own_names : ArePairwise (λ earlier later. earlier.name ≢ later.name) ty.members
  pub members : AreLawfulMembers schema number 0 ty.members
  pub size : cell_size ty.members ≤ largest_cell

-- types, of which the first has a number
abbrev pub AreLawfulTypes : Schema → ℕ → List TypeDef → Type 0
AreLawfulTypes schema number [] = Unit {0}
AreLawfulTypes schema number (ty ∷ types) = IsLawfulType schema (record { 0 = number }) ty × AreLawfulTypes schema (suc number) types

pub record IsLawful (schema : Schema) : Type 0 where
  pub few : length schema.types ≤ most_types
  pub own_names : ArePairwise (λ earlier later. earlier.name ≢ later.name) schema.types
  pub types : AreLawfulTypes schema 1 schema.types
