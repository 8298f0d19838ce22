-- The schema that declarations without a fault give: names become the numbers of what they mean.
use Rattle.std.specs.Prelude.{ℕ, ◌+◌, List, map, Option, Some, None}
use Rattle.std.specs.List.{position_or_len}
use Rattle.std.specs.Str.{bytes_eq}
use Rattle.ostore_schema_layout.specs.declared.schema.Schema.{Schema}
use Rattle.ostore_schema_layout.specs.declared.schema.TypeDef.{TypeDef}
use Rattle.ostore_schema_layout.specs.declared.schema.TypeNo.{TypeNo}
use Rattle.ostore_schema_layout.specs.declared.schema.MemberDef.{MemberDef}
use Rattle.ostore_schema_layout.specs.declared.schema.MemberNo.{MemberNo}
use Rattle.ostore_schema_layout.specs.declared.schema.MemberKind.{MemberKind}
use Rattle.ostore_schema_layout.specs.declared.schema.Inverse.{Inverse}
use Rattle.ostore_schema_layout.specs.declared.declarations.NameAt.{NameAt}
use Rattle.ostore_schema_layout.specs.declared.declarations.TypeDeclaration.{TypeDeclaration}
use Rattle.ostore_schema_layout.specs.declared.declarations.MemberDeclaration.{MemberDeclaration}
use Rattle.ostore_schema_layout.specs.declared.declarations.KindDeclaration.{KindDeclaration}
use Rattle.ostore_schema_layout.specs.declared.declarations.InverseDeclaration.{InverseDeclaration}
use Rattle.ostore_schema_layout.specs.Faults.{type_named, members_found, target_named, inverse_named, with_target}

-- types count from 1, and members from 0
abbrev pub type_number : List TypeDeclaration → List ℕ → TypeNo
type_number types name = record { 0 = position_or_len (λ ty. bytes_eq ty.name.name name) types + 1 }

abbrev pub member_number : List MemberDeclaration → List ℕ → MemberNo
member_number members name = record { 0 = position_or_len (λ member. bytes_eq member.name.name name) members }

abbrev pub target_number : List TypeDeclaration → Option NameAt → TypeNo
target_number types None = record { 0 = 0 }
target_number types (Some target) = type_number types target.name

abbrev pub resolved_kind : List TypeDeclaration → KindDeclaration → MemberKind
resolved_kind types kind = with_target kind (target_number types (target_named kind))

abbrev pub resolved_inverse : List TypeDeclaration → Option InverseDeclaration → Option Inverse
resolved_inverse types None = None
resolved_inverse types (Some inverse) = Some (record {
  ty = type_number types inverse.ty;
  member = member_number (members_found (type_named types inverse.ty)) inverse.member;
})

abbrev pub resolved_member : List TypeDeclaration → MemberDeclaration → MemberDef
resolved_member types member = record {
  name = member.name.name;
  kind = resolved_kind types member.kind;
  inverse = resolved_inverse types (inverse_named member.kind);
}

abbrev pub resolved_type : List TypeDeclaration → TypeDeclaration → TypeDef
resolved_type types ty = record { name = ty.name.name; members = map (resolved_member types) ty.members }

abbrev pub resolved : List TypeDeclaration → Schema
resolved types = record { types = map (resolved_type types) types }
