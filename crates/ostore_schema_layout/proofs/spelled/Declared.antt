-- Declarations as they are spelled, without their places; and the declarations that a schema's own names
-- make. The laws of reading go through them.
use Rattle.std.specs.Prelude.{ℕ, ◌≤◌, IsTrue, List, [], ◌∷◌, map, codes, decimal, Option, Some, None}
use Rattle.std.specs.List.{flat_map, AllByRecursion}
use Rattle.ostore_text_words.specs.Words.{is_identifier, dotted}
use Rattle.ostore_schema_layout.specs.declared.schema.Schema.{Schema}
use Rattle.ostore_schema_layout.specs.declared.schema.TypeDef.{TypeDef}
use Rattle.ostore_schema_layout.specs.declared.schema.MemberDef.{MemberDef}
use Rattle.ostore_schema_layout.specs.declared.schema.MemberKind.{MemberKind}
use Rattle.ostore_schema_layout.specs.declared.schema.MemberKind.TheVariants as kinds
use Rattle.ostore_schema_layout.specs.declared.schema.Inverse.{Inverse}
use Rattle.ostore_schema_layout.specs.declared.declarations.NameAt.{NameAt}
use Rattle.ostore_schema_layout.specs.declared.declarations.TypeDeclaration.{TypeDeclaration}
use Rattle.ostore_schema_layout.specs.declared.declarations.MemberDeclaration.{MemberDeclaration}
use Rattle.ostore_schema_layout.specs.declared.declarations.KindDeclaration.{KindDeclaration}
use Rattle.ostore_schema_layout.specs.declared.declarations.KindDeclaration.TheVariants as declared
use Rattle.ostore_schema_layout.specs.declared.declarations.InverseDeclaration.{InverseDeclaration}
use Rattle.ostore_schema_layout.specs.Numbers.{type_name, member_name}

-- ---- spelled

abbrev pub spelled_inverse : Option InverseDeclaration → List (List ℕ)
spelled_inverse None = []
spelled_inverse (Some inverse) = codes "inverse" ∷ dotted inverse.ty inverse.member ∷ []

abbrev pub spelled_kind : KindDeclaration → List (List ℕ)
spelled_kind declared.Int = codes "int" ∷ []
spelled_kind (declared.Text max) = codes "text" ∷ decimal max ∷ []
spelled_kind (declared.Ref target inverse) = codes "ref" ∷ target.name ∷ spelled_inverse inverse
spelled_kind (declared.Set target inverse) = codes "set" ∷ target.name ∷ spelled_inverse inverse
spelled_kind (declared.List target) = codes "list" ∷ target.name ∷ []
spelled_kind (declared.DictInt target) = codes "dict" ∷ codes "int" ∷ target.name ∷ []
spelled_kind (declared.DictText target) = codes "dict" ∷ codes "text" ∷ target.name ∷ []

abbrev pub spelled_member : MemberDeclaration → List (List ℕ)
spelled_member member = member.name.name ∷ spelled_kind member.kind

abbrev pub spelled_type : TypeDeclaration → List (List (List ℕ))
spelled_type ty = (codes "type" ∷ ty.name.name ∷ []) ∷ map spelled_member ty.members

abbrev pub spelled_types : List TypeDeclaration → List (List (List ℕ))
spelled_types types = flat_map spelled_type types

-- ---- names are identifiers, and texts have a length

abbrev pub IsNamedInverse : Option InverseDeclaration → Type 0
IsNamedInverse None = Unit {0}
IsNamedInverse (Some inverse) = IsTrue (is_identifier inverse.ty) × IsTrue (is_identifier inverse.member)

abbrev pub IsNamedKind : KindDeclaration → Type 0
IsNamedKind declared.Int = Unit {0}
IsNamedKind (declared.Text max) = (1 ≤ max) × (max ≤ 40)
IsNamedKind (declared.Ref target inverse) = IsTrue (is_identifier target.name) × IsNamedInverse inverse
IsNamedKind (declared.Set target inverse) = IsTrue (is_identifier target.name) × IsNamedInverse inverse
IsNamedKind (declared.List target) = IsTrue (is_identifier target.name)
IsNamedKind (declared.DictInt target) = IsTrue (is_identifier target.name)
IsNamedKind (declared.DictText target) = IsTrue (is_identifier target.name)

abbrev pub IsNamedMember : MemberDeclaration → Type 0
IsNamedMember member = IsTrue (is_identifier member.name.name) × IsNamedKind member.kind

abbrev pub IsNamedType : TypeDeclaration → Type 0
IsNamedType ty = IsTrue (is_identifier ty.name.name) × AllByRecursion IsNamedMember ty.members

abbrev pub AreNamed : List TypeDeclaration → Type 0
AreNamed types = AllByRecursion IsNamedType types

-- ---- without places

abbrev pub unplaced_name : List ℕ → NameAt
unplaced_name name = record { at = 0; name = name }

abbrev pub unplaced_inverse : Option InverseDeclaration → Option InverseDeclaration
unplaced_inverse None = None
unplaced_inverse (Some inverse) = Some (record { at = 0; ty = inverse.ty; member = inverse.member })

abbrev pub unplaced_kind : KindDeclaration → KindDeclaration
unplaced_kind declared.Int = declared.Int
unplaced_kind (declared.Text max) = declared.Text max
unplaced_kind (declared.Ref target inverse) = declared.Ref (unplaced_name target.name) (unplaced_inverse inverse)
unplaced_kind (declared.Set target inverse) = declared.Set (unplaced_name target.name) (unplaced_inverse inverse)
unplaced_kind (declared.List target) = declared.List (unplaced_name target.name)
unplaced_kind (declared.DictInt target) = declared.DictInt (unplaced_name target.name)
unplaced_kind (declared.DictText target) = declared.DictText (unplaced_name target.name)

abbrev pub unplaced_member : MemberDeclaration → MemberDeclaration
unplaced_member member = record { name = unplaced_name member.name.name; kind = unplaced_kind member.kind }

abbrev pub unplaced_type : TypeDeclaration → TypeDeclaration
unplaced_type ty = record { name = unplaced_name ty.name.name; members = map unplaced_member ty.members }

abbrev pub unplaced : List TypeDeclaration → List TypeDeclaration
unplaced types = map unplaced_type types

-- ---- a schema's own names, declared

abbrev pub naming_inverse : Schema → Option Inverse → Option InverseDeclaration
naming_inverse schema None = None
naming_inverse schema (Some inverse) = Some (record { at = 0; ty = type_name schema inverse.ty; member = member_name schema inverse.ty inverse.member })

abbrev pub naming_kind : Schema → MemberKind → Option Inverse → KindDeclaration
naming_kind schema kinds.Int inverse = declared.Int
naming_kind schema (kinds.Text max) inverse = declared.Text max
naming_kind schema (kinds.Ref target) inverse = declared.Ref (unplaced_name (type_name schema target)) (naming_inverse schema inverse)
naming_kind schema (kinds.Set target) inverse = declared.Set (unplaced_name (type_name schema target)) (naming_inverse schema inverse)
naming_kind schema (kinds.List target) inverse = declared.List (unplaced_name (type_name schema target))
naming_kind schema (kinds.DictInt target) inverse = declared.DictInt (unplaced_name (type_name schema target))
naming_kind schema (kinds.DictText target) inverse = declared.DictText (unplaced_name (type_name schema target))

abbrev pub naming_member : Schema → MemberDef → MemberDeclaration
naming_member schema member = record { name = unplaced_name member.name; kind = naming_kind schema member.kind member.inverse }

abbrev pub naming_type : Schema → TypeDef → TypeDeclaration
naming_type schema ty = record { name = unplaced_name ty.name; members = map (naming_member schema) ty.members }

abbrev pub naming : Schema → List TypeDeclaration
naming schema = map (naming_type schema) schema.types
