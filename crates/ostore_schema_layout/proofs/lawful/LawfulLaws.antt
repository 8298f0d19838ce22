-- The declarations that a lawful schema's own names make: they are spelled as the schema is, have no
-- fault, and give the schema.
use Rattle.std.proofs.Common.{◌≡◌, ℕ, ◌+◌, ◌≤◌, true, false, ◌&&◌, not, IsTrue, List, [], ◌∷◌, ◌++◌, Option, Some, None, refl, sym, ap, subst, ◌∙◌, arith}
use Rattle.std.specs.Prelude.{map, codes}
use Rattle.std.specs.List.{slice_get}
use Rattle.std.specs.Str.{bytes_eq}
use Rattle.std.proofs.lemmas.Bool.{and_parts, and_from, false_from_ne_true, not_from_false}
use Rattle.std.proofs.lemmas.List.{length-map}
use Rattle.std.proofs.lemmas.Option.{same_Some, none-some}
use Rattle.ostore_text_words.specs.Words.{is_identifier}
use Rattle.ostore_schema_layout.specs.declared.schema.Schema.{Schema}
use Rattle.ostore_schema_layout.specs.declared.schema.TypeDef.{TypeDef}
use Rattle.ostore_schema_layout.specs.declared.schema.TypeNo.{TypeNo}
use Rattle.ostore_schema_layout.specs.declared.schema.MemberDef.{MemberDef}
use Rattle.ostore_schema_layout.specs.declared.schema.MemberNo.{MemberNo}
use Rattle.ostore_schema_layout.specs.declared.schema.MemberKind.{MemberKind}
use Rattle.ostore_schema_layout.specs.declared.schema.MemberKind.TheVariants as kinds
use Rattle.ostore_schema_layout.specs.declared.schema.Inverse.{Inverse}
use Rattle.ostore_schema_layout.specs.declared.declarations.TypeDeclaration.{TypeDeclaration}
use Rattle.ostore_schema_layout.specs.declared.declarations.MemberDeclaration.{MemberDeclaration}
use Rattle.ostore_schema_layout.specs.Cells.{kind_size, sizes, cell_size, IsType}
use Rattle.ostore_schema_layout.specs.Numbers.{type_name, member_at, member_name}
use Rattle.ostore_schema_layout.specs.Spells.{kind_words, inverse_words, member_words, type_lines, schema_lines}
use Rattle.ostore_schema_layout.specs.Lawful.{IsLawfulKind, link_target, inverse_of, IsTwoSided, IsLawfulInverse, IsLawfulMember, IsLawfulType, IsLawful}
use Rattle.ostore_schema_layout.specs.Faults.{type_named, member_named, target_named, inverse_named, declared_size, declared_sizes, is_side_of, is_found_side_of, members_found, is_inverse, faults_of}
use Rattle.ostore_schema_layout.specs.Resolved.{type_number, resolved_kind, resolved_inverse, resolved_member, resolved_type, resolved}
use Rattle.ostore_schema_layout.proofs.spelled.Declared.{spelled_kind, spelled_member, spelled_type, spelled_types, IsNamedKind, IsNamedMember, IsNamedType, AreNamed, naming_inverse, naming_kind, naming_member, naming_type, naming}
use Rattle.ostore_schema_layout.proofs.resolved.ResolveLawsLists.{bytes_same, same_bytes, All_by_place, All_map, map_same, map_map, map_through, flat_map_through, pairwise_map}
use Rattle.ostore_schema_layout.proofs.resolved.ResolveLawsFaults.{IsTargetThere, IsInverseThere, IsFaultlessMember, IsFaultlessType, AreFaultless, faultless_are}
use Rattle.ostore_schema_layout.proofs.resolved.ResolveLawsNames.{name_of}
use Rattle.ostore_schema_layout.proofs.lawful.LawfulLawsPlaces.{lawful_type, lawful_member, stands, type_there, member_stands, type_at_place, name_of_number, name_of_numbers, member_at_place, same_place, naming_member_names, type_named_again, type_number_again, member_named_again, member_number_again, type_identifier, member_identifier}

-- ---- named

kind_named : (schema : Schema) → IsLawful schema → (ty : TypeNo) (number : MemberNo) (kind : MemberKind) (inverse : Option Inverse)
    → IsLawfulKind schema kind → IsLawfulInverse schema ty number kind inverse → IsNamedKind (naming_kind schema kind inverse)
kind_named schema lawful ty number kinds.Int inverse h k = tt
kind_named schema lawful ty number (kinds.Text max) inverse h k = h
kind_named schema lawful ty number (kinds.Ref target) None h k = (type_identifier schema lawful target h, tt)
kind_named schema lawful ty number (kinds.Ref target) (Some inverse) h k =
    let same = same_Some target inverse.ty k.leads in (
      type_identifier schema lawful target h,
      (
        subst (λ (n : TypeNo). IsTrue (is_identifier (type_name schema n))) same (type_identifier schema lawful target h),
        member_identifier schema lawful inverse.ty inverse.member k.named.other k.named.there,
      ),
    )
kind_named schema lawful ty number (kinds.Set target) None h k = (type_identifier schema lawful target h, tt)
kind_named schema lawful ty number (kinds.Set target) (Some inverse) h k =
    let same = same_Some target inverse.ty k.leads in (
      type_identifier schema lawful target h,
      (
        subst (λ (n : TypeNo). IsTrue (is_identifier (type_name schema n))) same (type_identifier schema lawful target h),
        member_identifier schema lawful inverse.ty inverse.member k.named.other k.named.there,
      ),
    )
kind_named schema lawful ty number (kinds.List target) inverse h k = type_identifier schema lawful target h
kind_named schema lawful ty number (kinds.DictInt target) inverse h k = type_identifier schema lawful target h
kind_named schema lawful ty number (kinds.DictText target) inverse h k = type_identifier schema lawful target h

member_is_named : (schema : Schema) → IsLawful schema → (ty : TypeNo) (number : MemberNo) (member : MemberDef) → IsLawfulMember schema ty number member → IsNamedMember (naming_member schema member)
member_is_named schema lawful ty number member h = (h.name, kind_named schema lawful ty number member.kind member.inverse h.kind h.inverse)

type_is_named : (schema : Schema) → IsLawful schema → (number : TypeNo) (ty : TypeDef) → IsLawfulType schema number ty → IsNamedType (naming_type schema ty)
type_is_named schema lawful number ty h = (
  h.name,
  All_map IsNamedMember (naming_member schema) ty.members
      (All_by_place (λ (m : MemberDef). IsNamedMember (naming_member schema m)) ty.members
      (λ j m e. member_is_named schema lawful number (record { 0 = j }) m (lawful_member schema number ty.members h.members j m e))),
)

pub lawful_named : (schema : Schema) → IsLawful schema → AreNamed (naming schema)
lawful_named schema lawful =
    All_map IsNamedType (naming_type schema) schema.types
    (All_by_place (λ (t : TypeDef). IsNamedType (naming_type schema t)) schema.types
    (λ k t e. type_is_named schema lawful (record { 0 = k + 1 }) t (lawful_type schema lawful k t e)))

-- ---- spelled

kind_spelled : (schema : Schema) (ty : TypeNo) (number : MemberNo) (kind : MemberKind) (inverse : Option Inverse) → IsLawfulInverse schema ty number kind inverse
    → spelled_kind (naming_kind schema kind inverse) ≡ kind_words schema kind ++ inverse_words schema inverse
kind_spelled schema ty number kinds.Int None k = refl
kind_spelled schema ty number (kinds.Text max) None k = refl
kind_spelled schema ty number (kinds.Ref target) None k = refl
kind_spelled schema ty number (kinds.Set target) None k = refl
kind_spelled schema ty number (kinds.List target) None k = refl
kind_spelled schema ty number (kinds.DictInt target) None k = refl
kind_spelled schema ty number (kinds.DictText target) None k = refl
kind_spelled schema ty number (kinds.Ref target) (Some inverse) k = refl
kind_spelled schema ty number (kinds.Set target) (Some inverse) k = refl
kind_spelled schema ty number kinds.Int (Some inverse) k = absurd (none-some inverse.ty k.leads)
kind_spelled schema ty number (kinds.Text max) (Some inverse) k = absurd (none-some inverse.ty k.leads)
kind_spelled schema ty number (kinds.List target) (Some inverse) k = absurd (none-some inverse.ty k.leads)
kind_spelled schema ty number (kinds.DictInt target) (Some inverse) k = absurd (none-some inverse.ty k.leads)
kind_spelled schema ty number (kinds.DictText target) (Some inverse) k = absurd (none-some inverse.ty k.leads)

type_spelled : (schema : Schema) (number : TypeNo) (ty : TypeDef) → IsLawfulType schema number ty → spelled_type (naming_type schema ty) ≡ type_lines schema ty
type_spelled schema number ty h =
    ap (λ (lines : List (List (List ℕ))). (codes "type" ∷ ty.name ∷ []) ∷ lines)
    (map_through spelled_member (naming_member schema) (member_words schema) ty.members
    (All_by_place (λ (m : MemberDef). spelled_member (naming_member schema m) ≡ member_words schema m) ty.members
    (λ j m e. ap (λ (words : List (List ℕ)). m.name ∷ words)
    (kind_spelled schema number (record { 0 = j }) m.kind m.inverse (lawful_member schema number ty.members h.members j m e).inverse))))

pub naming_spelled : (schema : Schema) → IsLawful schema → spelled_types (naming schema) ≡ schema_lines schema
naming_spelled schema lawful =
    flat_map_through spelled_type (naming_type schema) (type_lines schema) schema.types
    (All_by_place (λ (t : TypeDef). spelled_type (naming_type schema t) ≡ type_lines schema t) schema.types
    (λ k t e. type_spelled schema (record { 0 = k + 1 }) t (lawful_type schema lawful k t e)))

-- ---- resolved

number_again : (schema : Schema) → IsLawful schema → (number : TypeNo) → IsType schema number.0 → type_number (naming schema) (type_name schema number) ≡ number
number_again schema lawful number h = let t = type_there schema number.0 h in type_number_again schema lawful number t.0 t.1

kind_again : (schema : Schema) → IsLawful schema → (kind : MemberKind) (inverse : Option Inverse) → IsLawfulKind schema kind → resolved_kind (naming schema) (naming_kind schema kind inverse) ≡ kind
kind_again schema lawful kinds.Int inverse h = refl
kind_again schema lawful (kinds.Text max) inverse h = refl
kind_again schema lawful (kinds.Ref target) inverse h = λ i. kinds.Ref (number_again schema lawful target h i)
kind_again schema lawful (kinds.Set target) inverse h = λ i. kinds.Set (number_again schema lawful target h i)
kind_again schema lawful (kinds.List target) inverse h = λ i. kinds.List (number_again schema lawful target h i)
kind_again schema lawful (kinds.DictInt target) inverse h = λ i. kinds.DictInt (number_again schema lawful target h i)
kind_again schema lawful (kinds.DictText target) inverse h = λ i. kinds.DictText (number_again schema lawful target h i)

link_again : (schema : Schema) → IsLawful schema → (ty : TypeNo) (number : MemberNo) (kind : MemberKind) (inverse : Inverse) → IsTwoSided schema ty number kind inverse
    → resolved_inverse (naming schema) (naming_inverse schema (Some inverse)) ≡ Some inverse
link_again schema lawful ty number kind inverse k =
    let m = member_stands schema inverse.ty inverse.member k.named.other k.named.there in
    let type_again = type_number_again schema lawful inverse.ty m.ty m.type_there in
    let member_again = member_number_again schema lawful inverse.ty inverse.member k.named.other k.named.there in
    λ i. Some (record { ty = type_again i; member = member_again i })

inverse_again : (schema : Schema) → IsLawful schema → (ty : TypeNo) (number : MemberNo) (kind : MemberKind) (inverse : Option Inverse) → IsLawfulInverse schema ty number kind inverse
    → resolved_inverse (naming schema) (inverse_named (naming_kind schema kind inverse)) ≡ inverse
inverse_again schema lawful ty number kinds.Int None k = refl
inverse_again schema lawful ty number (kinds.Text max) None k = refl
inverse_again schema lawful ty number (kinds.Ref target) None k = refl
inverse_again schema lawful ty number (kinds.Set target) None k = refl
inverse_again schema lawful ty number (kinds.List target) None k = refl
inverse_again schema lawful ty number (kinds.DictInt target) None k = refl
inverse_again schema lawful ty number (kinds.DictText target) None k = refl
inverse_again schema lawful ty number (kinds.Ref target) (Some inverse) k = link_again schema lawful ty number (kinds.Ref target) inverse k
inverse_again schema lawful ty number (kinds.Set target) (Some inverse) k = link_again schema lawful ty number (kinds.Set target) inverse k
inverse_again schema lawful ty number kinds.Int (Some inverse) k = absurd (none-some inverse.ty k.leads)
inverse_again schema lawful ty number (kinds.Text max) (Some inverse) k = absurd (none-some inverse.ty k.leads)
inverse_again schema lawful ty number (kinds.List target) (Some inverse) k = absurd (none-some inverse.ty k.leads)
inverse_again schema lawful ty number (kinds.DictInt target) (Some inverse) k = absurd (none-some inverse.ty k.leads)
inverse_again schema lawful ty number (kinds.DictText target) (Some inverse) k = absurd (none-some inverse.ty k.leads)

member_again : (schema : Schema) → IsLawful schema → (ty : TypeNo) (number : MemberNo) (member : MemberDef) → IsLawfulMember schema ty number member
    → resolved_member (naming schema) (naming_member schema member) ≡ member
member_again schema lawful ty number member h = λ i. record {
  name = member.name;
  kind = kind_again schema lawful member.kind member.inverse h.kind i;
  inverse = inverse_again schema lawful ty number member.kind member.inverse h.inverse i;
}

members_again : (schema : Schema) → IsLawful schema → (number : TypeNo) (ty : TypeDef) → IsLawfulType schema number ty
    → map (resolved_member (naming schema)) (map (naming_member schema) ty.members) ≡ ty.members
members_again schema lawful number ty h =
    map_map (resolved_member (naming schema)) (naming_member schema) ty.members
    ∙ map_same (λ (m : MemberDef). resolved_member (naming schema) (naming_member schema m)) ty.members
    (All_by_place (λ (m : MemberDef). resolved_member (naming schema) (naming_member schema m) ≡ m) ty.members
    (λ j m e. member_again schema lawful number (record { 0 = j }) m (lawful_member schema number ty.members h.members j m e)))

type_again : (schema : Schema) → IsLawful schema → (number : TypeNo) (ty : TypeDef) → IsLawfulType schema number ty → resolved_type (naming schema) (naming_type schema ty) ≡ ty
type_again schema lawful number ty h = λ i. record { name = ty.name; members = members_again schema lawful number ty h i }

types_again : (schema : Schema) → IsLawful schema → map (resolved_type (naming schema)) (naming schema) ≡ schema.types
types_again schema lawful =
    map_map (resolved_type (naming schema)) (naming_type schema) schema.types
    ∙ map_same (λ (t : TypeDef). resolved_type (naming schema) (naming_type schema t)) schema.types
    (All_by_place (λ (t : TypeDef). resolved_type (naming schema) (naming_type schema t) ≡ t) schema.types
    (λ k t e. type_again schema lawful (record { 0 = k + 1 }) t (lawful_type schema lawful k t e)))

pub naming_resolved : (schema : Schema) → IsLawful schema → resolved (naming schema) ≡ schema
naming_resolved schema lawful = λ i. record { types = types_again schema lawful i }

-- ---- without a fault: sizes and targets

kind_sizes : (schema : Schema) (kind : MemberKind) (inverse : Option Inverse) → declared_size (naming_kind schema kind inverse) ≡ kind_size kind
kind_sizes schema kinds.Int inverse = refl
kind_sizes schema (kinds.Text max) inverse = refl
kind_sizes schema (kinds.Ref target) inverse = refl
kind_sizes schema (kinds.Set target) inverse = refl
kind_sizes schema (kinds.List target) inverse = refl
kind_sizes schema (kinds.DictInt target) inverse = refl
kind_sizes schema (kinds.DictText target) inverse = refl

member_sizes : (schema : Schema) (members : List MemberDef) → declared_sizes (map (naming_member schema) members) ≡ sizes members
member_sizes schema [] = refl
member_sizes schema (member ∷ members) = rw (kind_sizes schema member.kind member.inverse, member_sizes schema members) refl

cell_fits : (schema : Schema) (members : List MemberDef) → cell_size members ≤ 1000 → declared_sizes (map (naming_member schema) members) ≤ 1000
cell_fits schema [] h = omega arith
cell_fits schema (member ∷ members) h = rw (member_sizes schema (member ∷ members)) h

type_named_there : (schema : Schema) → IsLawful schema → (number : TypeNo) → IsType schema number.0 → (ty : TypeDeclaration) × (type_named (naming schema) (type_name schema number) ≡ Some ty)
type_named_there schema lawful number h = let t = type_there schema number.0 h in (naming_type schema t.0, type_named_again schema lawful number t.0 t.1)

target_there : (schema : Schema) → IsLawful schema → (kind : MemberKind) (inverse : Option Inverse) → IsLawfulKind schema kind → IsTargetThere (naming schema) (target_named (naming_kind schema kind inverse))
target_there schema lawful kinds.Int inverse h = tt
target_there schema lawful (kinds.Text max) inverse h = tt
target_there schema lawful (kinds.Ref target) inverse h = type_named_there schema lawful target h
target_there schema lawful (kinds.Set target) inverse h = type_named_there schema lawful target h
target_there schema lawful (kinds.List target) inverse h = type_named_there schema lawful target h
target_there schema lawful (kinds.DictInt target) inverse h = type_named_there schema lawful target h
target_there schema lawful (kinds.DictText target) inverse h = type_named_there schema lawful target h

-- ---- inverses

link_side : (schema : Schema) (target : TypeNo) (inverse : Inverse) (ty : TypeNo) (number : MemberNo) (type_word member_word : List ℕ)
    → target ≡ ty → inverse ≡ inverse_of ty number → type_name schema ty ≡ type_word → member_name schema ty number ≡ member_word
    → (bytes_eq (type_name schema target) type_word && (bytes_eq (type_name schema inverse.ty) type_word && bytes_eq (member_name schema inverse.ty inverse.member) member_word)) ≡ true
link_side schema target inverse ty number type_word member_word leads back named word =
    let first = same_bytes (type_name schema target) type_word (ap (type_name schema) leads ∙ named) in
    let second = same_bytes (type_name schema inverse.ty) type_word (ap (λ (x : Inverse). type_name schema x.ty) back ∙ named) in
    let third = same_bytes (member_name schema inverse.ty inverse.member) member_word (ap (λ (x : Inverse). member_name schema x.ty x.member) back ∙ word) in
    and_from (bytes_eq (type_name schema target) type_word) (bytes_eq (type_name schema inverse.ty) type_word && bytes_eq (member_name schema inverse.ty inverse.member) member_word)
    first (and_from (bytes_eq (type_name schema inverse.ty) type_word) (bytes_eq (member_name schema inverse.ty inverse.member) member_word) second third)

-- what leads to a type and names its member as the inverse is a side of that link by its names
side_again : (schema : Schema) (kind : MemberKind) (inverse : Option Inverse) (ty : TypeNo) (number : MemberNo) (type_word member_word : List ℕ)
    → link_target kind ≡ Some ty → inverse ≡ Some (inverse_of ty number) → type_name schema ty ≡ type_word → member_name schema ty number ≡ member_word
    → is_side_of (naming_kind schema kind inverse) type_word member_word ≡ true
side_again schema kind None ty number type_word member_word leads back named member_named = absurd (none-some (inverse_of ty number) back)
side_again schema (kinds.Ref target) (Some inverse) ty number type_word member_word leads back named member_named =
    link_side schema target inverse ty number type_word member_word (same_Some target ty leads) (same_Some inverse (inverse_of ty number) back) named member_named
side_again schema (kinds.Set target) (Some inverse) ty number type_word member_word leads back named member_named =
    link_side schema target inverse ty number type_word member_word (same_Some target ty leads) (same_Some inverse (inverse_of ty number) back) named member_named
side_again schema kinds.Int (Some inverse) ty number type_word member_word leads back named member_named = absurd (none-some ty leads)
side_again schema (kinds.Text max) (Some inverse) ty number type_word member_word leads back named member_named = absurd (none-some ty leads)
side_again schema (kinds.List target) (Some inverse) ty number type_word member_word leads back named member_named = absurd (none-some ty leads)
side_again schema (kinds.DictInt target) (Some inverse) ty number type_word member_word leads back named member_named = absurd (none-some ty leads)
side_again schema (kinds.DictText target) (Some inverse) ty number type_word member_word leads back named member_named = absurd (none-some ty leads)

-- a member with the names of the member at two places has its numbers
same_numbers : (schema : Schema) → IsLawful schema → (k : ℕ) (ty : TypeDef) (j : ℕ) (member : MemberDef) (number : TypeNo) (m : MemberNo) (other : MemberDef)
    → slice_get schema.types k ≡ Some ty → slice_get ty.members j ≡ Some member → member_at schema number m ≡ Some other
    → type_name schema number ≡ ty.name → member_name schema number m ≡ member.name
    → inverse_of number m ≡ inverse_of (record { 0 = k + 1 }) (record { 0 = j })
same_numbers schema lawful k ty j member number m other e f there type_same member_same =
    let at = member_stands schema number m other there in
    let s = stands schema number at.ty at.type_there in
    let k_is : s.place ≡ k = same_place (λ (t : TypeDef). t.name) schema.types s.place k at.ty ty lawful.own_names s.there e (sym (name_of_number schema number at.ty at.type_there) ∙ type_same) in
    let is_ty : at.ty ≡ ty = same_Some at.ty ty (sym s.there ∙ ap (λ (n : ℕ). slice_get schema.types n) k_is ∙ e) in
    let there_too : slice_get ty.members m.0 ≡ Some other = sym (ap (λ (t : TypeDef). slice_get t.members m.0) is_ty) ∙ at.there in
    let j_is : m.0 ≡ j = same_place (λ (x : MemberDef). x.name) ty.members m.0 j other member (lawful_type schema lawful k ty e).own_names there_too f
    (sym (name_of_numbers schema number m other there) ∙ member_same) in
    let number_is : number ≡ record { 0 = k + 1 } = s.number_is ∙ (λ i. record { 0 = k_is i + 1 }) in
    λ i. inverse_of (number_is i) (record { 0 = j_is i })

not_this : (schema : Schema) → IsLawful schema → (k : ℕ) (ty : TypeDef) (j : ℕ) (member : MemberDef) (kind : MemberKind) (inverse : Inverse)
    → slice_get schema.types k ≡ Some ty → slice_get ty.members j ≡ Some member → IsTwoSided schema (record { 0 = k + 1 }) (record { 0 = j }) kind inverse
    → (bytes_eq (type_name schema inverse.ty) ty.name && bytes_eq (member_name schema inverse.ty inverse.member) member.name) ≡ false
not_this schema lawful k ty j member kind inverse e f two =
    false_from_ne_true (bytes_eq (type_name schema inverse.ty) ty.name && bytes_eq (member_name schema inverse.ty inverse.member) member.name) (λ h.
    let p = and_parts (bytes_eq (type_name schema inverse.ty) ty.name) (bytes_eq (member_name schema inverse.ty inverse.member) member.name) h in
    two.apart (same_numbers schema lawful k ty j member inverse.ty inverse.member two.named.other e f two.named.there
    (bytes_same (type_name schema inverse.ty) ty.name p.0) (bytes_same (member_name schema inverse.ty inverse.member) member.name p.1)))

side_found : (schema : Schema) → IsLawful schema → (k : ℕ) (ty : TypeDef) (j : ℕ) (member : MemberDef) (kind : MemberKind) (inverse : Inverse)
    → slice_get schema.types k ≡ Some ty → slice_get ty.members j ≡ Some member → IsTwoSided schema (record { 0 = k + 1 }) (record { 0 = j }) kind inverse
    → is_found_side_of (member_named (members_found (type_named (naming schema) (type_name schema inverse.ty))) (member_name schema inverse.ty inverse.member)) ty.name member.name ≡ true
side_found schema lawful k ty j member kind inverse e f two =
    ap (λ (o : Option MemberDeclaration). is_found_side_of o ty.name member.name) (member_named_again schema lawful inverse.ty inverse.member two.named.other two.named.there)
    ∙ side_again schema two.named.other.kind two.named.other.inverse (record { 0 = k + 1 }) (record { 0 = j }) ty.name member.name two.named.target two.named.back
    (name_of_number schema (record { 0 = k + 1 }) ty (type_at_place schema k ty e))
    (name_of_numbers schema (record { 0 = k + 1 }) (record { 0 = j }) member (member_at_place schema k ty j member e f))

link_there : (schema : Schema) → IsLawful schema → (k : ℕ) (ty : TypeDef) (j : ℕ) (member : MemberDef) (kind : MemberKind) (target : TypeNo) (inverse : Inverse)
    → slice_get schema.types k ≡ Some ty → slice_get ty.members j ≡ Some member → IsTwoSided schema (record { 0 = k + 1 }) (record { 0 = j }) kind inverse
    → link_target kind ≡ Some target
    → is_inverse (naming schema) ty.name member.name (type_name schema target) (record { at = 0; ty = type_name schema inverse.ty; member = member_name schema inverse.ty inverse.member }) ≡ true
unfolding is_inverse
link_there schema lawful k ty j member kind target inverse e f two leads =
    let same : inverse.ty ≡ target = same_Some inverse.ty target (sym two.leads ∙ leads) in
    let this = bytes_eq (type_name schema inverse.ty) ty.name && bytes_eq (member_name schema inverse.ty inverse.member) member.name in
    let found = is_found_side_of (member_named (members_found (type_named (naming schema) (type_name schema inverse.ty))) (member_name schema inverse.ty inverse.member)) ty.name member.name in
    and_from (bytes_eq (type_name schema inverse.ty) (type_name schema target) && not this) found
    (and_from (bytes_eq (type_name schema inverse.ty) (type_name schema target)) (not this)
    (same_bytes (type_name schema inverse.ty) (type_name schema target) (ap (type_name schema) same))
    (not_from_false this (not_this schema lawful k ty j member kind inverse e f two)))
    (side_found schema lawful k ty j member kind inverse e f two)

inverse_there : (schema : Schema) → IsLawful schema → (k : ℕ) (ty : TypeDef) (j : ℕ) (member : MemberDef) (kind : MemberKind) (inverse : Option Inverse)
    → slice_get schema.types k ≡ Some ty → slice_get ty.members j ≡ Some member → IsLawfulInverse schema (record { 0 = k + 1 }) (record { 0 = j }) kind inverse
    → IsInverseThere (naming schema) ty.name member.name (target_named (naming_kind schema kind inverse)) (inverse_named (naming_kind schema kind inverse))
inverse_there schema lawful k ty j member (kinds.Ref target) None e f h = tt
inverse_there schema lawful k ty j member (kinds.Ref target) (Some inverse) e f h = link_there schema lawful k ty j member (kinds.Ref target) target inverse e f h refl
inverse_there schema lawful k ty j member (kinds.Set target) None e f h = tt
inverse_there schema lawful k ty j member (kinds.Set target) (Some inverse) e f h = link_there schema lawful k ty j member (kinds.Set target) target inverse e f h refl
inverse_there schema lawful k ty j member kinds.Int inverse e f h = tt
inverse_there schema lawful k ty j member (kinds.Text max) inverse e f h = tt
inverse_there schema lawful k ty j member (kinds.List target) inverse e f h = tt
inverse_there schema lawful k ty j member (kinds.DictInt target) inverse e f h = tt
inverse_there schema lawful k ty j member (kinds.DictText target) inverse e f h = tt

-- ---- all of them

member_faultless : (schema : Schema) → IsLawful schema → (k : ℕ) (ty : TypeDef) (j : ℕ) (member : MemberDef)
    → slice_get schema.types k ≡ Some ty → slice_get ty.members j ≡ Some member → IsFaultlessMember (naming schema) ty.name (naming_member schema member)
member_faultless schema lawful k ty j member e f =
    let h = lawful_member schema (record { 0 = k + 1 }) ty.members (lawful_type schema lawful k ty e).members j member f in
    record {
      target = target_there schema lawful member.kind member.inverse h.kind;
      inverse = inverse_there schema lawful k ty j member member.kind member.inverse e f h.inverse;
    }

type_faultless : (schema : Schema) → IsLawful schema → (k : ℕ) (ty : TypeDef) → slice_get schema.types k ≡ Some ty → IsFaultlessType (naming schema) (naming_type schema ty)
type_faultless schema lawful k ty e =
    let h = lawful_type schema lawful k ty e in
    record {
      size = cell_fits schema ty.members h.size;
      own_names = naming_member_names schema ty.members h.own_names;
      few = rw (length-map ty.members (naming_member schema)) h.few;
      each = All_map (IsFaultlessMember (naming schema) ty.name) (naming_member schema) ty.members
          (All_by_place (λ (m : MemberDef). IsFaultlessMember (naming schema) ty.name (naming_member schema m)) ty.members (λ j m f. member_faultless schema lawful k ty j m e f));
    }

types_faultless : (schema : Schema) → IsLawful schema → AreFaultless (naming schema)
types_faultless schema lawful = record {
  own_names = pairwise_map name_of (naming_type schema) schema.types lawful.own_names;
  few = rw (length-map schema.types (naming_type schema)) lawful.few;
  each = All_map (IsFaultlessType (naming schema)) (naming_type schema) schema.types
      (All_by_place (λ (t : TypeDef). IsFaultlessType (naming schema) (naming_type schema t)) schema.types (type_faultless schema lawful));
}

pub naming_faultless : (schema : Schema) → IsLawful schema → faults_of (naming schema) ≡ []
naming_faultless schema lawful = faultless_are (naming schema) (types_faultless schema lawful)
