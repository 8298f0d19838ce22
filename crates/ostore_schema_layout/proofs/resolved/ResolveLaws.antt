-- Declarations without a fault give a lawful schema, which is spelled as they are.
use Rattle.std.proofs.Common.{◌≡◌, ℕ, zero, suc, ◌+◌, ◌≤◌, List, [], ◌∷◌, ◌++◌, Option, Some, None, refl, sym, ap, subst, ◌∙◌, arith}
use Rattle.std.specs.Prelude.{map, codes}
use Rattle.std.specs.List.{slice_get, position_or_len}
use Rattle.std.specs.Str.{bytes_eq}
use Rattle.std.specs.Option.{option_map}
use Rattle.std.proofs.lemmas.List.{length-map}
use Rattle.std.proofs.lemmas.Option.{same_Some}
use Rattle.ostore_text_words.specs.Words.{dotted}
use Rattle.ostore_schema_layout.specs.declared.schema.Schema.{Schema}
use Rattle.ostore_schema_layout.specs.declared.schema.TypeDef.{TypeDef}
use Rattle.ostore_schema_layout.specs.declared.schema.TypeNo.{TypeNo}
use Rattle.ostore_schema_layout.specs.declared.schema.MemberDef.{MemberDef}
use Rattle.ostore_schema_layout.specs.declared.schema.MemberKind.{MemberKind}
use Rattle.ostore_schema_layout.specs.declared.schema.Inverse.{Inverse}
use Rattle.ostore_schema_layout.specs.declared.declarations.NameAt.{NameAt}
use Rattle.ostore_schema_layout.specs.declared.declarations.TypeDeclaration.{TypeDeclaration}
use Rattle.ostore_schema_layout.specs.declared.declarations.MemberDeclaration.{MemberDeclaration}
use Rattle.ostore_schema_layout.specs.declared.declarations.KindDeclaration.{KindDeclaration}
use Rattle.ostore_schema_layout.specs.declared.declarations.KindDeclaration.TheVariants as declared
use Rattle.ostore_schema_layout.specs.declared.declarations.InverseDeclaration.{InverseDeclaration}
use Rattle.ostore_schema_layout.specs.Cells.{ArePairwise, kind_size, sizes, cell_size}
use Rattle.ostore_schema_layout.specs.Spells.{kind_words, inverse_words, member_words, type_lines, schema_lines}
use Rattle.ostore_schema_layout.specs.Lawful.{IsLawfulKind, link_target, IsTwoSided, IsLawfulInverse, IsLawfulMember, AreLawfulMembers, IsLawfulType, AreLawfulTypes, IsLawful}
use Rattle.ostore_schema_layout.specs.Faults.{type_named, target_named, inverse_named, declared_size, declared_sizes, members_found, member_named, faults_of, first_of}
use Rattle.ostore_schema_layout.specs.Resolved.{type_number, member_number, resolved_kind, resolved_inverse, resolved_member, resolved_type, resolved}
use Rattle.ostore_schema_layout.proofs.spelled.Declared.{spelled_inverse, spelled_kind, spelled_member, spelled_type, spelled_types, IsNamedKind, IsNamedMember, IsNamedType, AreNamed}
use Rattle.ostore_schema_layout.proofs.resolved.ResolveLawsLists.{All_at, All_then, map_through, flat_map_through, unmapped_at, found_place, Differ, pairwise_map}
use Rattle.ostore_schema_layout.proofs.resolved.ResolveLawsFaults.{no_first, IsTargetThere, IsInverseThere, IsFaultlessMember, IsFaultlessType, AreFaultless, are_faultless}
use Rattle.ostore_schema_layout.proofs.resolved.ResolveLawsNames.{name_of, own_name, number_is_type, name_found, type_name_again, member_of_number, member_found, member_name_again, type_behind, own_type_number, own_inverse, IsPartner, partner}

-- ---- sizes

kind_sizes : (types : List TypeDeclaration) (kind : KindDeclaration) → kind_size (resolved_kind types kind) ≡ declared_size kind
kind_sizes types declared.Int = refl
kind_sizes types (declared.Text max) = refl
kind_sizes types (declared.Ref target inverse) = refl
kind_sizes types (declared.Set target inverse) = refl
kind_sizes types (declared.List target) = refl
kind_sizes types (declared.DictInt target) = refl
kind_sizes types (declared.DictText target) = refl

pub member_sizes : (types : List TypeDeclaration) (members : List MemberDeclaration) → sizes (map (resolved_member types) members) ≡ declared_sizes members
member_sizes types [] = refl
member_sizes types (member ∷ members) = rw (kind_sizes types member.kind, member_sizes types members) refl

cell_fits : (types : List TypeDeclaration) (members : List MemberDeclaration) → declared_sizes members ≤ 1000 → cell_size (map (resolved_member types) members) ≤ 1000
cell_fits types [] h = omega arith
cell_fits types (member ∷ members) h = rw (member_sizes types (member ∷ members)) h

-- ---- kinds

kind_lawful : (types : List TypeDeclaration) (kind : KindDeclaration) → IsNamedKind kind → IsTargetThere types (target_named kind) → IsLawfulKind (resolved types) (resolved_kind types kind)
kind_lawful types declared.Int named there = tt
kind_lawful types (declared.Text max) named there = named
kind_lawful types (declared.Ref target inverse) named there = number_is_type types target.name there.0 there.1
kind_lawful types (declared.Set target inverse) named there = number_is_type types target.name there.0 there.1
kind_lawful types (declared.List target) named there = number_is_type types target.name there.0 there.1
kind_lawful types (declared.DictInt target) named there = number_is_type types target.name there.0 there.1
kind_lawful types (declared.DictText target) named there = number_is_type types target.name there.0 there.1

-- ---- inverses

-- an inverse with the numbers of a member has its names
same_names : (types : List TypeDeclaration) (k : ℕ) (ty : TypeDeclaration) (j : ℕ) (member : MemberDeclaration) (inverse : InverseDeclaration) (other : MemberDeclaration)
    → slice_get types k ≡ Some ty → slice_get ty.members j ≡ Some member
    → member_named (members_found (type_named types inverse.ty)) inverse.member ≡ Some other
    → (type_number types inverse.ty).0 ≡ k + 1 → (member_number (members_found (type_named types inverse.ty)) inverse.member).0 ≡ j
    → (inverse.ty ≡ ty.name.name) × (inverse.member ≡ member.name.name)
same_names types k ty j member inverse other e f there same_k same_j =
    let behind = type_behind (type_named types inverse.ty) inverse.member other there in
    let found : TypeDeclaration = behind.0 in
    let place : slice_get types (position_or_len (λ (t : TypeDeclaration). bytes_eq t.name.name inverse.ty) types) ≡ Some found
    = found_place (λ (t : TypeDeclaration). bytes_eq t.name.name inverse.ty) types found behind.1 in
    let k_is : position_or_len (λ (t : TypeDeclaration). bytes_eq t.name.name inverse.ty) types ≡ k = omega arith in
    let is_ty : found ≡ ty = same_Some found ty (sym place ∙ ap (λ (n : ℕ). slice_get types n) k_is ∙ e) in
    let members : members_found (type_named types inverse.ty) ≡ ty.members = ap members_found behind.1 ∙ ap (λ (t : TypeDeclaration). t.members) is_ty in
    let at : slice_get (members_found (type_named types inverse.ty)) (position_or_len (λ (m : MemberDeclaration). bytes_eq m.name.name inverse.member) (members_found (type_named types inverse.ty))) ≡ Some other
    = found_place (λ (m : MemberDeclaration). bytes_eq m.name.name inverse.member) (members_found (type_named types inverse.ty)) other there in
    let is_member : other ≡ member = same_Some other member (sym at ∙ (λ i. slice_get (members i) (same_j i)) ∙ f) in (
      sym (name_found types inverse.ty found behind.1) ∙ ap (λ (t : TypeDeclaration). t.name.name) is_ty,
      sym (member_found (members_found (type_named types inverse.ty)) inverse.member other there) ∙ ap (λ (m : MemberDeclaration). m.name.name) is_member,
    )

two_sided : (types : List TypeDeclaration) (k : ℕ) (ty : TypeDeclaration) (j : ℕ) (member : MemberDeclaration) (kind : MemberKind) (target : List ℕ) (inverse : InverseDeclaration)
    → ArePairwise (Differ name_of) types → slice_get types k ≡ Some ty → ArePairwise (Differ own_name) ty.members → slice_get ty.members j ≡ Some member
    → link_target kind ≡ Some (type_number types target)
    → IsPartner types ty.name.name member.name.name target inverse
    → IsTwoSided (resolved types) (record { 0 = k + 1 }) (record { 0 = j }) kind
    (record { ty = type_number types inverse.ty; member = member_number (members_found (type_named types inverse.ty)) inverse.member })
two_sided types k ty j member kind target inverse d e md f leads p = record {
  leads = leads ∙ ap (λ (n : List ℕ). Some (type_number types n)) (sym p.same);
  named = record {
    other = resolved_member types p.other;
    there = member_of_number types inverse.ty inverse.member ∙ ap (option_map (resolved_member types)) p.there;
    target = p.side.leads ∙ ap (λ (n : TypeNo). Some n) (own_type_number types k ty d e);
    back = ap (resolved_inverse types) p.side.named ∙ own_inverse types k ty j member p.side.back d e md f p.side.back_ty p.side.back_member;
  };
  apart = λ same.
      let names = same_names types k ty j member inverse p.other e f p.there (ap (λ (x : Inverse). x.ty.0) same) (ap (λ (x : Inverse). x.member.0) same) in
      p.apart names.0 names.1;
}

link_lawful : (types : List TypeDeclaration) (k : ℕ) (ty : TypeDeclaration) (j : ℕ) (member : MemberDeclaration) (kind : MemberKind) (target : NameAt) (inverse : Option InverseDeclaration)
    → ArePairwise (Differ name_of) types → slice_get types k ≡ Some ty → ArePairwise (Differ own_name) ty.members → slice_get ty.members j ≡ Some member
    → link_target kind ≡ Some (type_number types target.name)
    → IsInverseThere types ty.name.name member.name.name (Some target) inverse
    → IsLawfulInverse (resolved types) (record { 0 = k + 1 }) (record { 0 = j }) kind (resolved_inverse types inverse)
link_lawful types k ty j member kind target None d e md f leads there = tt
link_lawful types k ty j member kind target (Some inverse) d e md f leads there =
    two_sided types k ty j member kind target.name inverse d e md f leads (partner types ty.name.name member.name.name target.name inverse there)

inverse_lawful : (types : List TypeDeclaration) (k : ℕ) (ty : TypeDeclaration) (j : ℕ) (member : MemberDeclaration) (kind : KindDeclaration)
    → ArePairwise (Differ name_of) types → slice_get types k ≡ Some ty → ArePairwise (Differ own_name) ty.members → slice_get ty.members j ≡ Some member
    → IsInverseThere types ty.name.name member.name.name (target_named kind) (inverse_named kind)
    → IsLawfulInverse (resolved types) (record { 0 = k + 1 }) (record { 0 = j }) (resolved_kind types kind) (resolved_inverse types (inverse_named kind))
inverse_lawful types k ty j member declared.Int d e md f there = tt
inverse_lawful types k ty j member (declared.Text max) d e md f there = tt
inverse_lawful types k ty j member (declared.Ref target inverse) d e md f there = link_lawful types k ty j member (resolved_kind types (declared.Ref target inverse)) target inverse d e md f refl there
inverse_lawful types k ty j member (declared.Set target inverse) d e md f there = link_lawful types k ty j member (resolved_kind types (declared.Set target inverse)) target inverse d e md f refl there
inverse_lawful types k ty j member (declared.List target) d e md f there = tt
inverse_lawful types k ty j member (declared.DictInt target) d e md f there = tt
inverse_lawful types k ty j member (declared.DictText target) d e md f there = tt

-- ---- members and types by their numbers

pub members_by_number : (schema : Schema) (ty : TypeNo) (number : ℕ) (members : List MemberDef)
    → ((j : ℕ) (member : MemberDef) → slice_get members j ≡ Some member → IsLawfulMember schema ty (record { 0 = j + number }) member)
    → AreLawfulMembers schema ty number members
members_by_number schema ty number [] h = tt
members_by_number schema ty number (member ∷ members) h = (
  subst (λ (n : ℕ). IsLawfulMember schema ty (record { 0 = n }) member) (omega arith) (h zero member refl),
  members_by_number schema ty (suc number) members (λ j m e. subst (λ (n : ℕ). IsLawfulMember schema ty (record { 0 = n }) m) (omega arith) (h (suc j) m e)),
)

pub types_by_number : (schema : Schema) (number : ℕ) (types : List TypeDef)
    → ((k : ℕ) (ty : TypeDef) → slice_get types k ≡ Some ty → IsLawfulType schema (record { 0 = k + number }) ty)
    → AreLawfulTypes schema number types
types_by_number schema number [] h = tt
types_by_number schema number (ty ∷ types) h = (
  subst (λ (n : ℕ). IsLawfulType schema (record { 0 = n }) ty) (omega arith) (h zero ty refl),
  types_by_number schema (suc number) types (λ k t e. subst (λ (n : ℕ). IsLawfulType schema (record { 0 = n }) t) (omega arith) (h (suc k) t e)),
)

member_lawful : (types : List TypeDeclaration) (k : ℕ) (ty : TypeDeclaration) (j : ℕ) (member : MemberDeclaration)
    → ArePairwise (Differ name_of) types → slice_get types k ≡ Some ty → ArePairwise (Differ own_name) ty.members → slice_get ty.members j ≡ Some member
    → IsNamedMember member → IsFaultlessMember types ty.name.name member
    → IsLawfulMember (resolved types) (record { 0 = k + 1 }) (record { 0 = j }) (resolved_member types member)
member_lawful types k ty j member d e md f named faultless = record {
  name = named.0;
  kind = kind_lawful types member.kind named.1 faultless.target;
  inverse = inverse_lawful types k ty j member member.kind d e md f faultless.inverse;
}

members_lawful : (types : List TypeDeclaration) (k : ℕ) (ty : TypeDeclaration)
    → ArePairwise (Differ name_of) types → slice_get types k ≡ Some ty → IsNamedType ty → IsFaultlessType types ty
    → AreLawfulMembers (resolved types) (record { 0 = k + 1 }) 0 (map (resolved_member types) ty.members)
members_lawful types k ty d e named faultless =
    members_by_number (resolved types) (record { 0 = k + 1 }) 0 (map (resolved_member types) ty.members) (λ j m f.
    let q = unmapped_at (resolved_member types) ty.members j m f in
    let lawful = member_lawful types k ty j q.0 d e faultless.own_names q.1 (All_at IsNamedMember ty.members j q.0 named.1 q.1)
    (All_at (IsFaultlessMember types ty.name.name) ty.members j q.0 faultless.each q.1) in
    let number : j ≡ j + 0 = omega arith in
    subst (λ (n : ℕ). IsLawfulMember (resolved types) (record { 0 = k + 1 }) (record { 0 = n }) m) number
    (subst (λ (x : MemberDef). IsLawfulMember (resolved types) (record { 0 = k + 1 }) (record { 0 = j }) x) q.2 lawful))

type_lawful : (types : List TypeDeclaration) (k : ℕ) (ty : TypeDeclaration)
    → ArePairwise (Differ name_of) types → slice_get types k ≡ Some ty → IsNamedType ty → IsFaultlessType types ty
    → IsLawfulType (resolved types) (record { 0 = k + 1 }) (resolved_type types ty)
type_lawful types k ty d e named faultless = record {
  name = named.0;
  few = rw (length-map ty.members (resolved_member types)) faultless.few;
  own_names = pairwise_map (λ (m : MemberDef). m.name) (resolved_member types) ty.members faultless.own_names;
  members = members_lawful types k ty d e named faultless;
  size = cell_fits types ty.members faultless.size;
}

types_lawful : (types : List TypeDeclaration) → AreNamed types → AreFaultless types → AreLawfulTypes (resolved types) 1 (map (resolved_type types) types)
types_lawful types named faultless =
    types_by_number (resolved types) 1 (map (resolved_type types) types) (λ k t f.
    let q = unmapped_at (resolved_type types) types k t f in
    subst (λ (x : TypeDef). IsLawfulType (resolved types) (record { 0 = k + 1 }) x) q.2
    (type_lawful types k q.0 faultless.own_names q.1 (All_at IsNamedType types k q.0 named q.1) (All_at (IsFaultlessType types) types k q.0 faultless.each q.1)))

lawful_of_faultless : (types : List TypeDeclaration) → AreNamed types → AreFaultless types → IsLawful (resolved types)
lawful_of_faultless types named faultless = record {
  few = rw (length-map types (resolved_type types)) faultless.few;
  own_names = pairwise_map (λ (t : TypeDef). t.name) (resolved_type types) types faultless.own_names;
  types = types_lawful types named faultless;
}

pub faultless_lawful : (types : List TypeDeclaration) → AreNamed types → first_of (faults_of types) ≡ None → IsLawful (resolved types)
faultless_lawful types named none = lawful_of_faultless types named (are_faultless types (no_first (faults_of types) none))

-- ---- spelled as declared

inverse_spelled : (types : List TypeDeclaration) (ty member : List ℕ) (target : NameAt) (inverse : Option InverseDeclaration)
    → IsInverseThere types ty member (Some target) inverse → inverse_words (resolved types) (resolved_inverse types inverse) ≡ spelled_inverse inverse
inverse_spelled types ty member target None there = refl
inverse_spelled types ty member target (Some inverse) there =
    let p = partner types ty member target.name inverse there in
    let behind = type_behind (type_named types inverse.ty) inverse.member p.other p.there in
    let type_again = type_name_again types inverse.ty behind.0 behind.1 in
    let member_again = member_name_again types inverse.ty inverse.member p.other p.there in
    λ i. codes "inverse" ∷ dotted (type_again i) (member_again i) ∷ []

kind_spelled : (types : List TypeDeclaration) (ty member : List ℕ) (kind : KindDeclaration)
    → IsTargetThere types (target_named kind) → IsInverseThere types ty member (target_named kind) (inverse_named kind)
    → kind_words (resolved types) (resolved_kind types kind) ++ inverse_words (resolved types) (resolved_inverse types (inverse_named kind)) ≡ spelled_kind kind
kind_spelled types ty member declared.Int there inverse_there = refl
kind_spelled types ty member (declared.Text max) there inverse_there = refl
kind_spelled types ty member (declared.Ref target inverse) there inverse_there =
    λ i. codes "ref" ∷ type_name_again types target.name there.0 there.1 i ∷ inverse_spelled types ty member target inverse inverse_there i
kind_spelled types ty member (declared.Set target inverse) there inverse_there =
    λ i. codes "set" ∷ type_name_again types target.name there.0 there.1 i ∷ inverse_spelled types ty member target inverse inverse_there i
kind_spelled types ty member (declared.List target) there inverse_there = λ i. codes "list" ∷ type_name_again types target.name there.0 there.1 i ∷ []
kind_spelled types ty member (declared.DictInt target) there inverse_there = λ i. codes "dict" ∷ codes "int" ∷ type_name_again types target.name there.0 there.1 i ∷ []
kind_spelled types ty member (declared.DictText target) there inverse_there = λ i. codes "dict" ∷ codes "text" ∷ type_name_again types target.name there.0 there.1 i ∷ []

member_spelled : (types : List TypeDeclaration) (ty : List ℕ) (member : MemberDeclaration) → IsFaultlessMember types ty member → member_words (resolved types) (resolved_member types member) ≡ spelled_member member
member_spelled types ty member h = λ i. member.name.name ∷ kind_spelled types ty member.name.name member.kind h.target h.inverse i

type_spelled : (types : List TypeDeclaration) (ty : TypeDeclaration) → IsFaultlessType types ty → type_lines (resolved types) (resolved_type types ty) ≡ spelled_type ty
type_spelled types ty h =
    ap (λ (lines : List (List (List ℕ))). (codes "type" ∷ ty.name.name ∷ []) ∷ lines)
    (map_through (member_words (resolved types)) (resolved_member types) spelled_member ty.members
    (All_then (IsFaultlessMember types ty.name.name) (λ (m : MemberDeclaration). member_words (resolved types) (resolved_member types m) ≡ spelled_member m) ty.members
    (member_spelled types ty.name.name) h.each))

spelled_of_faultless : (types : List TypeDeclaration) → AreFaultless types → schema_lines (resolved types) ≡ spelled_types types
spelled_of_faultless types h =
    flat_map_through (type_lines (resolved types)) (resolved_type types) spelled_type types
    (All_then (IsFaultlessType types) (λ (t : TypeDeclaration). type_lines (resolved types) (resolved_type types t) ≡ spelled_type t) types (type_spelled types) h.each)

pub resolved_spelled : (types : List TypeDeclaration) → AreNamed types → first_of (faults_of types) ≡ None → schema_lines (resolved types) ≡ spelled_types types
resolved_spelled types named none = spelled_of_faultless types (are_faultless types (no_first (faults_of types) none))
