-- What the numbers of resolved declarations stand for.
use Rattle.std.proofs.Common.{◌≡◌, ℕ, ◌+◌, ◌<◌, true, ◌&&◌, not, List, length, Option, Some, None, refl, sym, ap, subst, ◌∙◌, add-one, arith}
use Rattle.std.specs.Prelude.{map}
use Rattle.std.specs.List.{slice_get, position_or_len}
use Rattle.std.specs.Option.{option_map}
use Rattle.std.specs.Str.{bytes_eq}
use Rattle.std.proofs.lemmas.Bool.{and_parts, and_from, both_ways, not-true, true≢false}
use Rattle.std.proofs.lemmas.List.{length-map}
use Rattle.std.proofs.lemmas.List.Folds.{find_at}
use Rattle.std.proofs.lemmas.Option.{none-some, slice_get-map, slice_get_within}
use Rattle.ostore_schema_layout.specs.declared.schema.Schema.{Schema}
use Rattle.ostore_schema_layout.specs.declared.schema.MemberDef.{MemberDef}
use Rattle.ostore_schema_layout.specs.declared.declarations.TypeDeclaration.{TypeDeclaration}
use Rattle.ostore_schema_layout.specs.declared.declarations.MemberDeclaration.{MemberDeclaration}
use Rattle.ostore_schema_layout.specs.declared.declarations.KindDeclaration.{KindDeclaration}
use Rattle.ostore_schema_layout.specs.declared.declarations.KindDeclaration.TheVariants as declared
use Rattle.ostore_schema_layout.specs.declared.declarations.InverseDeclaration.{InverseDeclaration}
use Rattle.ostore_schema_layout.specs.Cells.{ArePairwise, IsType}
use Rattle.ostore_schema_layout.specs.Numbers.{type_at, members_of_found, name_of_type, type_name, name_of_member, member_at, member_name}
use Rattle.ostore_schema_layout.specs.Lawful.{link_target, inverse_of}
use Rattle.ostore_schema_layout.specs.Faults.{type_named, member_named, inverse_named, names_this, names_back, is_side_of, is_found_side_of, members_found, is_inverse}
use Rattle.ostore_schema_layout.specs.Resolved.{type_number, member_number, resolved_kind, resolved_inverse, resolved_member, resolved_type, resolved}
use Rattle.ostore_schema_layout.proofs.resolved.ResolveLawsLists.{bytes_same, same_bytes, find_passes, found_place, Differ, place_at, found_at}

abbrev pub name_of : TypeDeclaration → List ℕ
name_of ty = ty.name.name

abbrev pub own_name : MemberDeclaration → List ℕ
own_name member = member.name.name

-- ---- types

pub next_type : (schema : Schema) (k : ℕ) → type_at schema (k + 1) ≡ slice_get schema.types k
next_type schema k = subst (λ (n : ℕ). type_at schema n ≡ slice_get schema.types k) (sym (add-one k)) refl

pub type_of_number : (types : List TypeDeclaration) (name : List ℕ) → type_at (resolved types) (type_number types name).0 ≡ option_map (resolved_type types) (type_named types name)
type_of_number types name =
    let p = position_or_len (λ (ty : TypeDeclaration). bytes_eq ty.name.name name) types in
    next_type (resolved types) p
    ∙ slice_get-map (resolved_type types) types p
    ∙ ap (option_map (resolved_type types)) (sym (find_at (λ (ty : TypeDeclaration). bytes_eq ty.name.name name) types))

pub number_is_type : (types : List TypeDeclaration) (name : List ℕ) (ty : TypeDeclaration) → type_named types name ≡ Some ty → IsType (resolved types) (type_number types name).0
number_is_type types name ty e =
    let p = position_or_len (λ (t : TypeDeclaration). bytes_eq t.name.name name) types in
    let within : p < length types = slice_get_within types p ty (found_place (λ (t : TypeDeclaration). bytes_eq t.name.name name) types ty e) in
    let same : length (map (resolved_type types) types) ≡ length types = length-map types (resolved_type types) in
    (omega arith, omega arith)

pub name_found : (types : List TypeDeclaration) (name : List ℕ) (ty : TypeDeclaration) → type_named types name ≡ Some ty → ty.name.name ≡ name
name_found types name ty e = bytes_same ty.name.name name (find_passes (λ (t : TypeDeclaration). bytes_eq t.name.name name) types ty e)

pub type_name_again : (types : List TypeDeclaration) (name : List ℕ) (ty : TypeDeclaration) → type_named types name ≡ Some ty → type_name (resolved types) (type_number types name) ≡ name
type_name_again types name ty e =
    ap name_of_type (type_of_number types name ∙ ap (option_map (resolved_type types)) e) ∙ name_found types name ty e

-- ---- members

mapped_members : (types : List TypeDeclaration) (found : Option TypeDeclaration) → members_of_found (option_map (resolved_type types) found) ≡ map (resolved_member types) (members_found found)
mapped_members types None = refl
mapped_members types (Some ty) = refl

pub member_of_number : (types : List TypeDeclaration) (there named : List ℕ)
    → member_at (resolved types) (type_number types there) (member_number (members_found (type_named types there)) named)
    ≡ option_map (resolved_member types) (member_named (members_found (type_named types there)) named)
member_of_number types there named =
    let members = members_found (type_named types there) in
    let p = position_or_len (λ (m : MemberDeclaration). bytes_eq m.name.name named) members in
    ap (λ (l : List MemberDef). slice_get l p) (ap members_of_found (type_of_number types there) ∙ mapped_members types (type_named types there))
    ∙ slice_get-map (resolved_member types) members p
    ∙ ap (option_map (resolved_member types)) (sym (find_at (λ (m : MemberDeclaration). bytes_eq m.name.name named) members))

pub member_found : (members : List MemberDeclaration) (name : List ℕ) (member : MemberDeclaration) → member_named members name ≡ Some member → member.name.name ≡ name
member_found members name member e = bytes_same member.name.name name (find_passes (λ (m : MemberDeclaration). bytes_eq m.name.name name) members member e)

pub member_name_again : (types : List TypeDeclaration) (there named : List ℕ) (member : MemberDeclaration) → member_named (members_found (type_named types there)) named ≡ Some member
    → member_name (resolved types) (type_number types there) (member_number (members_found (type_named types there)) named) ≡ named
member_name_again types there named member e =
    ap name_of_member (member_of_number types there named ∙ ap (option_map (resolved_member types)) e)
    ∙ member_found (members_found (type_named types there)) named member e

-- a member is found in a type that is found
pub type_behind : (found : Option TypeDeclaration) (name : List ℕ) (member : MemberDeclaration) → member_named (members_found found) name ≡ Some member → (ty : TypeDeclaration) × (found ≡ Some ty)
type_behind None name member e = absurd (none-some member e)
type_behind (Some ty) name member e = (ty, refl)

-- ---- what stands at a place

pub own_type_number : (types : List TypeDeclaration) (k : ℕ) (ty : TypeDeclaration) → ArePairwise (Differ name_of) types → slice_get types k ≡ Some ty → type_number types ty.name.name ≡ record { 0 = k + 1 }
own_type_number types k ty d e = λ i. record { 0 = place_at name_of types k ty d e i + 1 }

pub own_type_found : (types : List TypeDeclaration) (k : ℕ) (ty : TypeDeclaration) → ArePairwise (Differ name_of) types → slice_get types k ≡ Some ty → type_named types ty.name.name ≡ Some ty
own_type_found types k ty d e = found_at name_of types k ty d e

pub own_member_number : (members : List MemberDeclaration) (k : ℕ) (member : MemberDeclaration) → ArePairwise (Differ own_name) members → slice_get members k ≡ Some member → member_number members member.name.name ≡ record { 0 = k }
own_member_number members k member d e = λ i. record { 0 = place_at own_name members k member d e i }

pub own_inverse : (types : List TypeDeclaration) (k : ℕ) (ty : TypeDeclaration) (j : ℕ) (member : MemberDeclaration) (inverse : InverseDeclaration)
    → ArePairwise (Differ name_of) types → slice_get types k ≡ Some ty → ArePairwise (Differ own_name) ty.members → slice_get ty.members j ≡ Some member
    → inverse.ty ≡ ty.name.name → inverse.member ≡ member.name.name
    → resolved_inverse types (Some inverse) ≡ Some (inverse_of (record { 0 = k + 1 }) (record { 0 = j }))
own_inverse types k ty j member inverse d e md me same_ty same_member =
    let number = ap (λ (n : List ℕ). type_number types n) same_ty ∙ own_type_number types k ty d e in
    let found = ap (λ (n : List ℕ). type_named types n) same_ty ∙ own_type_found types k ty d e in
    let place =
    ap (λ (o : Option TypeDeclaration). member_number (members_found o) inverse.member) found
    ∙ ap (λ (n : List ℕ). member_number ty.members n) same_member
    ∙ own_member_number ty.members j member md me in
    λ i. Some (inverse_of (number i) (place i))

-- ---- the other side of a link

-- the kind is a link to the type, and its inverse is that member of it
pub record IsSide (types : List TypeDeclaration) (kind : KindDeclaration) (ty member : List ℕ) : Type 0 where
  pub back : InverseDeclaration
  pub leads : link_target (resolved_kind types kind) ≡ Some (type_number types ty)
  pub named : inverse_named kind ≡ Some back
  pub back_ty : back.ty ≡ ty
  pub back_member : back.member ≡ member

named_this : (inverse : InverseDeclaration) (ty member : List ℕ) → names_this inverse ty member ≡ true → (inverse.ty ≡ ty) × (inverse.member ≡ member)
named_this inverse ty member h =
    let p = and_parts (bytes_eq inverse.ty ty) (bytes_eq inverse.member member) h in
    (bytes_same inverse.ty ty p.0, bytes_same inverse.member member p.1)

named_back : (inverse : Option InverseDeclaration) (ty member : List ℕ) → names_back inverse ty member ≡ true → (back : InverseDeclaration) × (inverse ≡ Some back) × (back.ty ≡ ty) × (back.member ≡ member)
named_back None ty member h = absurd (true≢false (sym h))
named_back (Some inverse) ty member h = let p = named_this inverse ty member h in (inverse, refl, p.0, p.1)

side : (types : List TypeDeclaration) (kind : KindDeclaration) (ty member : List ℕ) → is_side_of kind ty member ≡ true → IsSide types kind ty member
side types (declared.Ref target inverse) ty member h =
    let p = and_parts (bytes_eq target.name ty) (names_back inverse ty member) h in
    let q = named_back inverse ty member p.1 in
    record { back = q.0; leads = ap (λ (n : List ℕ). Some (type_number types n)) (bytes_same target.name ty p.0); named = q.1; back_ty = q.2; back_member = q.3 }
side types (declared.Set target inverse) ty member h =
    let p = and_parts (bytes_eq target.name ty) (names_back inverse ty member) h in
    let q = named_back inverse ty member p.1 in
    record { back = q.0; leads = ap (λ (n : List ℕ). Some (type_number types n)) (bytes_same target.name ty p.0); named = q.1; back_ty = q.2; back_member = q.3 }
side types declared.Int ty member h = absurd (true≢false (sym h))
side types (declared.Text max) ty member h = absurd (true≢false (sym h))
side types (declared.List target) ty member h = absurd (true≢false (sym h))
side types (declared.DictInt target) ty member h = absurd (true≢false (sym h))
side types (declared.DictText target) ty member h = absurd (true≢false (sym h))

found_side : (types : List TypeDeclaration) (found : Option MemberDeclaration) (ty member : List ℕ) → is_found_side_of found ty member ≡ true → (other : MemberDeclaration) × (found ≡ Some other) × IsSide types other.kind ty member
found_side types None ty member h = absurd (true≢false (sym h))
found_side types (Some other) ty member h = (other, refl, side types other.kind ty member h)

-- what is true of an inverse
pub record IsPartner (types : List TypeDeclaration) (ty member target : List ℕ) (inverse : InverseDeclaration) : Type 0 where
  pub same : inverse.ty ≡ target
  pub apart : inverse.ty ≡ ty → inverse.member ≡ member → ⊥
  pub other : MemberDeclaration
  pub there : member_named (members_found (type_named types inverse.ty)) inverse.member ≡ Some other
  pub side : IsSide types other.kind ty member

pub partner : (types : List TypeDeclaration) (ty member target : List ℕ) (inverse : InverseDeclaration) → is_inverse types ty member target inverse ≡ true → IsPartner types ty member target inverse
unfolding is_inverse
partner types ty member target inverse h =
    let found = member_named (members_found (type_named types inverse.ty)) inverse.member in
    let p = and_parts (bytes_eq inverse.ty target && not (names_this inverse ty member)) (is_found_side_of found ty member) h in
    let q = and_parts (bytes_eq inverse.ty target) (not (names_this inverse ty member)) p.0 in
    let s = found_side types found ty member p.1 in
    record {
      same = bytes_same inverse.ty target q.0;
      apart = λ a b. both_ways (names_this inverse ty member) (not-true (names_this inverse ty member) q.1)
          (and_from (bytes_eq inverse.ty ty) (bytes_eq inverse.member member) (same_bytes inverse.ty ty a) (same_bytes inverse.member member b));
      other = s.0;
      there = s.1;
      side = s.2;
    }
