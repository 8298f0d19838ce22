-- The places of names change neither whether there is a fault nor what declarations mean.
use Rattle.std.proofs.Common.{◌≡◌, ℕ, ◌+◌, Bool, ◌&&◌, not, ltb, leb, List, [], ◌∷◌, ◌++◌, Option, Some, None, refl, sym, ap, ◌∙◌}
use Rattle.std.specs.Prelude.{map}
use Rattle.std.specs.Option.{option_map}
use Rattle.std.specs.Str.{bytes_eq}
use Rattle.std.proofs.lemmas.List.{length-map}
use Rattle.ostore_schema_layout.specs.declared.schema.MemberKind.TheVariants as kinds
use Rattle.ostore_schema_layout.specs.declared.declarations.NameAt.{NameAt}
use Rattle.ostore_schema_layout.specs.declared.declarations.TypeDeclaration.{TypeDeclaration}
use Rattle.ostore_schema_layout.specs.declared.declarations.MemberDeclaration.{MemberDeclaration}
use Rattle.ostore_schema_layout.specs.declared.declarations.KindDeclaration.{KindDeclaration}
use Rattle.ostore_schema_layout.specs.declared.declarations.KindDeclaration.TheVariants as declared
use Rattle.ostore_schema_layout.specs.declared.declarations.InverseDeclaration.{InverseDeclaration}
use Rattle.ostore_schema_layout.specs.declared.fault.SchemaFault.{SchemaFault}
use Rattle.ostore_schema_layout.specs.Faults.{type_named, member_named, is_there, target_named, inverse_named, declared_size, declared_sizes, names_back, is_side_of, is_found_side_of, members_found, is_inverse, fault_if, target_faults, inverse_faults, member_faults, members_faults, name_faults, types_faults, faults_of}
use Rattle.ostore_schema_layout.specs.Resolved.{type_number, member_number, resolved_kind, resolved_inverse, resolved_member, resolved_type, resolved}
use Rattle.ostore_schema_layout.proofs.spelled.Declared.{unplaced_name, unplaced_inverse, unplaced_kind, unplaced_member, unplaced_type, unplaced}
use Rattle.ostore_schema_layout.proofs.resolved.ResolveLawsLists.{find_mapped, place_mapped, there_mapped, map_map, map_alike, All_each}
use Rattle.ostore_schema_layout.proofs.resolved.ResolveLawsFaults.{clean, clean_none, none_clean, clean_append, clean_if}

-- ---- what names find

type_found : (types : List TypeDeclaration) (name : List ℕ) → type_named (unplaced types) name ≡ option_map unplaced_type (type_named types name)
type_found types name = find_mapped (λ (ty : TypeDeclaration). bytes_eq ty.name.name name) unplaced_type types

member_found : (members : List MemberDeclaration) (name : List ℕ) → member_named (map unplaced_member members) name ≡ option_map unplaced_member (member_named members name)
member_found members name = find_mapped (λ (member : MemberDeclaration). bytes_eq member.name.name name) unplaced_member members

type_there : (types : List TypeDeclaration) (name : List ℕ) → is_there (type_named (unplaced types) name) ≡ is_there (type_named types name)
type_there types name = ap is_there (type_found types name) ∙ there_mapped unplaced_type (type_named types name)

member_there : (members : List MemberDeclaration) (name : List ℕ) → is_there (member_named (map unplaced_member members) name) ≡ is_there (member_named members name)
member_there members name = ap is_there (member_found members name) ∙ there_mapped unplaced_member (member_named members name)

members_of_mapped : (found : Option TypeDeclaration) → members_found (option_map unplaced_type found) ≡ map unplaced_member (members_found found)
members_of_mapped None = refl
members_of_mapped (Some ty) = refl

found_members : (types : List TypeDeclaration) (name : List ℕ) → members_found (type_named (unplaced types) name) ≡ map unplaced_member (members_found (type_named types name))
found_members types name = ap members_found (type_found types name) ∙ members_of_mapped (type_named types name)

-- ---- inverses

inverse_of_kind : (kind : KindDeclaration) → inverse_named (unplaced_kind kind) ≡ unplaced_inverse (inverse_named kind)
inverse_of_kind declared.Int = refl
inverse_of_kind (declared.Text max) = refl
inverse_of_kind (declared.Ref target inverse) = refl
inverse_of_kind (declared.Set target inverse) = refl
inverse_of_kind (declared.List target) = refl
inverse_of_kind (declared.DictInt target) = refl
inverse_of_kind (declared.DictText target) = refl

backs_alike : (inverse : Option InverseDeclaration) (ty member : List ℕ) → names_back (unplaced_inverse inverse) ty member ≡ names_back inverse ty member
backs_alike None ty member = refl
backs_alike (Some inverse) ty member = refl

sides_alike : (kind : KindDeclaration) (ty member : List ℕ) → is_side_of (unplaced_kind kind) ty member ≡ is_side_of kind ty member
sides_alike declared.Int ty member = refl
sides_alike (declared.Text max) ty member = refl
sides_alike (declared.Ref target inverse) ty member = ap (λ (b : Bool). bytes_eq target.name ty && b) (backs_alike inverse ty member)
sides_alike (declared.Set target inverse) ty member = ap (λ (b : Bool). bytes_eq target.name ty && b) (backs_alike inverse ty member)
sides_alike (declared.List target) ty member = refl
sides_alike (declared.DictInt target) ty member = refl
sides_alike (declared.DictText target) ty member = refl

found_sides : (found : Option MemberDeclaration) (ty member : List ℕ) → is_found_side_of (option_map unplaced_member found) ty member ≡ is_found_side_of found ty member
found_sides None ty member = refl
found_sides (Some found) ty member = sides_alike found.kind ty member

sides_found : (types : List TypeDeclaration) (ty member there named : List ℕ)
    → is_found_side_of (member_named (members_found (type_named (unplaced types) there)) named) ty member
    ≡ is_found_side_of (member_named (members_found (type_named types there)) named) ty member
sides_found types ty member there named =
    ap (λ (members : List MemberDeclaration). is_found_side_of (member_named members named) ty member) (found_members types there)
    ∙ ap (λ (found : Option MemberDeclaration). is_found_side_of found ty member) (member_found (members_found (type_named types there)) named)
    ∙ found_sides (member_named (members_found (type_named types there)) named) ty member

inverses_alike : (types : List TypeDeclaration) (ty member target : List ℕ) (a b : ℕ) (there named : List ℕ)
    → is_inverse (unplaced types) ty member target (record { at = a; ty = there; member = named })
    ≡ is_inverse types ty member target (record { at = b; ty = there; member = named })
unfolding is_inverse
inverses_alike types ty member target a b there named =
    ap (λ (side : Bool). bytes_eq there target && not (bytes_eq there ty && bytes_eq named member) && side) (sides_found types ty member there named)

-- ---- faults

alike : (a b c d : List SchemaFault) → clean a ≡ clean b → clean c ≡ clean d → clean (a ++ c) ≡ clean (b ++ d)
alike a b c d h k = rw (clean_append a c, clean_append b d, h, k) refl

alike_if : (s t : Bool) (f g : SchemaFault) → s ≡ t → clean (fault_if s f) ≡ clean (fault_if t g)
alike_if s t f g e = rw (clean_if s f, clean_if t g, e) refl

targets_alike : (types : List TypeDeclaration) (kind : KindDeclaration) → clean (target_faults (unplaced types) (target_named (unplaced_kind kind))) ≡ clean (target_faults types (target_named kind))
targets_alike types declared.Int = refl
targets_alike types (declared.Text max) = refl
targets_alike types (declared.Ref target inverse) = alike_if _ _ _ _ (ap not (type_there types target.name))
targets_alike types (declared.Set target inverse) = alike_if _ _ _ _ (ap not (type_there types target.name))
targets_alike types (declared.List target) = alike_if _ _ _ _ (ap not (type_there types target.name))
targets_alike types (declared.DictInt target) = alike_if _ _ _ _ (ap not (type_there types target.name))
targets_alike types (declared.DictText target) = alike_if _ _ _ _ (ap not (type_there types target.name))

link_alike : (types : List TypeDeclaration) (ty member : List ℕ) (target : NameAt) (inverse : Option InverseDeclaration)
    → clean (inverse_faults (unplaced types) ty member (Some (unplaced_name target.name)) (unplaced_inverse inverse))
    ≡ clean (inverse_faults types ty member (Some target) inverse)
link_alike types ty member target None = refl
link_alike types ty member target (Some inverse) = alike_if _ _ _ _ (ap not (inverses_alike types ty member target.name 0 inverse.at inverse.ty inverse.member))

links_alike : (types : List TypeDeclaration) (ty member : List ℕ) (kind : KindDeclaration)
    → clean (inverse_faults (unplaced types) ty member (target_named (unplaced_kind kind)) (inverse_named (unplaced_kind kind)))
    ≡ clean (inverse_faults types ty member (target_named kind) (inverse_named kind))
links_alike types ty member declared.Int = refl
links_alike types ty member (declared.Text max) = refl
links_alike types ty member (declared.Ref target inverse) = link_alike types ty member target inverse
links_alike types ty member (declared.Set target inverse) = link_alike types ty member target inverse
links_alike types ty member (declared.List target) = refl
links_alike types ty member (declared.DictInt target) = refl
links_alike types ty member (declared.DictText target) = refl

map_push : {X Y : Type 0} (f : X → Y) (xs : List X) (x : X) → map f xs ++ f x ∷ [] ≡ map f (xs ++ x ∷ [])
map_push f [] x = refl
map_push f (y ∷ ys) x = ap (λ (r : List _). f y ∷ r) (map_push f ys x)

member_alike : (types : List TypeDeclaration) (ty : List ℕ) (earlier : List MemberDeclaration) (member : MemberDeclaration)
    → clean (member_faults (unplaced types) ty (map unplaced_member earlier) (unplaced_member member)) ≡ clean (member_faults types ty earlier member)
unfolding member_faults
member_alike types ty earlier member =
    alike _ _ _ _
    (alike _ _ _ _
    (alike _ _ _ _
    (alike_if _ _ _ _ (member_there earlier member.name.name))
    (alike_if _ _ _ _ (ap (λ (n : ℕ). leb 32 n) (length-map earlier unplaced_member))))
    (targets_alike types member.kind))
    (links_alike types ty member.name.name member.kind)

members_alike : (types : List TypeDeclaration) (ty : List ℕ) (earlier members : List MemberDeclaration)
    → clean (members_faults (unplaced types) ty (map unplaced_member earlier) (map unplaced_member members)) ≡ clean (members_faults types ty earlier members)
unfolding members_faults
members_alike types ty earlier [] = refl
members_alike types ty earlier (member ∷ members) =
    alike _ _ _ _
    (member_alike types ty earlier member)
    (ap (λ (l : List MemberDeclaration). clean (members_faults (unplaced types) ty l (map unplaced_member members))) (map_push unplaced_member earlier member)
    ∙ members_alike types ty (earlier ++ member ∷ []) members)

size_alike : (kind : KindDeclaration) → declared_size (unplaced_kind kind) ≡ declared_size kind
size_alike declared.Int = refl
size_alike (declared.Text max) = refl
size_alike (declared.Ref target inverse) = refl
size_alike (declared.Set target inverse) = refl
size_alike (declared.List target) = refl
size_alike (declared.DictInt target) = refl
size_alike (declared.DictText target) = refl

sizes_alike : (members : List MemberDeclaration) → declared_sizes (map unplaced_member members) ≡ declared_sizes members
sizes_alike [] = refl
sizes_alike (member ∷ members) = rw (size_alike member.kind, sizes_alike members) refl

name_alike : (earlier : List TypeDeclaration) (ty : TypeDeclaration) → clean (name_faults (unplaced earlier) (unplaced_type ty)) ≡ clean (name_faults earlier ty)
unfolding name_faults
name_alike earlier ty =
    alike _ _ _ _
    (alike _ _ _ _
    (alike_if _ _ _ _ (type_there earlier ty.name.name))
    (alike_if _ _ _ _ (ap (λ (n : ℕ). ltb 1000 n) (sizes_alike ty.members))))
    (alike_if _ _ _ _ (ap (λ (n : ℕ). leb 64 n) (length-map earlier unplaced_type)))

types_alike : (types earlier others : List TypeDeclaration) → clean (types_faults (unplaced types) (unplaced earlier) (unplaced others)) ≡ clean (types_faults types earlier others)
unfolding types_faults
types_alike types earlier [] = refl
types_alike types earlier (ty ∷ others) =
    alike _ _ _ _
    (alike _ _ _ _
    (name_alike earlier ty)
    (members_alike types ty.name.name [] ty.members))
    (ap (λ (l : List TypeDeclaration). clean (types_faults (unplaced types) l (unplaced others))) (map_push unplaced_type earlier ty)
    ∙ types_alike types (earlier ++ ty ∷ []) others)

pub faultless_unplaced : (a b : List TypeDeclaration) → unplaced a ≡ unplaced b → faults_of a ≡ [] → faults_of b ≡ []
faultless_unplaced a b e h =
    clean_none (faults_of b)
    (sym (types_alike b [] b)
    ∙ ap (λ (types : List TypeDeclaration). clean (faults_of types)) (sym e)
    ∙ types_alike a [] a
    ∙ none_clean (faults_of a) h)

-- ---- what declarations mean

numbers_alike : (types : List TypeDeclaration) (name : List ℕ) → type_number (unplaced types) name ≡ type_number types name
numbers_alike types name = λ i. record { 0 = place_mapped (λ (ty : TypeDeclaration). bytes_eq ty.name.name name) unplaced_type types i + 1 }

member_numbers_alike : (types : List TypeDeclaration) (there named : List ℕ)
    → member_number (members_found (type_named (unplaced types) there)) named ≡ member_number (members_found (type_named types there)) named
member_numbers_alike types there named =
    ap (λ (members : List MemberDeclaration). member_number members named) (found_members types there)
    ∙ (λ i. record { 0 = place_mapped (λ (member : MemberDeclaration). bytes_eq member.name.name named) unplaced_member (members_found (type_named types there)) i })

kinds_alike : (types : List TypeDeclaration) (kind : KindDeclaration) → resolved_kind (unplaced types) (unplaced_kind kind) ≡ resolved_kind types kind
kinds_alike types declared.Int = refl
kinds_alike types (declared.Text max) = refl
kinds_alike types (declared.Ref target inverse) = λ i. kinds.Ref (numbers_alike types target.name i)
kinds_alike types (declared.Set target inverse) = λ i. kinds.Set (numbers_alike types target.name i)
kinds_alike types (declared.List target) = λ i. kinds.List (numbers_alike types target.name i)
kinds_alike types (declared.DictInt target) = λ i. kinds.DictInt (numbers_alike types target.name i)
kinds_alike types (declared.DictText target) = λ i. kinds.DictText (numbers_alike types target.name i)

resolved_alike : (types : List TypeDeclaration) (inverse : Option InverseDeclaration) → resolved_inverse (unplaced types) (unplaced_inverse inverse) ≡ resolved_inverse types inverse
resolved_alike types None = refl
resolved_alike types (Some inverse) = λ i. Some (record { ty = numbers_alike types inverse.ty i; member = member_numbers_alike types inverse.ty inverse.member i })

resolved_members : (types : List TypeDeclaration) (member : MemberDeclaration) → resolved_member (unplaced types) (unplaced_member member) ≡ resolved_member types member
resolved_members types member = λ i. record {
  name = member.name.name;
  kind = kinds_alike types member.kind i;
  inverse = (ap (λ (inverse : Option InverseDeclaration). resolved_inverse (unplaced types) inverse) (inverse_of_kind member.kind) ∙ resolved_alike types (inverse_named member.kind)) i;
}

resolved_types : (types : List TypeDeclaration) (ty : TypeDeclaration) → resolved_type (unplaced types) (unplaced_type ty) ≡ resolved_type types ty
resolved_types types ty = λ i. record {
  name = ty.name.name;
  members = (map_map (resolved_member (unplaced types)) unplaced_member ty.members
      ∙ map_alike (λ (m : MemberDeclaration). resolved_member (unplaced types) (unplaced_member m)) (resolved_member types) ty.members
      (All_each (λ (m : MemberDeclaration). resolved_member (unplaced types) (unplaced_member m) ≡ resolved_member types m) ty.members (resolved_members types))) i;
}

pub resolved_of_unplaced : (types : List TypeDeclaration) → resolved (unplaced types) ≡ resolved types
resolved_of_unplaced types = λ i. record {
  types = (map_map (resolved_type (unplaced types)) unplaced_type types
      ∙ map_alike (λ (t : TypeDeclaration). resolved_type (unplaced types) (unplaced_type t)) (resolved_type types) types
      (All_each (λ (t : TypeDeclaration). resolved_type (unplaced types) (unplaced_type t) ≡ resolved_type types t) types (resolved_types types))) i;
}

pub resolved_unplaced : (a b : List TypeDeclaration) → unplaced a ≡ unplaced b → resolved a ≡ resolved b
resolved_unplaced a b e = sym (resolved_of_unplaced a) ∙ ap resolved e ∙ resolved_of_unplaced b
