-- The first of faults that stand one behind the other, as the loops of the reader find it.
use Rattle.std.proofs.Common.{◌≡◌, ℕ, ◌+◌, ◌<◌, ◌≤◌, List, [], ◌∷◌, ◌++◌, length, get_or, take, drop, Option, Some, None, refl, sym, ap, ◌∙◌}
use Rattle.std.proofs.lemmas.List.{drop_more, take_more}
use Rattle.std.proofs.Math.ListN.{drop_of_length-le}
use Rattle.ostore_schema_layout.specs.declared.declarations.TypeDeclaration.{TypeDeclaration}
use Rattle.ostore_schema_layout.specs.declared.declarations.MemberDeclaration.{MemberDeclaration}
use Rattle.ostore_schema_layout.specs.declared.fault.SchemaFault.{SchemaFault}
use Rattle.ostore_schema_layout.specs.Faults.{member_faults, members_faults, name_faults, types_faults, first_of}

-- the first, or the other where there is none
abbrev pub or_else : Option SchemaFault → Option SchemaFault → Option SchemaFault
or_else None later = later
or_else (Some fault) later = Some fault

pub first_of_both : (front back : List SchemaFault) → first_of (front ++ back) ≡ or_else (first_of front) (first_of back)
first_of_both [] back = refl
first_of_both (fault ∷ front) back = refl

pub first_found : (front back : List SchemaFault) (fault : SchemaFault) → Some fault ≡ first_of front → Some fault ≡ first_of (front ++ back)
first_found [] back fault h = absurd cc
first_found (first ∷ front) back fault h = h

pub first_behind : (front back : List SchemaFault) → None ≡ first_of front → first_of (front ++ back) ≡ first_of back
first_behind [] back h = refl
first_behind (first ∷ front) back h = absurd cc

-- ---- members

members_ahead : (types : List TypeDeclaration) (ty : List ℕ) (members : List MemberDeclaration) (i : ℕ) (member : MemberDeclaration) → i < length members → member ≡ get_or members i member
    → members_faults types ty (take i members) (drop i members)
    ≡ member_faults types ty (take i members) member ++ members_faults types ty (take (i + 1) members) (drop (i + 1) members)
unfolding members_faults
members_ahead types ty members i member lt is =
    ap (members_faults types ty (take i members)) (drop_more members i member lt ∙ ap (λ (m : MemberDeclaration). m ∷ drop (i + 1) members) (sym is))
    ∙ ap (λ (ms : List MemberDeclaration). member_faults types ty (take i members) member ++ members_faults types ty ms (drop (i + 1) members))
    (ap (λ (m : MemberDeclaration). take i members ++ m ∷ []) is ∙ sym (take_more members i member lt))

pub member_found : (types : List TypeDeclaration) (ty : List ℕ) (members : List MemberDeclaration) (i : ℕ) (member : MemberDeclaration) (fault : SchemaFault) → i < length members → member ≡ get_or members i member
    → Some fault ≡ first_of (member_faults types ty (take i members) member) → Some fault ≡ first_of (members_faults types ty (take i members) (drop i members))
member_found types ty members i member fault lt is h = first_found _ _ fault h ∙ ap first_of (sym (members_ahead types ty members i member lt is))

pub member_passed : (types : List TypeDeclaration) (ty : List ℕ) (members : List MemberDeclaration) (i : ℕ) (member : MemberDeclaration) → i < length members → member ≡ get_or members i member
    → None ≡ first_of (member_faults types ty (take i members) member)
    → first_of (members_faults types ty (take (i + 1) members) (drop (i + 1) members)) ≡ first_of (members_faults types ty (take i members) (drop i members))
member_passed types ty members i member lt is h = sym (ap first_of (members_ahead types ty members i member lt is) ∙ first_behind _ _ h)

pub members_passed : (types : List TypeDeclaration) (ty : List ℕ) (members : List MemberDeclaration) (i : ℕ) → length members ≤ i → None ≡ first_of (members_faults types ty (take i members) (drop i members))
unfolding members_faults
members_passed types ty members i le = ap (λ (ms : List MemberDeclaration). first_of (members_faults types ty (take i members) ms)) (sym (drop_of_length-le members le))

-- ---- types

types_ahead : (types declared : List TypeDeclaration) (i : ℕ) (ty : TypeDeclaration) → i < length declared → ty ≡ get_or declared i ty
    → types_faults types (take i declared) (drop i declared)
    ≡ name_faults (take i declared) ty ++ members_faults types ty.name.name [] ty.members ++ types_faults types (take (i + 1) declared) (drop (i + 1) declared)
unfolding types_faults
types_ahead types declared i ty lt is =
    ap (types_faults types (take i declared)) (drop_more declared i ty lt ∙ ap (λ (t : TypeDeclaration). t ∷ drop (i + 1) declared) (sym is))
    ∙ ap (λ (ts : List TypeDeclaration). name_faults (take i declared) ty ++ members_faults types ty.name.name [] ty.members ++ types_faults types ts (drop (i + 1) declared))
    (ap (λ (t : TypeDeclaration). take i declared ++ t ∷ []) is ∙ sym (take_more declared i ty lt))

first_of_three : (a b c : List SchemaFault) (fault : SchemaFault) → Some fault ≡ first_of (a ++ b) → Some fault ≡ first_of (a ++ b ++ c)
first_of_three [] b c fault h = first_found b c fault h
first_of_three (first ∷ a) b c fault h = h

none_of_two : (a b c : List SchemaFault) → None ≡ first_of (a ++ b) → first_of (a ++ b ++ c) ≡ first_of c
none_of_two [] b c h = first_behind b c h
none_of_two (first ∷ a) b c h = absurd cc

pub type_found : (types declared : List TypeDeclaration) (i : ℕ) (ty : TypeDeclaration) (fault : SchemaFault) → i < length declared → ty ≡ get_or declared i ty
    → Some fault ≡ first_of (name_faults (take i declared) ty ++ members_faults types ty.name.name [] ty.members) → Some fault ≡ first_of (types_faults types (take i declared) (drop i declared))
type_found types declared i ty fault lt is h = first_of_three (name_faults (take i declared) ty) (members_faults types ty.name.name [] ty.members) _ fault h ∙ ap first_of (sym (types_ahead types declared i ty lt is))

pub type_passed : (types declared : List TypeDeclaration) (i : ℕ) (ty : TypeDeclaration) → i < length declared → ty ≡ get_or declared i ty
    → None ≡ first_of (name_faults (take i declared) ty ++ members_faults types ty.name.name [] ty.members)
    → first_of (types_faults types (take (i + 1) declared) (drop (i + 1) declared)) ≡ first_of (types_faults types (take i declared) (drop i declared))
type_passed types declared i ty lt is h = sym (ap first_of (types_ahead types declared i ty lt is) ∙ none_of_two (name_faults (take i declared) ty) (members_faults types ty.name.name [] ty.members) _ h)

pub types_passed : (types declared : List TypeDeclaration) (i : ℕ) → length declared ≤ i → None ≡ first_of (types_faults types (take i declared) (drop i declared))
unfolding types_faults
types_passed types declared i le = ap (λ (ts : List TypeDeclaration). first_of (types_faults types (take i declared) ts)) (sym (drop_of_length-le declared le))
