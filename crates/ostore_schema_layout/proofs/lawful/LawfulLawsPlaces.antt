-- The types and members of a lawful schema by their numbers, and what its own names find.
use Rattle.std.proofs.Common.{◌≡◌, ℕ, zero, suc, ◌+◌, ◌≤◌, IsTrue, List, [], ◌∷◌, Option, Some, None, refl, sym, ap, subst, ◌∙◌, add-one, arith}
use Rattle.std.specs.Prelude.{map, length}
use Rattle.std.specs.List.{slice_get, position_or_len}
use Rattle.std.specs.Str.{bytes_eq}
use Rattle.std.proofs.lemmas.Option.{same_Some, none-some}
use Rattle.ostore_text_words.specs.Words.{is_identifier}
use Rattle.ostore_schema_layout.specs.declared.schema.Schema.{Schema}
use Rattle.ostore_schema_layout.specs.declared.schema.TypeDef.{TypeDef}
use Rattle.ostore_schema_layout.specs.declared.schema.TypeNo.{TypeNo}
use Rattle.ostore_schema_layout.specs.declared.schema.MemberDef.{MemberDef}
use Rattle.ostore_schema_layout.specs.declared.schema.MemberNo.{MemberNo}
use Rattle.ostore_schema_layout.specs.declared.declarations.MemberDeclaration.{MemberDeclaration}
use Rattle.ostore_schema_layout.specs.Cells.{ArePairwise, IsType}
use Rattle.ostore_schema_layout.specs.Numbers.{type_at, members_of, members_of_found, name_of_type, type_name, name_of_member, member_at, member_name}
use Rattle.ostore_schema_layout.specs.Limits.{most_members}
use Rattle.ostore_schema_layout.specs.Lawful.{IsLawfulMember, AreLawfulMembers, IsLawfulType, AreLawfulTypes, IsLawful}
use Rattle.ostore_schema_layout.specs.Faults.{type_named, member_named, members_found}
use Rattle.ostore_schema_layout.specs.Resolved.{type_number, member_number}
use Rattle.ostore_schema_layout.proofs.spelled.Declared.{naming_member, naming_type, naming}
use Rattle.ostore_schema_layout.proofs.resolved.ResolveLawsLists.{mapped_at, item_at, Differ, place_at, found_at, pairwise_map}
use Rattle.ostore_schema_layout.proofs.resolved.ResolveLawsNames.{name_of, own_name, next_type}

-- ---- by number

lawful_from : (schema : Schema) (number : ℕ) (types : List TypeDef) (k : ℕ) (ty : TypeDef) → AreLawfulTypes schema number types → slice_get types k ≡ Some ty → IsLawfulType schema (record { 0 = k + number }) ty
lawful_from schema number [] k ty h e = absurd (none-some ty e)
lawful_from schema number (t ∷ types) zero ty h e =
    let number_is : number ≡ 0 + number = omega arith in
    subst (λ (n : ℕ). IsLawfulType schema (record { 0 = n }) ty) number_is (subst (λ (x : TypeDef). IsLawfulType schema (record { 0 = number }) x) (same_Some t ty e) h.0)
lawful_from schema number (t ∷ types) (suc k) ty h e =
    let number_is : k + suc number ≡ suc k + number = omega arith in
    subst (λ (n : ℕ). IsLawfulType schema (record { 0 = n }) ty) number_is (lawful_from schema (suc number) types k ty h.1 e)

pub lawful_type : (schema : Schema) → IsLawful schema → (k : ℕ) (ty : TypeDef) → slice_get schema.types k ≡ Some ty → IsLawfulType schema (record { 0 = k + 1 }) ty
lawful_type schema lawful k ty e = lawful_from schema 1 schema.types k ty lawful.types e

members_from : (schema : Schema) (ty : TypeNo) (number : ℕ) (members : List MemberDef) (j : ℕ) (member : MemberDef) → AreLawfulMembers schema ty number members → slice_get members j ≡ Some member → IsLawfulMember schema ty (record { 0 = j + number }) member
members_from schema ty number [] j member h e = absurd (none-some member e)
members_from schema ty number (m ∷ members) zero member h e =
    let number_is : number ≡ 0 + number = omega arith in
    subst (λ (n : ℕ). IsLawfulMember schema ty (record { 0 = n }) member) number_is (subst (λ (x : MemberDef). IsLawfulMember schema ty (record { 0 = number }) x) (same_Some m member e) h.0)
members_from schema ty number (m ∷ members) (suc j) member h e =
    let number_is : j + suc number ≡ suc j + number = omega arith in
    subst (λ (n : ℕ). IsLawfulMember schema ty (record { 0 = n }) member) number_is (members_from schema ty (suc number) members j member h.1 e)

pub lawful_member : (schema : Schema) (ty : TypeNo) (members : List MemberDef) → AreLawfulMembers schema ty 0 members → (j : ℕ) (member : MemberDef) → slice_get members j ≡ Some member → IsLawfulMember schema ty (record { 0 = j }) member
lawful_member schema ty members h j member e =
    let number_is : j + 0 ≡ j = omega arith in
    subst (λ (n : ℕ). IsLawfulMember schema ty (record { 0 = n }) member) number_is (members_from schema ty 0 members j member h e)

few_from : (schema : Schema) (number : ℕ) (types : List TypeDef) (k : ℕ) → AreLawfulTypes schema number types → length (members_of_found (slice_get types k)) ≤ most_members
few_from schema number [] k h = omega arith
few_from schema number (ty ∷ types) zero h = h.0.few
few_from schema number (ty ∷ types) (suc k) h = few_from schema (suc number) types k h.1

-- the members of any type are so few that a byte numbers them
pub members_few : (schema : Schema) → IsLawful schema → (number : ℕ) → length (members_of schema number) ≤ most_members
members_few schema lawful zero = omega arith
members_few schema lawful (suc k) = few_from schema 1 schema.types k lawful.types

-- ---- where a number leads

-- the type of a number stands at a place
pub record StandsAt (schema : Schema) (number : TypeNo) (ty : TypeDef) : Type 0 where
  pub place : ℕ
  pub number_is : number ≡ record { 0 = place + 1 }
  pub there : slice_get schema.types place ≡ Some ty

place_of : (schema : Schema) (n : ℕ) (ty : TypeDef) → type_at schema n ≡ Some ty → (k : ℕ) × (n ≡ k + 1) × (slice_get schema.types k ≡ Some ty)
place_of schema zero ty e = absurd (none-some ty e)
place_of schema (suc k) ty e = (k, sym (add-one k), e)

pub stands : (schema : Schema) (number : TypeNo) (ty : TypeDef) → type_at schema number.0 ≡ Some ty → StandsAt schema number ty
stands schema number ty e =
    let p = place_of schema number.0 ty e in
    record { place = p.0; number_is = λ i. record { 0 = p.1 i }; there = p.2 }

pub type_there : (schema : Schema) (n : ℕ) → IsType schema n → (ty : TypeDef) × (type_at schema n ≡ Some ty)
type_there schema zero h = absurd (omega (arith, h.0))
type_there schema (suc k) h = item_at schema.types k (omega (arith, h.1))

type_behind : (found : Option TypeDef) (j : ℕ) (member : MemberDef) → slice_get (members_of_found found) j ≡ Some member → (ty : TypeDef) × (found ≡ Some ty)
type_behind None j member e = absurd (none-some member e)
type_behind (Some ty) j member e = (ty, refl)

-- the member of two numbers
pub record MemberStandsAt (schema : Schema) (number : TypeNo) (j : MemberNo) (member : MemberDef) : Type 0 where
  pub ty : TypeDef
  pub type_there : type_at schema number.0 ≡ Some ty
  pub there : slice_get ty.members j.0 ≡ Some member

pub member_stands : (schema : Schema) (number : TypeNo) (j : MemberNo) (member : MemberDef) → member_at schema number j ≡ Some member → MemberStandsAt schema number j member
member_stands schema number j member e =
    let b = type_behind (type_at schema number.0) j.0 member e in
    record { ty = b.0; type_there = b.1; there = sym (ap (λ (o : Option TypeDef). slice_get (members_of_found o) j.0) b.1) ∙ e }

pub type_at_place : (schema : Schema) (k : ℕ) (ty : TypeDef) → slice_get schema.types k ≡ Some ty → type_at schema (k + 1) ≡ Some ty
type_at_place schema k ty e = next_type schema k ∙ e

pub name_of_number : (schema : Schema) (number : TypeNo) (ty : TypeDef) → type_at schema number.0 ≡ Some ty → type_name schema number ≡ ty.name
name_of_number schema number ty e = ap name_of_type e

pub name_of_numbers : (schema : Schema) (number : TypeNo) (j : MemberNo) (member : MemberDef) → member_at schema number j ≡ Some member → member_name schema number j ≡ member.name
name_of_numbers schema number j member e = ap name_of_member e

pub member_at_place : (schema : Schema) (k : ℕ) (ty : TypeDef) (j : ℕ) (member : MemberDef) → slice_get schema.types k ≡ Some ty → slice_get ty.members j ≡ Some member → member_at schema (record { 0 = k + 1 }) (record { 0 = j }) ≡ Some member
member_at_place schema k ty j member e f = ap (λ (o : Option TypeDef). slice_get (members_of_found o) j) (type_at_place schema k ty e) ∙ f

-- two items with one name stand at one place
pub same_place : {X : Type 0} (key : X → List ℕ) (xs : List X) (k j : ℕ) (x y : X) → ArePairwise (Differ key) xs → slice_get xs k ≡ Some x → slice_get xs j ≡ Some y → key x ≡ key y → k ≡ j
same_place key xs k j x y d e f same =
    sym (place_at key xs k x d e) ∙ ap (λ (n : List ℕ). position_or_len (λ z. bytes_eq (key z) n) xs) same ∙ place_at key xs j y d f

-- ---- what its own names find

naming_names : (schema : Schema) → IsLawful schema → ArePairwise (Differ name_of) (naming schema)
naming_names schema lawful = pairwise_map name_of (naming_type schema) schema.types lawful.own_names

pub naming_member_names : (schema : Schema) (members : List MemberDef) → ArePairwise (Differ (λ (m : MemberDef). m.name)) members → ArePairwise (Differ own_name) (map (naming_member schema) members)
naming_member_names schema members d = pairwise_map own_name (naming_member schema) members d

pub type_named_again : (schema : Schema) → IsLawful schema → (number : TypeNo) (ty : TypeDef) → type_at schema number.0 ≡ Some ty → type_named (naming schema) (type_name schema number) ≡ Some (naming_type schema ty)
type_named_again schema lawful number ty e =
    let s = stands schema number ty e in
    ap (λ (n : List ℕ). type_named (naming schema) n) (name_of_number schema number ty e)
    ∙ found_at name_of (naming schema) s.place (naming_type schema ty) (naming_names schema lawful) (mapped_at (naming_type schema) schema.types s.place ty s.there)

pub type_number_again : (schema : Schema) → IsLawful schema → (number : TypeNo) (ty : TypeDef) → type_at schema number.0 ≡ Some ty → type_number (naming schema) (type_name schema number) ≡ number
type_number_again schema lawful number ty e =
    let s = stands schema number ty e in
    let place = place_at name_of (naming schema) s.place (naming_type schema ty) (naming_names schema lawful) (mapped_at (naming_type schema) schema.types s.place ty s.there) in
    ap (λ (n : List ℕ). type_number (naming schema) n) (name_of_number schema number ty e)
    ∙ (λ i. record { 0 = place i + 1 })
    ∙ sym s.number_is

own_names_at : (schema : Schema) → IsLawful schema → (number : TypeNo) (ty : TypeDef) → type_at schema number.0 ≡ Some ty → ArePairwise (Differ (λ (m : MemberDef). m.name)) ty.members
own_names_at schema lawful number ty e = let s = stands schema number ty e in (lawful_type schema lawful s.place ty s.there).own_names

pub members_named_again : (schema : Schema) → IsLawful schema → (number : TypeNo) (ty : TypeDef) → type_at schema number.0 ≡ Some ty → members_found (type_named (naming schema) (type_name schema number)) ≡ map (naming_member schema) ty.members
members_named_again schema lawful number ty e = ap members_found (type_named_again schema lawful number ty e)

pub member_named_again : (schema : Schema) → IsLawful schema → (number : TypeNo) (j : MemberNo) (member : MemberDef) → member_at schema number j ≡ Some member
    → member_named (members_found (type_named (naming schema) (type_name schema number))) (member_name schema number j) ≡ Some (naming_member schema member)
member_named_again schema lawful number j member e =
    let s = member_stands schema number j member e in
    ap (λ (l : List MemberDeclaration). member_named l (member_name schema number j)) (members_named_again schema lawful number s.ty s.type_there)
    ∙ ap (λ (n : List ℕ). member_named (map (naming_member schema) s.ty.members) n) (name_of_numbers schema number j member e)
    ∙ found_at own_name (map (naming_member schema) s.ty.members) j.0 (naming_member schema member)
    (naming_member_names schema s.ty.members (own_names_at schema lawful number s.ty s.type_there)) (mapped_at (naming_member schema) s.ty.members j.0 member s.there)

pub member_number_again : (schema : Schema) → IsLawful schema → (number : TypeNo) (j : MemberNo) (member : MemberDef) → member_at schema number j ≡ Some member
    → member_number (members_found (type_named (naming schema) (type_name schema number))) (member_name schema number j) ≡ j
member_number_again schema lawful number j member e =
    let s = member_stands schema number j member e in
    let place = place_at own_name (map (naming_member schema) s.ty.members) j.0 (naming_member schema member)
    (naming_member_names schema s.ty.members (own_names_at schema lawful number s.ty s.type_there)) (mapped_at (naming_member schema) s.ty.members j.0 member s.there) in
    ap (λ (l : List MemberDeclaration). member_number l (member_name schema number j)) (members_named_again schema lawful number s.ty s.type_there)
    ∙ ap (λ (n : List ℕ). member_number (map (naming_member schema) s.ty.members) n) (name_of_numbers schema number j member e)
    ∙ (λ i. record { 0 = place i })

-- ---- names are identifiers

pub type_identifier : (schema : Schema) → IsLawful schema → (number : TypeNo) → IsType schema number.0 → IsTrue (is_identifier (type_name schema number))
type_identifier schema lawful number h =
    let t = type_there schema number.0 h in
    let s = stands schema number t.0 t.1 in
    subst (λ (n : List ℕ). IsTrue (is_identifier n)) (sym (name_of_number schema number t.0 t.1)) (lawful_type schema lawful s.place t.0 s.there).name

pub member_identifier : (schema : Schema) → IsLawful schema → (number : TypeNo) (j : MemberNo) (member : MemberDef) → member_at schema number j ≡ Some member → IsTrue (is_identifier (member_name schema number j))
member_identifier schema lawful number j member e =
    let m = member_stands schema number j member e in
    let s = stands schema number m.ty m.type_there in
    let lawful_here = lawful_member schema (record { 0 = s.place + 1 }) m.ty.members (lawful_type schema lawful s.place m.ty s.there).members j.0 member m.there in
    subst (λ (n : List ℕ). IsTrue (is_identifier n)) (sym (name_of_numbers schema number j member e)) lawful_here.name
