-- What it means that declarations have no fault.
use Rattle.std.proofs.Common.{◌≡◌, ℕ, ◌≤◌, Bool, true, false, ◌&&◌, not, ltb, leb, List, [], ◌∷◌, ◌++◌, length, Option, Some, None, refl, sym, ap, ◌∙◌}
use Rattle.std.specs.List.{AllByRecursion}
use Rattle.std.proofs.lemmas.Bool.{ltb-false, leb-false, le-ltb, lt-leb, not-false, not-true, not_from_true, not_from_false, true≢false}
use Rattle.std.proofs.lemmas.Option.{none-some}
use Rattle.ostore_schema_layout.specs.declared.declarations.NameAt.{NameAt}
use Rattle.ostore_schema_layout.specs.declared.declarations.TypeDeclaration.{TypeDeclaration}
use Rattle.ostore_schema_layout.specs.declared.declarations.MemberDeclaration.{MemberDeclaration}
use Rattle.ostore_schema_layout.specs.declared.declarations.InverseDeclaration.{InverseDeclaration}
use Rattle.ostore_schema_layout.specs.declared.fault.SchemaFault.{SchemaFault}
use Rattle.ostore_schema_layout.specs.declared.fault.SchemaFault.TheVariants.{DuplicateType, DuplicateMember, UnknownType, InverseMismatch, CellTooLarge, TooManyTypes, TooManyMembers}
use Rattle.ostore_schema_layout.specs.Cells.{ArePairwise}
use Rattle.ostore_schema_layout.specs.Faults.{type_named, member_named, is_there, target_named, inverse_named, declared_sizes, is_inverse, fault_if, target_faults, inverse_faults, member_faults, members_faults, name_faults, types_faults, faults_of, first_of}
use Rattle.ostore_schema_layout.proofs.resolved.ResolveLawsLists.{there_some, some_there, Differ, Told, told_names, told_few, told_each, all_told}

-- ---- no fault

unfoldable pub clean : List SchemaFault → Bool
clean [] = true
clean (fault ∷ faults) = false

pub clean_none : (faults : List SchemaFault) → clean faults ≡ true → faults ≡ []
unfolding clean
clean_none [] h = refl
clean_none (fault ∷ faults) h = absurd (true≢false (sym h))

pub none_clean : (faults : List SchemaFault) → faults ≡ [] → clean faults ≡ true
unfolding clean
none_clean faults e = ap clean e

pub no_first : (faults : List SchemaFault) → first_of faults ≡ None → faults ≡ []
no_first [] e = refl
no_first (fault ∷ faults) e = absurd (none-some fault (sym e))

pub clean_append : (a b : List SchemaFault) → clean (a ++ b) ≡ (clean a && clean b)
unfolding clean
clean_append [] b = refl
clean_append (fault ∷ a) b = refl

pub clean_if : (test : Bool) (fault : SchemaFault) → clean (fault_if test fault) ≡ not test
unfolding clean
clean_if true fault = refl
clean_if false fault = refl

clean_parts : (a b : List SchemaFault) → clean (a ++ b) ≡ true → (clean a ≡ true) × (clean b ≡ true)
unfolding clean
clean_parts [] b h = (refl, h)
clean_parts (fault ∷ a) b h = absurd (true≢false (sym h))

clean_both : (a b : List SchemaFault) → clean a ≡ true → clean b ≡ true → clean (a ++ b) ≡ true
unfolding clean
clean_both [] b h k = k
clean_both (fault ∷ a) b h k = absurd (true≢false (sym h))

untrue : (test : Bool) (fault : SchemaFault) → clean (fault_if test fault) ≡ true → test ≡ false
untrue test fault h = not-true test (sym (clean_if test fault) ∙ h)

if_untrue : (test : Bool) (fault : SchemaFault) → test ≡ false → clean (fault_if test fault) ≡ true
if_untrue test fault e = clean_if test fault ∙ not_from_false test e

-- ---- what there is then

abbrev pub IsTargetThere : List TypeDeclaration → Option NameAt → Type 0
IsTargetThere types None = Unit {0}
IsTargetThere types (Some target) = (ty : TypeDeclaration) × (type_named types target.name ≡ Some ty)

abbrev pub IsInverseThere : List TypeDeclaration → List ℕ → List ℕ → Option NameAt → Option InverseDeclaration → Type 0
IsInverseThere types ty member None inverse = Unit {0}
IsInverseThere types ty member (Some target) None = Unit {0}
IsInverseThere types ty member (Some target) (Some inverse) = is_inverse types ty member target.name inverse ≡ true

pub record IsFaultlessMember (types : List TypeDeclaration) (ty : List ℕ) (member : MemberDeclaration) : Type 0 where
  pub target : IsTargetThere types (target_named member.kind)
  pub inverse : IsInverseThere types ty member.name.name (target_named member.kind) (inverse_named member.kind)

pub record IsFaultlessType (types : List TypeDeclaration) (ty : TypeDeclaration) : Type 0 where
  pub size : declared_sizes ty.members ≤ 1000
  pub own_names : ArePairwise (Differ (λ (m : MemberDeclaration). m.name.name)) ty.members
  pub few : length ty.members ≤ 32
  pub each : AllByRecursion (IsFaultlessMember types ty.name.name) ty.members

pub record AreFaultless (types : List TypeDeclaration) : Type 0 where
  pub own_names : ArePairwise (Differ (λ (t : TypeDeclaration). t.name.name)) types
  pub few : length types ≤ 64
  pub each : AllByRecursion (IsFaultlessType types) types

-- ---- members

target_there : (types : List TypeDeclaration) (target : Option NameAt) → clean (target_faults types target) ≡ true → IsTargetThere types target
target_there types None h = tt
target_there types (Some target) h =
    there_some (type_named types target.name) (not-false (is_there (type_named types target.name)) (untrue (not (is_there (type_named types target.name))) (UnknownType target.at) h))

there_target : (types : List TypeDeclaration) (target : Option NameAt) → IsTargetThere types target → clean (target_faults types target) ≡ true
unfolding clean
there_target types None h = refl
there_target types (Some target) h =
    if_untrue (not (is_there (type_named types target.name))) (UnknownType target.at) (not_from_true (is_there (type_named types target.name)) (some_there (type_named types target.name) h.0 h.1))

inverse_there : (types : List TypeDeclaration) (ty member : List ℕ) (target : Option NameAt) (inverse : Option InverseDeclaration) → clean (inverse_faults types ty member target inverse) ≡ true → IsInverseThere types ty member target inverse
inverse_there types ty member None inverse h = tt
inverse_there types ty member (Some target) None h = tt
inverse_there types ty member (Some target) (Some inverse) h =
    not-false (is_inverse types ty member target.name inverse) (untrue (not (is_inverse types ty member target.name inverse)) (InverseMismatch inverse.at) h)

there_inverse : (types : List TypeDeclaration) (ty member : List ℕ) (target : Option NameAt) (inverse : Option InverseDeclaration) → IsInverseThere types ty member target inverse → clean (inverse_faults types ty member target inverse) ≡ true
unfolding clean
there_inverse types ty member None inverse h = refl
there_inverse types ty member (Some target) None h = refl
there_inverse types ty member (Some target) (Some inverse) h =
    if_untrue (not (is_inverse types ty member target.name inverse)) (InverseMismatch inverse.at) (not_from_true (is_inverse types ty member target.name inverse) h)

abbrev TellsMembers : List TypeDeclaration → List ℕ → List MemberDeclaration → List MemberDeclaration → Type 0
TellsMembers types ty earlier members = Told (λ (m : MemberDeclaration). m.name.name) 32 (IsFaultlessMember types ty) earlier members

members_told : (types : List TypeDeclaration) (ty : List ℕ) (earlier members : List MemberDeclaration) → clean (members_faults types ty earlier members) ≡ true → TellsMembers types ty earlier members
unfolding members_faults member_faults
members_told types ty earlier [] h = tt
members_told types ty earlier (member ∷ members) h =
    let twice = fault_if (is_there (member_named earlier member.name.name)) (DuplicateMember member.name.at) in
    let many = fault_if (leb 32 (length earlier)) (TooManyMembers member.name.at) in
    let target = target_faults types (target_named member.kind) in
    let inverse = inverse_faults types ty member.name.name (target_named member.kind) (inverse_named member.kind) in
    let p = clean_parts (twice ++ many ++ target ++ inverse) (members_faults types ty (earlier ++ member ∷ []) members) h in
    let q = clean_parts (twice ++ many ++ target) inverse p.0 in
    let r = clean_parts (twice ++ many) target q.0 in
    let s = clean_parts twice many r.0 in (
      untrue (is_there (member_named earlier member.name.name)) (DuplicateMember member.name.at) s.0,
      leb-false 32 (length earlier) (untrue (leb 32 (length earlier)) (TooManyMembers member.name.at) s.1),
      record { target = target_there types (target_named member.kind) r.1; inverse = inverse_there types ty member.name.name (target_named member.kind) (inverse_named member.kind) q.1 },
      members_told types ty (earlier ++ member ∷ []) members p.1,
    )

told_members : (types : List TypeDeclaration) (ty : List ℕ) (earlier members : List MemberDeclaration) → TellsMembers types ty earlier members → clean (members_faults types ty earlier members) ≡ true
unfolding members_faults member_faults clean
told_members types ty earlier [] h = refl
told_members types ty earlier (member ∷ members) h =
    let twice = fault_if (is_there (member_named earlier member.name.name)) (DuplicateMember member.name.at) in
    let many = fault_if (leb 32 (length earlier)) (TooManyMembers member.name.at) in
    let target = target_faults types (target_named member.kind) in
    let inverse = inverse_faults types ty member.name.name (target_named member.kind) (inverse_named member.kind) in
    clean_both (twice ++ many ++ target ++ inverse) (members_faults types ty (earlier ++ member ∷ []) members)
    (clean_both (twice ++ many ++ target) inverse
    (clean_both (twice ++ many) target
    (clean_both twice many
    (if_untrue (is_there (member_named earlier member.name.name)) (DuplicateMember member.name.at) h.0)
    (if_untrue (leb 32 (length earlier)) (TooManyMembers member.name.at) (lt-leb 32 (length earlier) h.1)))
    (there_target types (target_named member.kind) h.2.target))
    (there_inverse types ty member.name.name (target_named member.kind) (inverse_named member.kind) h.2.inverse))
    (told_members types ty (earlier ++ member ∷ []) members h.3)

-- ---- types

type_told : (types : List TypeDeclaration) (ty : TypeDeclaration) → ltb 1000 (declared_sizes ty.members) ≡ false → clean (members_faults types ty.name.name [] ty.members) ≡ true → IsFaultlessType types ty
type_told types ty size h =
    let told = members_told types ty.name.name [] ty.members h in
    record {
      size = ltb-false 1000 (declared_sizes ty.members) size;
      own_names = told_names (λ (m : MemberDeclaration). m.name.name) 32 (IsFaultlessMember types ty.name.name) ty.members told;
      few = told_few (λ (m : MemberDeclaration). m.name.name) 32 (IsFaultlessMember types ty.name.name) ty.members told;
      each = told_each (λ (m : MemberDeclaration). m.name.name) 32 (IsFaultlessMember types ty.name.name) ty.members told;
    }

told_type : (types : List TypeDeclaration) (ty : TypeDeclaration) → IsFaultlessType types ty → clean (members_faults types ty.name.name [] ty.members) ≡ true
told_type types ty h =
    told_members types ty.name.name [] ty.members
    (all_told (λ (m : MemberDeclaration). m.name.name) 32 (IsFaultlessMember types ty.name.name) ty.members h.own_names h.few h.each)

abbrev TellsTypes : List TypeDeclaration → List TypeDeclaration → List TypeDeclaration → Type 0
TellsTypes types earlier others = Told (λ (t : TypeDeclaration). t.name.name) 64 (IsFaultlessType types) earlier others

types_told : (types earlier others : List TypeDeclaration) → clean (types_faults types earlier others) ≡ true → TellsTypes types earlier others
unfolding types_faults name_faults
types_told types earlier [] h = tt
types_told types earlier (ty ∷ others) h =
    let twice = fault_if (is_there (type_named earlier ty.name.name)) (DuplicateType ty.name.at) in
    let large = fault_if (ltb 1000 (declared_sizes ty.members)) (CellTooLarge ty.name.at) in
    let many = fault_if (leb 64 (length earlier)) (TooManyTypes ty.name.at) in
    let members = members_faults types ty.name.name [] ty.members in
    let behind = types_faults types (earlier ++ ty ∷ []) others in
    let p = clean_parts (twice ++ large ++ many ++ members) behind h in
    let q = clean_parts (twice ++ large ++ many) members p.0 in
    let r = clean_parts (twice ++ large) many q.0 in
    let s = clean_parts twice large r.0 in (
      untrue (is_there (type_named earlier ty.name.name)) (DuplicateType ty.name.at) s.0,
      leb-false 64 (length earlier) (untrue (leb 64 (length earlier)) (TooManyTypes ty.name.at) r.1),
      type_told types ty (untrue (ltb 1000 (declared_sizes ty.members)) (CellTooLarge ty.name.at) s.1) q.1,
      types_told types (earlier ++ ty ∷ []) others p.1,
    )

told_types : (types earlier others : List TypeDeclaration) → TellsTypes types earlier others → clean (types_faults types earlier others) ≡ true
unfolding types_faults name_faults clean
told_types types earlier [] h = refl
told_types types earlier (ty ∷ others) h =
    let twice = fault_if (is_there (type_named earlier ty.name.name)) (DuplicateType ty.name.at) in
    let large = fault_if (ltb 1000 (declared_sizes ty.members)) (CellTooLarge ty.name.at) in
    let many = fault_if (leb 64 (length earlier)) (TooManyTypes ty.name.at) in
    let members = members_faults types ty.name.name [] ty.members in
    let behind = types_faults types (earlier ++ ty ∷ []) others in
    clean_both (twice ++ large ++ many ++ members) behind
    (clean_both (twice ++ large ++ many) members
    (clean_both (twice ++ large) many
    (clean_both twice large
    (if_untrue (is_there (type_named earlier ty.name.name)) (DuplicateType ty.name.at) h.0)
    (if_untrue (ltb 1000 (declared_sizes ty.members)) (CellTooLarge ty.name.at) (le-ltb 1000 (declared_sizes ty.members) h.2.size)))
    (if_untrue (leb 64 (length earlier)) (TooManyTypes ty.name.at) (lt-leb 64 (length earlier) h.1)))
    (told_type types ty h.2))
    (told_types types (earlier ++ ty ∷ []) others h.3)

-- ---- all of them

pub are_faultless : (types : List TypeDeclaration) → faults_of types ≡ [] → AreFaultless types
are_faultless types e =
    let told = types_told types [] types (none_clean (faults_of types) e) in
    record {
      own_names = told_names (λ (t : TypeDeclaration). t.name.name) 64 (IsFaultlessType types) types told;
      few = told_few (λ (t : TypeDeclaration). t.name.name) 64 (IsFaultlessType types) types told;
      each = told_each (λ (t : TypeDeclaration). t.name.name) 64 (IsFaultlessType types) types told;
    }

pub faultless_are : (types : List TypeDeclaration) → AreFaultless types → faults_of types ≡ []
faultless_are types h =
    clean_none (faults_of types) (told_types types [] types (all_told (λ (t : TypeDeclaration). t.name.name) 64 (IsFaultlessType types) types h.own_names h.few h.each))
