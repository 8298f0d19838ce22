-- Numbers of what names mean: declarations without a fault are so few that a byte numbers them.
use Rattle.std.proofs.Common.{◌≡◌, ℕ, ◌+◌, ◌<◌, ◌≤◌, Bool, true, false, not, leb, ltb, cond, List, [], ◌∷◌, ◌++◌, length, Option, Some, None, unwrap_or, refl, sym, ap, ◌∙◌, arith, inl, inr}
use Rattle.std.specs.List.{position, position_or_len, AllByRecursion}
use Rattle.std.specs.Str.{bytes_eq}
use Rattle.std.proofs.lemmas.Bool.{cases_lt, lt-ltb, le-ltb, le-leb, cond-true, cond-false, false≢true}
use Rattle.std.proofs.lemmas.List.{length-append}
use Rattle.std.proofs.lemmas.List.Sums.{prefix_len-le-length}
use Rattle.ostore_schema_layout.specs.declared.declarations.TypeDeclaration.{TypeDeclaration}
use Rattle.ostore_schema_layout.specs.declared.declarations.MemberDeclaration.{MemberDeclaration}
use Rattle.ostore_schema_layout.specs.declared.fault.SchemaFault.{SchemaFault}
use Rattle.ostore_schema_layout.specs.declared.fault.SchemaFault.TheVariants.{DuplicateType, DuplicateMember, CellTooLarge, TooManyTypes, TooManyMembers}
use Rattle.ostore_schema_layout.specs.Faults.{type_named, member_named, members_found, is_there, target_named, inverse_named, declared_sizes, fault_if, target_faults, inverse_faults, member_faults, members_faults, name_faults, types_faults, faults_of, first_of}
use Rattle.ostore_schema_layout.specs.inside.Gives.{AreFew}

-- the first place that passes, or the length
pub place_or_length : {X : Type 0} (p : X → Bool) (xs : List X) (o : Option ℕ) (n : ℕ) → o ≡ position p xs → n ≡ unwrap_or o (length xs) → n ≡ position_or_len p xs
place_or_length p xs o n found h =
    elim (cases_lt (position_or_len p xs) (length xs)) [
      | inl lt ↦ h ∙ ap (λ (q : Option ℕ). unwrap_or q (length xs)) (found ∙ cond-true (ltb (position_or_len p xs) (length xs)) (Some (position_or_len p xs)) None (lt-ltb (position_or_len p xs) (length xs) lt))
      | inr le ↦
          let most = prefix_len-le-length (λ x. not (p x)) xs in
          let same : length xs ≡ position_or_len p xs = omega arith in
          h ∙ ap (λ (q : Option ℕ). unwrap_or q (length xs)) (found ∙ cond-false (ltb (position_or_len p xs) (length xs)) (Some (position_or_len p xs)) None (le-ltb (position_or_len p xs) (length xs) le)) ∙ same
    ]

pub place_within : {X : Type 0} (p : X → Bool) (xs : List X) → position_or_len p xs ≤ length xs
place_within p xs = prefix_len-le-length (λ x. not (p x)) xs

found_here : (test : Bool) (ty : TypeDeclaration) (types : List TypeDeclaration) (name : List ℕ) → length ty.members ≤ 32 → length (members_found (type_named types name)) ≤ 32
    → length (members_found (cond test (Some ty) (type_named types name))) ≤ 32
found_here true ty types name here there = here
found_here false ty types name here there = there

-- the members of a type that is found are few where those of all are
found_few : (types : List TypeDeclaration) (name : List ℕ) → AllByRecursion (λ ty. length ty.members ≤ 32) types → length (members_found (type_named types name)) ≤ 32
found_few [] name few = omega arith
found_few (ty ∷ types) name few = found_here (bytes_eq ty.name.name name) ty types name few.0 (found_few types name few.1)

pub members_named_few : (types : List TypeDeclaration) (name : List ℕ) → AreFew types → length (members_found (type_named types name)) ≤ 32
members_named_few types name few = found_few types name few.members_few

-- ---- without a fault

none_of_both : (front back : List SchemaFault) → first_of (front ++ back) ≡ None → (first_of front ≡ None) × (first_of back ≡ None)
none_of_both [] back h = (refl, h)
none_of_both (fault ∷ front) back h = absurd cc

below_where_failed : (most n : ℕ) → leb most n ≡ false → n < most
below_where_failed most n h =
    elim (cases_lt n most) [
      | inl lt ↦ lt
      | inr le ↦ absurd (false≢true (sym h ∙ le-leb most n le))
    ]

last_failed : (test : Bool) (fault : SchemaFault) → first_of (fault_if test fault) ≡ None → test ≡ false
last_failed true fault h = absurd cc
last_failed false fault h = refl

member_few : (types : List TypeDeclaration) (ty : List ℕ) (earlier : List MemberDeclaration) (member : MemberDeclaration) → first_of (member_faults types ty earlier member) ≡ None → length earlier < 32
unfolding member_faults
member_few types ty earlier member h =
    let twice = fault_if (is_there (member_named earlier member.name.name)) (DuplicateMember member.name.at) in
    let many = fault_if (leb 32 (length earlier)) (TooManyMembers member.name.at) in
    let target = target_faults types (target_named member.kind) in
    let inverse = inverse_faults types ty member.name.name (target_named member.kind) (inverse_named member.kind) in
    let names = (none_of_both (twice ++ many) target (none_of_both (twice ++ many ++ target) inverse h).0).0 in
    below_where_failed 32 (length earlier) (last_failed (leb 32 (length earlier)) (TooManyMembers member.name.at) (none_of_both twice many names).1)

members_few : (types : List TypeDeclaration) (ty : List ℕ) (earlier members : List MemberDeclaration) → length earlier ≤ 32 → first_of (members_faults types ty earlier members) ≡ None → length earlier + length members ≤ 32
unfolding members_faults
members_few types ty earlier [] le h = omega arith
members_few types ty earlier (member ∷ members) le h =
    let parts = none_of_both (member_faults types ty earlier member) (members_faults types ty (earlier ++ member ∷ []) members) h in
    let lt = member_few types ty earlier member parts.0 in
    let longer = length-append earlier (member ∷ []) in
    let others = members_few types ty (earlier ++ member ∷ []) members (omega arith) parts.1 in
    omega arith

name_few : (earlier : List TypeDeclaration) (ty : TypeDeclaration) → first_of (name_faults earlier ty) ≡ None → length earlier < 64
unfolding name_faults
name_few earlier ty h =
    let twice = fault_if (is_there (type_named earlier ty.name.name)) (DuplicateType ty.name.at) in
    let large = fault_if (ltb 1000 (declared_sizes ty.members)) (CellTooLarge ty.name.at) in
    let many = fault_if (leb 64 (length earlier)) (TooManyTypes ty.name.at) in
    below_where_failed 64 (length earlier) (last_failed (leb 64 (length earlier)) (TooManyTypes ty.name.at) (none_of_both (twice ++ large) many h).1)

types_few : (types earlier declared : List TypeDeclaration) → length earlier ≤ 64 → first_of (types_faults types earlier declared) ≡ None → (length earlier + length declared ≤ 64) × AllByRecursion (λ ty. length ty.members ≤ 32) declared
unfolding types_faults
types_few types earlier [] le h = (omega arith, tt)
types_few types earlier (ty ∷ declared) le h =
    let parts = none_of_both (name_faults earlier ty ++ members_faults types ty.name.name [] ty.members) (types_faults types (earlier ++ ty ∷ []) declared) h in
    let here = none_of_both (name_faults earlier ty) (members_faults types ty.name.name [] ty.members) parts.0 in
    let lt = name_few earlier ty here.0 in
    let members : length ty.members ≤ 32 = omega (arith, members_few types ty.name.name [] ty.members (omega arith) here.1) in
    let longer = length-append earlier (ty ∷ []) in
    let others = types_few types (earlier ++ ty ∷ []) declared (omega arith) parts.1 in
    (omega (arith, others.0), (members, others.1))

pub faultless_few : (types : List TypeDeclaration) → first_of (faults_of types) ≡ None → AreFew types
faultless_few types h =
    let few = types_few types [] types (omega arith) h in
    record { types_few = omega (arith, few.0); members_few = few.1 }
