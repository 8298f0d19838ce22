-- The faults of what a text declares are in their order, and so the one that is answered is the least.
use Rattle.std.proofs.Common.{◌≡◌, ◌⊎◌, ℕ, ◌+◌, ◌<◌, ◌≤◌, Bool, true, false, not, leb, ltb, List, [], ◌∷◌, ◌++◌, length, Option, Some, None, Ok, refl, sym, subst, inl, inr, arith}
use Rattle.std.specs.List.{AllByRecursion}
use Rattle.std.proofs.lemmas.Option.{same_Some}
use Rattle.std.proofs.lemmas.List.{append_assoc}
use Rattle.std.proofs.lemmas.List.Elements.{All-from_recursion, All-contains}
use Rattle.ostore_text_words.specs.Lines.{lines_of}
use Rattle.ostore_schema_layout.specs.declared.declarations.NameAt.{NameAt}
use Rattle.ostore_schema_layout.specs.declared.declarations.TypeDeclaration.{TypeDeclaration}
use Rattle.ostore_schema_layout.specs.declared.declarations.MemberDeclaration.{MemberDeclaration}
use Rattle.ostore_schema_layout.specs.declared.declarations.InverseDeclaration.{InverseDeclaration}
use Rattle.ostore_schema_layout.specs.declared.fault.SchemaFault.{SchemaFault}
use Rattle.ostore_schema_layout.specs.declared.fault.SchemaFault.TheVariants.{DuplicateType, DuplicateMember, UnknownType, InverseMismatch, CellTooLarge, TooManyTypes, TooManyMembers}
use Rattle.ostore_schema_layout.specs.Cells.{ArePairwise}
use Rattle.ostore_schema_layout.specs.DeclaredBy.{declared_by}
use Rattle.ostore_schema_layout.specs.Faults.{type_named, member_named, is_there, target_named, inverse_named, declared_sizes, is_inverse, fault_if, target_faults, inverse_faults, member_faults, members_faults, name_faults, types_faults, faults_of, first_of}
use Rattle.ostore_schema_layout.specs.Order.{IsBefore, IsLeastOf}
use Rattle.ostore_schema_layout.specs.Titles.{fault_place}
use Rattle.ostore_schema_layout.proofs.ordered.OrderLawsDeclared.{IsTargetIn, IsMemberIn, AreMembersIn, AreTypesFrom, declared_rises}

-- ---- faults between two places, in their order

abbrev IsFaultIn : ℕ → ℕ → SchemaFault → Type 0
IsFaultIn from until fault = (from ≤ fault_place fault) × (fault_place fault < until)

record AreFaultsIn (from until : ℕ) (faults : List SchemaFault) : Type 0 where
  pub rising : from ≤ until
  pub within : AllByRecursion (IsFaultIn from until) faults
  pub ordered : ArePairwise IsBefore faults

-- a fault is before those of later places
before_all : (from between until : ℕ) (fault : SchemaFault) (later : List SchemaFault) → IsFaultIn from between fault → AllByRecursion (IsFaultIn between until) later → AllByRecursion (IsBefore fault) later
before_all from between until fault [] h k = tt
before_all from between until fault (other ∷ others) h k = (inl (omega arith), before_all from between until fault others h k.1)

all_joined : (P : SchemaFault → Type 0) (faults later : List SchemaFault) → AllByRecursion P faults → AllByRecursion P later → AllByRecursion P (faults ++ later)
all_joined P [] later h k = k
all_joined P (fault ∷ faults) later h k = (h.0, all_joined P faults later h.1 k)

all_wider : (low from until high : ℕ) (faults : List SchemaFault) → low ≤ from → until ≤ high → AllByRecursion (IsFaultIn from until) faults → AllByRecursion (IsFaultIn low high) faults
all_wider low from until high [] h k w = tt
all_wider low from until high (fault ∷ faults) h k w = ((omega arith, omega arith), all_wider low from until high faults h k w.1)

ordered_joined : (from between until : ℕ) (faults later : List SchemaFault) → AllByRecursion (IsFaultIn from between) faults → ArePairwise IsBefore faults → AllByRecursion (IsFaultIn between until) later → ArePairwise IsBefore later
    → ArePairwise IsBefore (faults ++ later)
ordered_joined from between until [] later h r k s = s
ordered_joined from between until (fault ∷ faults) later h r k s =
    (all_joined (IsBefore fault) faults later r.0 (before_all from between until fault later h.0 k), ordered_joined from between until faults later h.1 r.1 k s)

joined : (from between until : ℕ) (faults later : List SchemaFault) → AreFaultsIn from between faults → AreFaultsIn between until later → AreFaultsIn from until (faults ++ later)
joined from between until faults later h k = record {
  rising = omega arith;
  within = all_joined (IsFaultIn from until) faults later (all_wider from from between until faults (omega arith) k.rising h.within) (all_wider from between until until later h.rising (omega arith) k.within);
  ordered = ordered_joined from between until faults later h.within h.ordered k.within k.ordered;
}

from_before : (low from until : ℕ) (faults : List SchemaFault) → low ≤ from → AreFaultsIn from until faults → AreFaultsIn low until faults
from_before low from until faults h k = record { rising = omega (arith, k.rising); within = all_wider low from until until faults h (omega arith) k.within; ordered = k.ordered }

none_in : (from until : ℕ) → from ≤ until → AreFaultsIn from until []
none_in from until h = record { rising = h; within = tt; ordered = tt }

one_in : (from until : ℕ) (test : Bool) (fault : SchemaFault) → from ≤ fault_place fault → fault_place fault < until → AreFaultsIn from until (fault_if test fault)
one_in from until true fault low high = record { rising = omega arith; within = ((low, high), tt); ordered = (tt, tt) }
one_in from until false fault low high = none_in from until (omega arith)

-- ---- faults at one place

at_member : (at : ℕ) (twice many : Bool) → AreFaultsIn at (at + 1) (fault_if twice (DuplicateMember at) ++ fault_if many (TooManyMembers at))
at_member at true true = record { rising = omega arith; within = ((omega arith, omega arith), ((omega arith, omega arith), tt)); ordered = ((inr (refl, omega arith), tt), (tt, tt)) }
at_member at true false = one_in at (at + 1) true (DuplicateMember at) (omega arith) (omega arith)
at_member at false many = one_in at (at + 1) many (TooManyMembers at) (omega arith) (omega arith)

at_type : (at : ℕ) (twice large many : Bool) → AreFaultsIn at (at + 1) (fault_if twice (DuplicateType at) ++ fault_if large (CellTooLarge at) ++ fault_if many (TooManyTypes at))
at_type at true true true = record {
  rising = omega arith;
  within = ((omega arith, omega arith), ((omega arith, omega arith), ((omega arith, omega arith), tt)));
  ordered = ((inr (refl, omega arith), (inr (refl, omega arith), tt)), ((inr (refl, omega arith), tt), (tt, tt)));
}
at_type at true true false = record { rising = omega arith; within = ((omega arith, omega arith), ((omega arith, omega arith), tt)); ordered = ((inr (refl, omega arith), tt), (tt, tt)) }
at_type at true false true = record { rising = omega arith; within = ((omega arith, omega arith), ((omega arith, omega arith), tt)); ordered = ((inr (refl, omega arith), tt), (tt, tt)) }
at_type at false true true = record { rising = omega arith; within = ((omega arith, omega arith), ((omega arith, omega arith), tt)); ordered = ((inr (refl, omega arith), tt), (tt, tt)) }
at_type at true false false = one_in at (at + 1) true (DuplicateType at) (omega arith) (omega arith)
at_type at false true false = one_in at (at + 1) true (CellTooLarge at) (omega arith) (omega arith)
at_type at false false many = one_in at (at + 1) many (TooManyTypes at) (omega arith) (omega arith)

-- ---- faults of members

target_faults_in : (types : List TypeDeclaration) (ty member : List ℕ) (from until : ℕ) (target : Option NameAt) (inverse : Option InverseDeclaration) → from ≤ until → IsTargetIn from until target inverse
    → AreFaultsIn from until (target_faults types target ++ inverse_faults types ty member target inverse)
target_faults_in types ty member from until None inverse h r = none_in from until h
target_faults_in types ty member from until (Some target) None h r =
    joined from until until _ [] (one_in from until (not (is_there (type_named types target.name))) (UnknownType target.at) r.0 r.1) (none_in until until (omega arith))
target_faults_in types ty member from until (Some target) (Some inverse) h r =
    joined from (target.at + 1) until _ _ (one_in from (target.at + 1) (not (is_there (type_named types target.name))) (UnknownType target.at) r.0 (omega arith))
    (one_in (target.at + 1) until (not (is_inverse types ty member target.name inverse)) (InverseMismatch inverse.at) r.2.0 r.2.1)

member_faults_in : (types : List TypeDeclaration) (ty : List ℕ) (earlier : List MemberDeclaration) (from until : ℕ) (member : MemberDeclaration) → IsMemberIn from until member → AreFaultsIn from until (member_faults types ty earlier member)
unfolding member_faults
member_faults_in types ty earlier from until member r =
    let at = member.name.at in
    let twice = fault_if (is_there (member_named earlier member.name.name)) (DuplicateMember at) in
    let many = fault_if (leb 32 (length earlier)) (TooManyMembers at) in
    let target = target_faults types (target_named member.kind) in
    let inverse = inverse_faults types ty member.name.name (target_named member.kind) (inverse_named member.kind) in
    subst (AreFaultsIn from until) (sym (append_assoc (twice ++ many) target inverse))
    (joined from (at + 1) until (twice ++ many) (target ++ inverse) (from_before from at (at + 1) (twice ++ many) r.0 (at_member at (is_there (member_named earlier member.name.name)) (leb 32 (length earlier))))
    (target_faults_in types ty member.name.name (at + 1) until (target_named member.kind) (inverse_named member.kind) (omega arith) r.2))

members_faults_in : (types : List TypeDeclaration) (ty : List ℕ) (earlier : List MemberDeclaration) (from until : ℕ) (members : List MemberDeclaration) → AreMembersIn from until members → AreFaultsIn from until (members_faults types ty earlier members)
unfolding members_faults
members_faults_in types ty earlier from until [] r = none_in from until r
members_faults_in types ty earlier from until (member ∷ members) r =
    joined from r.0 until _ _ (member_faults_in types ty earlier from r.0 member r.1) (members_faults_in types ty (earlier ++ member ∷ []) r.0 until members r.2)

-- ---- faults of types

name_faults_in : (earlier : List TypeDeclaration) (from : ℕ) (ty : TypeDeclaration) → from ≤ ty.name.at → AreFaultsIn from (ty.name.at + 1) (name_faults earlier ty)
unfolding name_faults
name_faults_in earlier from ty h =
    from_before from ty.name.at (ty.name.at + 1) _ h (at_type ty.name.at (is_there (type_named earlier ty.name.name)) (ltb 1000 (declared_sizes ty.members)) (leb 64 (length earlier)))

types_faults_in : (types earlier : List TypeDeclaration) (from : ℕ) (others : List TypeDeclaration) → AreTypesFrom from others → (until : ℕ) × AreFaultsIn from until (types_faults types earlier others)
unfolding types_faults
types_faults_in types earlier from [] r = (from, none_in from from (omega arith))
types_faults_in types earlier from (ty ∷ others) r =
    let rest = types_faults_in types (earlier ++ ty ∷ []) r.0 others r.3 in
    let members = members_faults_in types ty.name.name [] (ty.name.at + 1) r.0 ty.members r.2 in
    (rest.0, joined from r.0 rest.0 _ _ (joined from (ty.name.at + 1) r.0 _ _ (name_faults_in earlier from ty r.1) members) rest.1)

-- the faults of what a text declares are in their order
pub faults_in_order : (text : List ℕ) (types : List TypeDeclaration) → declared_by (lines_of text) ≡ Ok types → ArePairwise IsBefore (faults_of types)
faults_in_order text types e = (types_faults_in types [] 0 types (declared_rises text types e)).1.ordered

-- ---- the first of them

all_at_least : (fault : SchemaFault) (faults : List SchemaFault) → AllByRecursion (IsBefore fault) faults → AllByRecursion (λ other. (fault ≡ other) ⊎ IsBefore fault other) faults
all_at_least fault [] h = tt
all_at_least fault (other ∷ others) h = (inr h.0, all_at_least fault others h.1)

least_of_first : (fault : SchemaFault) (faults : List SchemaFault) → AllByRecursion (IsBefore fault) faults → IsLeastOf (fault ∷ faults) fault
least_of_first fault faults h = ((0, omega arith, refl), (inl refl, all_at_least fault faults h))

-- of faults in their order the first is the least
pub first_is_least : (faults : List SchemaFault) (fault : SchemaFault) → ArePairwise IsBefore faults → first_of faults ≡ Some fault → IsLeastOf faults fault
first_is_least [] fault h e = absurd cc
first_is_least (first ∷ others) fault h e = subst (IsLeastOf (first ∷ others)) (same_Some first fault e) (least_of_first first others h.0)

-- there is only one that is the least
pub least_is_one : (faults : List SchemaFault) (fault other : SchemaFault) → IsLeastOf faults fault → IsLeastOf faults other → fault ≡ other
least_is_one faults fault other h k =
    let here = All-contains (λ x. (fault ≡ x) ⊎ IsBefore fault x) faults other (All-from_recursion (λ x. (fault ≡ x) ⊎ IsBefore fault x) faults h.1) k.0 in
    let there = All-contains (λ x. (other ≡ x) ⊎ IsBefore other x) faults fault (All-from_recursion (λ x. (other ≡ x) ⊎ IsBefore other x) faults k.1) h.0 in
    elim here [
      | inl same ↦ same
      | inr before ↦ elim there [ inl same ↦ sym same | inr after ↦ absurd (omega arith) ]
    ]

-- the fault that a text's declarations answer is the least of theirs
pub least_fault : (text : List ℕ) (types : List TypeDeclaration) (fault : SchemaFault) → declared_by (lines_of text) ≡ Ok types → first_of (faults_of types) ≡ Some fault → IsLeastOf (faults_of types) fault
least_fault text types fault e first = first_is_least (faults_of types) fault (faults_in_order text types e) first
