-- All members of all types are ints where those of the types that are left are.
use Rattle.std.proofs.Common.{drop}
use Rattle.std.specs.Prelude.{◌↔◌}
use Rattle.std.specs.List.{AllByRecursion}
use Rattle.ostore_object_ops.specs.Suits.{AreInts}
use Rattle.ostore_object_ops.proofs.suits.types_are_ints.Given as goal

abbrev pub invariant-loop-ty : goal.invariant-loop-ty
invariant-loop-ty l = AllByRecursion (λ ty. AreInts ty.members) (drop l.ty-index l.types) ↔ AllByRecursion (λ ty. AreInts ty.members) l.types
