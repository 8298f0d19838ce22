-- All members are ints where the ones that are left are.
use Rattle.std.proofs.Common.{drop}
use Rattle.std.specs.Prelude.{◌↔◌}
use Rattle.ostore_object_ops.specs.Suits.{AreInts}
use Rattle.ostore_object_ops.proofs.suits.are_ints.Given as goal

abbrev pub invariant-loop-member : goal.invariant-loop-member
invariant-loop-member l = AreInts (drop l.member-index l.members) ↔ AreInts l.members
