-- The members before this one have no pointers.
use Rattle.std.proofs.Common.{◌≡◌, ◌+◌, drop}
use Rattle.ostore_schema_layout.specs.Cells.{sizes}
use Rattle.ostore_schema_layout.specs.inside.PointersLeft.{member_pointers}
use Rattle.ostore_schema_layout.proofs.pointers.walk.next_member.Given as goal

abbrev pub invariant-loop-i : goal.invariant-loop-i
invariant-loop-i l = record {
  left : member_pointers l.at (drop l.i l.members) ≡ member_pointers l.fn.at l.members;
  sized : l.at + sizes (drop l.i l.members) ≡ l.fn.at + sizes l.members;
}
