-- The sizes so far, with those of the members that are left, are all sizes.
use Rattle.std.proofs.Common.{◌≡◌, ◌+◌, drop}
use Rattle.ostore_schema_layout.specs.Cells.{sizes}
use Rattle.ostore_schema_layout.proofs.cells.members_size.Given as goal

abbrev pub invariant-loop-member : goal.invariant-loop-member
invariant-loop-member l = l.size + sizes (drop l.member-index l.members) ≡ sizes l.members
