-- The places so far, with those of the members that are left, are all places; the sizes likewise.
use Rattle.std.proofs.Common.{◌≡◌, ◌+◌, ◌++◌, drop}
use Rattle.ostore_schema_layout.specs.Cells.{places_from, sizes}
use Rattle.ostore_schema_layout.proofs.cells.layout_of_members.Given as goal

abbrev pub invariant-loop-member : goal.invariant-loop-member
invariant-loop-member l = record {
  placed : l.places ++ places_from l.at (drop l.member-index l.members) ≡ places_from 0 l.members;
  sized : l.at + sizes (drop l.member-index l.members) ≡ sizes l.members;
}
