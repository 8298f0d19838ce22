-- The member is none of those that were passed. Among the places of the members that are left it has the place that
-- it has among all.
use Rattle.std.proofs.Common.{◌≡◌, ◌+◌, ◌-◌, ◌≤◌, drop}
use Rattle.std.specs.List.{slice_get}
use Rattle.ostore_schema_layout.specs.Cells.{places_from, sizes}
use Rattle.ostore_schema_layout.proofs.cells.place_among.Given as goal

abbrev pub invariant-loop-number : goal.invariant-loop-number
invariant-loop-number l = record {
  passed : l.number ≤ l.member.0;
  placed : slice_get (places_from l.offset (drop l.number l.members)) (l.member.0 - l.number) ≡ slice_get (places_from 0 l.members) l.member.0;
  sized : l.offset + sizes (drop l.number l.members) ≡ sizes l.members;
}
