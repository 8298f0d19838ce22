-- The pointers so far, with those of the members that are left, are all pointers.
use Rattle.std.proofs.Common.{◌≡◌, ◌+◌, ◌++◌, drop}
use Rattle.std.specs.List.{flat_map}
use Rattle.ostore_schema_layout.specs.Cells.{places_from, pointers_of_place, sizes, type_pointers}
use Rattle.ostore_schema_layout.proofs.pointers.push_type_pointers.Given as goal

abbrev pub invariant-loop-member : goal.invariant-loop-member
invariant-loop-member l = record {
  left : l.places.items ++ flat_map pointers_of_place (places_from l.at (drop l.member-index l.members)) ≡ l.initial.places.items ++ type_pointers l.members;
  sized : l.at + sizes (drop l.member-index l.members) ≡ sizes l.members;
}
