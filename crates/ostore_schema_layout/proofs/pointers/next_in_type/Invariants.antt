-- No pointer of the members before this one is at `from` or behind it, so that the next is one of those that are left.
use Rattle.std.proofs.Common.{◌≡◌, ◌+◌, drop, nat_le}
use Rattle.std.specs.List.{find, flat_map}
use Rattle.ostore_schema_layout.specs.Cells.{places_from, pointers_of_place, sizes, type_pointers}
use Rattle.ostore_schema_layout.proofs.pointers.next_in_type.Given as goal

abbrev pub invariant-loop-member : goal.invariant-loop-member
invariant-loop-member l = record {
  left : find (λ place. nat_le l.from place) (flat_map pointers_of_place (places_from l.at (drop l.member-index l.members))) ≡ find (λ place. nat_le l.from place) (type_pointers l.members);
  sized : l.at + sizes (drop l.member-index l.members) ≡ sizes l.members;
}
