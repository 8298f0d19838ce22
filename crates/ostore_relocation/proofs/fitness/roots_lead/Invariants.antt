-- The pointers of the rows that are left decide.
use Rattle.std.proofs.Common.{◌-◌}
use Rattle.std.specs.List.{flat_map, range_with_len}
use Rattle.ostore_relocation.specs.Places.{root_pointer, root_pointers}
use Rattle.ostore_relocation.proofs.FitLaws.{Decides}
use Rattle.ostore_relocation.proofs.fitness.roots_lead.Given as goal

abbrev pub invariant-loop-i : goal.invariant-loop-i
invariant-loop-i l = Decides l.image.bytes (flat_map (root_pointer l.image.bytes) (range_with_len l.i (101 - l.i))) (root_pointers l.image.bytes)
