use Rattle.std.proofs.Common.{◌≡◌, ◌≤◌, ◌+◌, drop}
use Rattle.ostore_schema_layout.specs.Faults.{declared_sizes}
use Rattle.ostore_schema_layout.proofs.reading.faults.is_too_large.Given as goal

abbrev pub invariant-loop-member : goal.invariant-loop-member
invariant-loop-member l = (l.size ≤ 1000) × (l.size + declared_sizes (drop l.member-index l.members) ≡ declared_sizes l.members)
