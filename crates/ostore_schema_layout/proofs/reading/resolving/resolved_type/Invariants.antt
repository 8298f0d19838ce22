use Rattle.std.proofs.Common.{◌≡◌, map, take}
use Rattle.ostore_schema_layout.specs.Resolved.{resolved_member}
use Rattle.ostore_schema_layout.proofs.reading.resolving.resolved_type.Given as goal

abbrev pub invariant-loop-member : goal.invariant-loop-member
invariant-loop-member l = l.members ≡ map (resolved_member l.types) (take l.member-index l.ty.members)
