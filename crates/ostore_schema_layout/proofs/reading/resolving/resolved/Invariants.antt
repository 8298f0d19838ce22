use Rattle.std.proofs.Common.{◌≡◌, map, take}
use Rattle.ostore_schema_layout.specs.Resolved.{resolved_type}
use Rattle.ostore_schema_layout.proofs.reading.resolving.resolved.Given as goal

abbrev pub invariant-loop-ty : goal.invariant-loop-ty
invariant-loop-ty l = l.found ≡ map (resolved_type l.types) (take l.ty-index l.types)
