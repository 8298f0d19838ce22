use Rattle.std.proofs.Common.{◌≡◌, take, drop}
use Rattle.ostore_schema_layout.specs.Faults.{types_faults, faults_of, first_of}
use Rattle.ostore_schema_layout.proofs.reading.faults.first_fault.Given as goal

abbrev pub invariant-loop-i : goal.invariant-loop-i
invariant-loop-i l = first_of (types_faults l.types (take l.i l.types) (drop l.i l.types)) ≡ first_of (faults_of l.types)
