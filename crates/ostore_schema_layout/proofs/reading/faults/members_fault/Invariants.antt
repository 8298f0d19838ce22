use Rattle.std.proofs.Common.{◌≡◌, [], take, drop}
use Rattle.ostore_schema_layout.specs.Faults.{members_faults, first_of}
use Rattle.ostore_schema_layout.proofs.reading.faults.members_fault.Given as goal

abbrev pub invariant-loop-i : goal.invariant-loop-i
invariant-loop-i l = first_of (members_faults l.types l.ty.name.name (take l.i l.ty.members) (drop l.i l.ty.members)) ≡ first_of (members_faults l.types l.ty.name.name [] l.ty.members)
