-- What holds where commands stop before their last line.
use Rattle.ostore_segments.specs.declared.placement.NoSpace.{NoSpace}
use Rattle.ostore_object_ops.specs.declared.stop.Stop.{Stop}
use Rattle.ostore_object_ops.specs.declared.stop.Stop.TheVariants as stops

-- a fault of the holder's, of which the one thing holds, or a stop after calls that were all Ok, and then the other
abbrev pub Stopped : {F : Type 0} → Stop F → (F → Type 0) → Type 0 → Type 0
Stopped (stops.Fault fault) fails passes = fails fault
Stopped (stops.NoSpace lack) fails passes = passes
Stopped stops.OutOfMemory fails passes = passes

-- where it stopped for want of space
abbrev pub IfNoSpace : {F : Type 0} → (NoSpace → Type 0) → Stop F → Type 0
IfNoSpace P (stops.NoSpace lack) = P lack
IfNoSpace P (stops.Fault fault) = Unit {0}
IfNoSpace P stops.OutOfMemory = Unit {0}

-- where it stopped for want of memory
abbrev pub IfOutOfMemory : {F : Type 0} → Type 0 → Stop F → Type 0
IfOutOfMemory P stops.OutOfMemory = P
IfOutOfMemory P (stops.Fault fault) = Unit {0}
IfOutOfMemory P (stops.NoSpace lack) = Unit {0}
