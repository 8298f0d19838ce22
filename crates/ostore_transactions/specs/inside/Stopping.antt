-- The fault with which an attempt stops.
use Rattle.ostore_object_ops.specs.declared.stop.Stop.{Stop}
use Rattle.ostore_object_ops.specs.declared.stop.Stop.TheVariants as stops
use Rattle.ostore_client_core.specs.declared.fault.AttemptFault.{AttemptFault}
use Rattle.ostore_client_core.specs.declared.fault.AttemptFault.TheVariants.{NoSpace, OutOfMemory}

abbrev pub fault_by : Stop AttemptFault → AttemptFault
fault_by (stops.Fault fault) = fault
fault_by (stops.NoSpace lack) = NoSpace lack.segment lack.need
fault_by stops.OutOfMemory = OutOfMemory
