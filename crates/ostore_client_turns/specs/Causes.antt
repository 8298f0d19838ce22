-- Why an attempt ended, as a report says it.
use Rattle.std.specs.Prelude.{Option, Some, None}
use Rattle.ostore_page_service.specs.declared.answers.CommitFault.{CommitFault}
use Rattle.ostore_page_service.specs.declared.answers.CommitFault.TheVariants as commits
use Rattle.ostore_client_core.specs.declared.fault.AttemptFault.{AttemptFault}
use Rattle.ostore_client_core.specs.declared.fault.AttemptFault.TheVariants as faults
use Rattle.ostore_run_report.specs.declared.results.Cause.{Cause}
use Rattle.ostore_run_report.specs.declared.results.Cause.TheVariants.{Busy, NoSpace, CacheFull, SpaceFull, Disk}

-- both faults of a disk are one, and want of memory is none
abbrev pub cause_of_commit : CommitFault → Option Cause
cause_of_commit commits.DiskFault = Some Disk
cause_of_commit (commits.Stopped after) = Some Disk
cause_of_commit commits.OutOfMemory = None

abbrev pub cause_of : AttemptFault → Option Cause
cause_of (faults.Busy busy) = Some (Busy busy.page busy.seen busy.found)
cause_of (faults.NoSpace segment need) = Some (NoSpace segment need)
cause_of (faults.CacheFull used capacity) = Some (CacheFull used capacity)
cause_of (faults.SpaceFull frames) = Some (SpaceFull frames)
cause_of (faults.Commit fault) = cause_of_commit fault
cause_of faults.OutOfMemory = None
