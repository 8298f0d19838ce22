use Rattle.ostore_turns.proofs.DiskLaws.{one_fault}
use Rattle.ostore_turns.proofs.laws.disk_faults_are_told.Goals as goal

pub returns : goal.returns
returns c = one_fault
