use Rattle.ostore_job_text.proofs.FaultsTold.{read_is_told}
use Rattle.ostore_job_text.proofs.laws.first_fault_is_read.Goals as goal

pub returns : goal.returns
returns c = read_is_told
