use Rattle.ostore_job_text.proofs.JobAgain.{one_spelled}
use Rattle.ostore_job_text.proofs.laws.one_job_is_spelled.Goals as goal

pub returns : goal.returns
returns c = one_spelled
