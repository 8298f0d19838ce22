use Rattle.ostore_job_text.proofs.JobAgain.{spelled_again}
use Rattle.ostore_job_text.proofs.laws.spelled_is_read.Goals as goal

pub returns : goal.returns
returns c = spelled_again
