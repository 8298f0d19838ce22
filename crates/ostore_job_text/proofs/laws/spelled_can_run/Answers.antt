use Rattle.ostore_job_text.proofs.SpelledRuns.{spelled_runs}
use Rattle.ostore_job_text.proofs.laws.spelled_can_run.Goals as goal

pub returns : goal.returns
returns c = spelled_runs
