use Rattle.ostore_job_text.proofs.SpelledRuns.{spelled_few}
use Rattle.ostore_job_text.proofs.laws.spelled_lines_are_few.Goals as goal

pub returns : goal.returns
returns c = spelled_few
