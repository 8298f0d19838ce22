use Rattle.ostore_job_text.proofs.TextsWithin.{spelled_within}
use Rattle.ostore_job_text.proofs.laws.spelled_is_within_limits.Goals as goal

pub returns : goal.returns
returns c = spelled_within
