use Rattle.ostore_job_text.proofs.SpelledRuns.{spelled_settings}
use Rattle.ostore_job_text.proofs.laws.spelled_settings_are_lawful.Goals as goal

pub returns : goal.returns
returns c = spelled_settings
