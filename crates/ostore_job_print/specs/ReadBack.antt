-- What is read of a text that is printed for a job: that job again.
use Rattle.std.specs.Prelude.{◌≡◌, ℕ, ◌≤◌, if◌then◌else◌, nat_le, List, length, Result, Ok, Err}
use Rattle.std.specs.Str.{IsUtf8}
use Rattle.ostore_job_text.specs.declared.fault.JobFault.{JobFault}
use Rattle.ostore_job_text.specs.declared.fault.JobFault.TheVariants as faults
use Rattle.ostore_job_text.specs.declared.job.Job.{Job}
use Rattle.ostore_job_text.specs.Limits.{longest_text}
use Rattle.ostore_job_text.specs.LawfulJob.{IsLawfulJob}
use Rattle.ostore_job_text.specs.JobSpelling.{SpellsJob}
use Rattle.ostore_job_text.specs.ParsedJob.{parsed_job}

-- the job, unless the text is longer than what is read
abbrev pub job_or_too_long : List ℕ → Job → Result Job JobFault
job_or_too_long text job = if nat_le (length text) longest_text then Ok job else Err (faults.TooLong longest_text)

-- the text is that of a job which is read from it again
pub record IsReadBack (text : List ℕ) (job : Job) : Type 0 where
  pub utf8 : IsUtf8 text
  pub spells : length text ≤ longest_text → SpellsJob text job
  pub read : parsed_job text ≡ job_or_too_long text job

-- so is that of every lawful job
abbrev pub IsReadBackIfLawful : List ℕ → Job → Type 0
IsReadBackIfLawful text job = IsLawfulJob job → IsReadBack text job
