-- Entries that are added to a schedule.
use Rattle.std.specs.Prelude.{◌<◌, ℕ, List, length}
use Rattle.std.specs.List.{AllByRecursion}
use Rattle.ostore_job_text.specs.LawfulJob.{IsLawfulTurn}
use Rattle.ostore_job_text.specs.declared.job.JobClient.{JobClient}
use Rattle.ostore_job_text.specs.declared.job.JobTurn.{JobTurn}

-- entries that were lawful in a job that has this client are so still
abbrev pub KeepsLawful : ℕ → List JobTurn → List JobTurn → Type 0
KeepsLawful number old new =
    (clients : List JobClient) → number < length clients → AllByRecursion (IsLawfulTurn clients) old
    → AllByRecursion (IsLawfulTurn clients) new
