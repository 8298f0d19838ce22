-- What an input for `try` has so that it can be run on pages.
use Rattle.std.specs.List.{AllByRecursion}
use Rattle.ostore_schema_layout.specs.Lawful.{IsLawful}
use Rattle.ostore_job_text.specs.LawfulJob.{HasLawfulSettings}
use Rattle.ostore_job_text.specs.RunnableJobs.{CanRun}
use Rattle.ostore_object_ops.specs.Suits.{IsOfInts}
use Rattle.ostore_try_input.specs.declared.input.TryInput.{TryInput}
use Rattle.ostore_try_input.specs.Spelling.{AreBuiltClients}

-- The schema is a lawful one, of ints alone; the job has few clients and lines, each option is within its limits, and all
-- commands are built.
pub record CanBeRun (input : TryInput) : Type 0 where
  pub lawful : IsLawful input.schema
  pub ints : IsOfInts input.schema
  pub job : CanRun input.job
  pub settings : AllByRecursion HasLawfulSettings input.job.clients
  pub built : AreBuiltClients input.job.clients
