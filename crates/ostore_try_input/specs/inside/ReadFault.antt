-- What a text for `try` is read as, where it isn't read.
use Rattle.std.specs.Prelude.{◌≡◌, ◌⊎◌, List, ℕ, Err}
use Rattle.ostore_schema_layout.specs.declared.schema.Schema.{Schema}
use Rattle.ostore_job_text.specs.declared.fault.JobFault.{JobFault}
use Rattle.ostore_try_input.specs.declared.reading.fault.TryFault.{TryFault}
use Rattle.ostore_try_input.specs.declared.reading.fault.TryFault.TheVariants as answers
use Rattle.ostore_job_text.specs.FaultsOf.{IsTooLong}
use Rattle.ostore_job_text.specs.ParsedJob.{parsed_from}
use Rattle.ostore_try_input.specs.Spelling.{job_start}
use Rattle.ostore_try_input.specs.TryFaults.{HasSchemaFault, HasSchema, IsNotBuilt}

pub record ReadsJobFault (text : List ℕ) (fault : JobFault) : Type 0 where
  pub schema : Schema
  pub has : HasSchema text schema
  pub told : parsed_from (job_start text) text ≡ Err fault

abbrev pub IsReadAs : List ℕ → TryFault → Type 0
IsReadAs text (answers.Schema fault) = HasSchemaFault text fault
IsReadAs text (answers.Job fault) = IsTooLong text fault ⊎ ReadsJobFault text fault
IsReadAs text answers.Refused = IsNotBuilt text
IsReadAs text answers.OutOfMemory = ⊥

abbrev pub IsReadOrMemory : List ℕ → TryFault → Type 0
IsReadOrMemory text fault = (fault ≡ answers.OutOfMemory) ⊎ IsReadAs text fault
