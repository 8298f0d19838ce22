-- Why a text for `try` is refused. The length of the whole text is judged first, then the schema's part, then the
-- job's, whose places count from the start of the whole text. A text without a fault is refused where its schema
-- or its job is none of those that are built.
use Rattle.std.specs.Prelude.{◌≡◌, ◌⊎◌, ℕ, ◌≤◌, List, length, Ok, Err}
use Rattle.ostore_schema_layout.specs.declared.schema.Schema.{Schema}
use Rattle.ostore_schema_layout.specs.declared.fault.SchemaFault.{SchemaFault}
use Rattle.ostore_schema_layout.specs.Parsed.{parsed}
use Rattle.ostore_job_text.specs.declared.fault.JobFault.{JobFault}
use Rattle.ostore_job_text.specs.declared.job.Job.{Job}
use Rattle.ostore_object_ops.specs.Suits.{IsOfInts}
use Rattle.ostore_try_input.specs.declared.reading.fault.TryFault.{TryFault}
use Rattle.ostore_try_input.specs.declared.reading.fault.TryFault.TheVariants as answers
use Rattle.ostore_job_text.specs.Limits.{longest_text}
use Rattle.ostore_job_text.specs.FaultsOf.{IsTooLong, IsFaultFrom}
use Rattle.ostore_job_text.specs.ParsedJob.{parsed_from}
use Rattle.ostore_try_input.specs.Spelling.{AreBuiltClients, schema_part, job_start}

-- the text isn't too long, and this is the fault of its schema's part
pub record HasSchemaFault (text : List ℕ) (fault : SchemaFault) : Type 0 where
  pub short : length text ≤ longest_text
  pub told : parsed (schema_part text) ≡ Err fault

-- the text isn't too long, and its schema's part is this schema
pub record HasSchema (text : List ℕ) (schema : Schema) : Type 0 where
  pub short : length text ≤ longest_text
  pub parsed_so : parsed (schema_part text) ≡ Ok schema

-- its schema has no fault, and this is the fault of its job's part
pub record HasJobFault (text : List ℕ) (fault : JobFault) : Type 0 where
  pub schema : Schema
  pub has : HasSchema text schema
  pub told : IsFaultFrom (job_start text) text fault

-- neither part has a fault, and the schema or the job isn't built
pub record IsNotBuilt (text : List ℕ) : Type 0 where
  pub schema : Schema
  pub has : HasSchema text schema
  pub job : Job
  pub told : parsed_from (job_start text) text ≡ Ok job
  pub unbuilt : IsOfInts schema → AreBuiltClients job.clients → ⊥

-- the text is refused for this; want of memory is no fault of a text
abbrev pub IsRefusedFor : List ℕ → TryFault → Type 0
IsRefusedFor text (answers.Schema fault) = HasSchemaFault text fault
IsRefusedFor text (answers.Job fault) = IsTooLong text fault ⊎ HasJobFault text fault
IsRefusedFor text answers.Refused = IsNotBuilt text
IsRefusedFor text answers.OutOfMemory = ⊥

-- the text was refused for this, unless memory ran out
abbrev pub IsRefusedOrMemory : List ℕ → TryFault → Type 0
IsRefusedOrMemory text fault = (fault ≡ answers.OutOfMemory) ⊎ IsRefusedFor text fault
