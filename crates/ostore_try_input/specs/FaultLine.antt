-- The line that is printed for a text that is refused.
use Rattle.std.specs.Prelude.{ℕ, List, ◌++◌, codes, decimal}
use Rattle.ostore_schema_layout.specs.declared.fault.SchemaFault.{SchemaFault}
use Rattle.ostore_schema_layout.specs.Titles.{fault_number, fault_name, fault_place}
use Rattle.ostore_job_text.specs.declared.fault.JobFault.{JobFault}
use Rattle.ostore_try_input.specs.declared.reading.fault.TryFault.{TryFault}
use Rattle.ostore_try_input.specs.declared.reading.fault.TryFault.TheVariants as answers
use Rattle.ostore_job_text.specs.JobFaults as jobs

-- `WORD fault NUMBER NAME at PLACE`
abbrev pub fault_at_place : List ℕ → ℕ → List ℕ → ℕ → List ℕ
fault_at_place word number name place =
    word ++ codes " fault " ++ decimal number ++ codes " " ++ name ++ codes " at " ++ decimal place ++ codes "\n"

abbrev pub fault_line : SchemaFault → List ℕ
fault_line fault = fault_at_place (codes "schema") (fault_number fault) (fault_name fault) (fault_place fault)

abbrev pub job_fault_line : JobFault → List ℕ
job_fault_line fault = fault_at_place (codes "job") (jobs.fault_number fault) (jobs.fault_name fault) (jobs.fault_place fault)

-- the line of what a text is refused for
abbrev pub refusal_line : TryFault → List ℕ
refusal_line (answers.Schema fault) = fault_line fault
refusal_line (answers.Job fault) = job_fault_line fault
refusal_line answers.Refused = codes "text refused\n"
refusal_line answers.OutOfMemory = codes "out of memory\n"
