-- The faults of a job's text, as they are told: a number, a name and a place each.
use Rattle.std.specs.Prelude.{ℕ, List, codes}
use Rattle.ostore_job_text.specs.declared.fault.JobFault.{JobFault}
use Rattle.ostore_job_text.specs.declared.fault.JobFault.TheVariants as faults

-- how a fault is told
pub record Title : Type 0 where
  pub number : ℕ
  pub name : List ℕ
  pub place : ℕ

abbrev pub told : ℕ → List ℕ → ℕ → Title
told number name place = record { number = number; name = name; place = place }

-- want of memory has no number and no place, and 0 stands for them
abbrev pub fault_title : JobFault → Title
fault_title (faults.NotUtf8 at) = told 1 (codes "NotUtf8") at
fault_title (faults.Syntax at) = told 2 (codes "Syntax") at
fault_title (faults.DuplicateClient at) = told 3 (codes "DuplicateClient") at
fault_title (faults.TooManyClients at) = told 4 (codes "TooManyClients") at
fault_title (faults.BadOption at) = told 5 (codes "BadOption") at
fault_title (faults.UnknownTurn at) = told 6 (codes "UnknownTurn") at
fault_title (faults.TooLong at) = told 7 (codes "TooLong") at
fault_title faults.OutOfMemory = told 0 (codes "OutOfMemory") 0

abbrev pub fault_number : JobFault → ℕ
fault_number fault = (fault_title fault).number

abbrev pub fault_name : JobFault → List ℕ
fault_name fault = (fault_title fault).name

abbrev pub fault_place : JobFault → ℕ
fault_place fault = (fault_title fault).place
