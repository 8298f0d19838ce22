-- What a step of reading found.
use Rattle.std.specs.Prelude.{ℕ, List}
use Rattle.ostore_redo_journal.specs.declared.header.Header.{Header}
use Rattle.ostore_redo_journal.specs.declared.scanning.Step.{Step}
use Rattle.ostore_redo_journal.specs.declared.scanning.Step.TheVariants.{Bad, Record}
use Rattle.ostore_redo_journal.specs.OnDisk.{IsBad, HasRecord}

abbrev pub StepIs : Header → ℕ → List ℕ → Step → Type 0
StepIs header records rest Bad = IsBad header records rest
StepIs header records rest (Record size) = HasRecord header records rest size
