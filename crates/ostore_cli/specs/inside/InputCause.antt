-- Why a source's text could not be had.
use Rattle.std.specs.Prelude.{◌≡◌, ℕ, ◌≤◌, Result, Ok, Err}
use Rattle.ostore_base.specs.Faults.{Rose}
use Rattle.ostore_cli.specs.declared.streams.reading.InputFault.{InputFault}
use Rattle.ostore_cli.specs.declared.streams.reading.InputFault.TheVariants.{SourceFailed, OutOfMemory}

-- reading failed only where the source's count of faults rose; else the count stayed
abbrev pub HasInputCause : {T : Type 0} → ℕ → ℕ → Result T InputFault → Type 0
HasInputCause before now (Ok x) = now ≡ before
HasInputCause before now (Err SourceFailed) = (before ≤ now) × Rose before now
HasInputCause before now (Err OutOfMemory) = now ≡ before
