-- The cells of the rows so far are the schema's.
use Rattle.std.proofs.Common.{ℕ, ◌<◌}
use Rattle.ostore_relocation.specs.Fitness.{IsCellOf}
use Rattle.ostore_relocation.proofs.FitLaws.{cell_at}
use Rattle.ostore_relocation.proofs.fitness.are_rows_fit.Given as goal

abbrev pub invariant-loop-i : goal.invariant-loop-i
invariant-loop-i l = (k : ℕ) → k < l.i → IsCellOf l.schema (cell_at l.image.bytes k)
