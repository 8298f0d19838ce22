-- What is left of the pointers decides.
use Rattle.std.proofs.Common.{◌+◌, length, map}
use Rattle.ostore_relocation.proofs.FitLaws.{CellDecides}
use Rattle.ostore_relocation.proofs.fitness.cell_leads.Given as goal

abbrev pub invariant-loop-at : goal.invariant-loop-at
invariant-loop-at l = CellDecides l.image.bytes l.offset l.pointers (map (λ at. l.offset + at) l.initial.pointers)

abbrev pub decreases-loop-at : goal.decreases-loop-at
decreases-loop-at l = length l.pointers
