use Rattle.ostore_relocation.specs.Places.{cell_pointers}
use Rattle.ostore_relocation.specs.Pointers.{pointer_in, with_pointers}
use Rattle.ostore_relocation.proofs.PageLaws.{Turns}
use Rattle.ostore_relocation.proofs.cells.change_cells.Given as goal

abbrev pub invariant-loop-i : goal.invariant-loop-i
invariant-loop-i l =
    Turns (pointer_in l.form l.space.pages) l.schema l.initial.image.bytes l.image.bytes l.i (with_pointers (pointer_in l.form l.space.pages) (cell_pointers l.schema l.initial.image.bytes) l.initial.image.bytes)
