use Rattle.std.proofs.Common.{◌≡◌, ◌≤◌, ◌+◌, length, map}
use Rattle.std.specs.List.{AllByRecursion}
use Rattle.ostore_relocation.specs.Pointers.{pointer_in, with_pointers}
use Rattle.ostore_relocation.proofs.cells.change_cell.Given as goal

abbrev pub invariant-loop-at : goal.invariant-loop-at
invariant-loop-at l =
    (AllByRecursion (λ at. l.offset + at + 4 ≤ 4096) l.pointers)
    × (with_pointers (pointer_in l.form l.space.pages) (map (λ at. l.offset + at) l.pointers) l.image.bytes ≡ with_pointers (pointer_in l.form l.space.pages) (map (λ at. l.offset + at) l.initial.pointers) l.initial.image.bytes)

abbrev pub decreases-loop-at : goal.decreases-loop-at
decreases-loop-at l = length l.pointers
