use Rattle.ostore_relocation.specs.Places.{root_pointers}
use Rattle.ostore_relocation.specs.Pointers.{pointer_in, with_pointers}
use Rattle.ostore_relocation.proofs.RootLaws.{RootTurns}
use Rattle.ostore_relocation.proofs.roots.change_roots.Given as goal

abbrev pub invariant-loop-i : goal.invariant-loop-i
invariant-loop-i l = RootTurns (pointer_in l.form l.space.pages) l.initial.image.bytes l.image.bytes l.i (with_pointers (pointer_in l.form l.space.pages) (root_pointers l.initial.image.bytes) l.initial.image.bytes)
