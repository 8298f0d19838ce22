-- The images of the cases so far were added.
use Rattle.std.proofs.Common.{◌≡◌, ◌++◌, map, take, drop}
use Rattle.ostore_base.specs.declared.memory.crashes.Remains.{Remains}
use Rattle.ostore_base.specs.CrashImages.{image_left, cases_tried}
use Rattle.ostore_base.proofs.memory.crashes.add_images.Given as goal

abbrev pub invariant-loop-number : goal.invariant-loop-number
invariant-loop-number l = l.images ≡ l.fn.images ++ map (λ (case : Remains × Remains). image_left l.first (drop l.skip l.past.items) case.0 case.1) (take l.number (cases_tried l.filler))
