-- The items before this one are copied.
use Rattle.std.proofs.Common.{◌≡◌, take}
use Rattle.ostore_base.proofs.list.ListOf.copy.Given as goal

abbrev pub invariant-loop-item : goal.invariant-loop-item
invariant-loop-item g l = l.copies ≡ take l.item-index l.item-items
