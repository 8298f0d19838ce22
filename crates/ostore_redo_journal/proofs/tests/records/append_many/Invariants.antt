-- The journal is in order, and the record is as it was.
use Rattle.std.proofs.Common.{◌≡◌}
use Rattle.ostore_redo_journal.specs.Order.{IsInOrder}
use Rattle.ostore_redo_journal.proofs.tests.records.append_many.Given as goal

abbrev pub invariant-loop-time : goal.invariant-loop-time
invariant-loop-time g l = record {
  in_order : IsInOrder g.D.Disk.content g.D.Disk.may_leave l.journal;
  same : l.rec ≡ l.fn.rec;
}
