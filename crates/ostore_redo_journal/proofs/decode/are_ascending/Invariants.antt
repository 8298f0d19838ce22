use Rattle.std.proofs.Common.{◌≡◌, ◌*◌, ◌↔◌, length}
use Rattle.ostore_redo_journal.specs.Records.{pages_of, AreAscending}
use Rattle.ostore_redo_journal.proofs.decode.are_ascending.Given as goal

-- the pages so far are ascending, so that all are where the others are
abbrev pub invariant-loop-left : goal.invariant-loop-left
invariant-loop-left l = record {
  size : length l.rest ≡ 4100 * l.left;
  same : AreAscending 0 l.limit (pages_of l.count l.bytes) ↔ AreAscending l.low l.limit (pages_of l.left l.rest);
}

abbrev pub decreases-loop-left : goal.decreases-loop-left
decreases-loop-left l = l.left
