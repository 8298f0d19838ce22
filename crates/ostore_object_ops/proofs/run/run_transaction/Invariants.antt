-- The lines so far have run on each list with which the holder may have begun.
use Rattle.std.proofs.Common.{◌≡◌, length}
use Rattle.ostore_segments.specs.Holdings.{Becomes}
use Rattle.ostore_object_ops.specs.Bound.{leads_of}
use Rattle.ostore_object_ops.specs.Claiming.{SeesLinePages}
use Rattle.ostore_object_ops.specs.Lines.{HasRun}
use Rattle.ostore_object_ops.proofs.run.run_transaction.Given as goal

abbrev pub invariant-loop-line : goal.invariant-loop-line
invariant-loop-line g l = record {
  run : Becomes (g.P.Pages.held l.fn.pages) (g.P.Pages.held l.pages) (HasRun l.schema l.txn l.progress.replies.items (leads_of (g.P.Pages.held l.pages) l.progress.vars));
  counted : length l.progress.replies.items ≡ l._line;
  sees : SeesLinePages l.txn.update (g.P.Pages.held l.fn.pages) → SeesLinePages l.txn.update (g.P.Pages.held l.pages);
  passes : g.P.Pages.passes l.fn.pages l.pages;
  told : g.P.Pages.told l.pages ≡ g.P.Pages.told l.fn.pages;
}
