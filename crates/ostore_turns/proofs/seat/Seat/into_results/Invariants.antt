use Rattle.std.proofs.Common.{◌≡◌, ◌++◌, replicate}
use Rattle.ostore_run_report.specs.declared.results.TxnResult.TheVariants.{NotRun}
use Rattle.ostore_turns.proofs.seat.Seat.into_results.Given as goal

abbrev pub invariant-loop-txn : goal.invariant-loop-txn
invariant-loop-txn l = l.results ≡ l.fn.self.results ++ replicate l._txn NotRun
