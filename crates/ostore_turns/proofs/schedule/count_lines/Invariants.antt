use Rattle.std.proofs.Common.{◌≡◌, take}
use Rattle.std.specs.List.{sum_by}
use Rattle.ostore_job_text.specs.RunnableJobs.{lines_of}
use Rattle.ostore_turns.proofs.schedule.count_lines.Given as goal

abbrev pub invariant-loop-txn : goal.invariant-loop-txn
invariant-loop-txn l = l.lines ≡ sum_by lines_of (take l.txn-index l.client.txns)
