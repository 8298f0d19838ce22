-- The replies before this one are printed.
use Rattle.std.proofs.Common.{◌≡◌, ◌++◌, take}
use Rattle.std.specs.List.{flat_map}
use Rattle.ostore_run_report.specs.Report.{reply_line}
use Rattle.ostore_run_report.proofs.report.replies.push_replies.Given as goal

abbrev pub invariant-loop-reply : goal.invariant-loop-reply
invariant-loop-reply l = l.out ≡ l.initial.out ++ flat_map reply_line (take l.reply-index l.replies)
