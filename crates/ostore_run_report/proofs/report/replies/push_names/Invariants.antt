-- The names after the first, up to this one, are printed.
use Rattle.std.proofs.Common.{◌≡◌, ◌++◌, codes, take}
use Rattle.std.specs.List.{flat_map}
use Rattle.ostore_run_report.specs.Report.{listed_text}
use Rattle.ostore_run_report.proofs.report.replies.push_names.Given as goal

abbrev pub invariant-loop-listed : goal.invariant-loop-listed
invariant-loop-listed l = l.out ≡ l.initial.out ++ flat_map (λ listed. codes " " ++ listed_text listed) (take l.listed-index l.listed-items)
