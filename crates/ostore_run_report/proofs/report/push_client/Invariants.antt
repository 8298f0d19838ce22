-- What is printed, with the text of the results that are left, is the whole text.
use Rattle.std.proofs.Common.{◌≡◌, ◌+◌, ◌++◌, drop}
use Rattle.std.specs.List.{flat_map, enumerate_from}
use Rattle.ostore_run_report.specs.Report.{client_text, result_text}
use Rattle.ostore_run_report.proofs.report.push_client.Given as goal

abbrev pub invariant-loop-i : goal.invariant-loop-i
invariant-loop-i l = l.out ++ flat_map (λ numbered. result_text l.name numbered.0 numbered.1) (enumerate_from (l.i + 1) (drop l.i l.results)) ≡ l.initial.out ++ client_text l.name l.results
