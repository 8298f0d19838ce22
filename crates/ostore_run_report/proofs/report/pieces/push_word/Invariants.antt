-- What is printed, with the digits that are left, is the whole word.
use Rattle.std.proofs.Common.{◌≡◌, ◌≤◌, ◌++◌}
use Rattle.ostore_run_report.specs.Report.{word_text, low_digits}
use Rattle.ostore_run_report.proofs.report.pieces.push_word.Given as goal

abbrev pub invariant-loop-left : goal.invariant-loop-left
invariant-loop-left l = record {
  within : l.left ≤ 16;
  whole : l.out ++ low_digits l.left l.word ≡ l.initial.out ++ word_text l.word;
}

abbrev pub decreases-loop-left : goal.decreases-loop-left
decreases-loop-left l = l.left
