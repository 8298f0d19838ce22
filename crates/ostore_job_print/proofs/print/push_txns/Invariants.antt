-- What is printed, with the lines of the transactions that are left, is the whole text.
use Rattle.std.proofs.Common.{◌≡◌, ◌++◌, drop}
use Rattle.std.specs.List.{flat_map}
use Rattle.ostore_text_words.specs.Lines.{text_of_lines}
use Rattle.ostore_job_text.specs.Canonical.{txn_lines}
use Rattle.ostore_job_print.proofs.print.push_txns.Given as goal

abbrev pub invariant-loop-txn : goal.invariant-loop-txn
invariant-loop-txn l = l.out ++ text_of_lines (flat_map txn_lines (drop l.txn-index l.txns)) ≡ l.initial.out ++ text_of_lines (flat_map txn_lines l.txns)
