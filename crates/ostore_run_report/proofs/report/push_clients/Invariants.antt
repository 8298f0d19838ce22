-- What is printed, with the text of the clients that are left, is the whole text.
use Rattle.std.proofs.Common.{◌≡◌, ◌++◌}
use Rattle.ostore_run_report.specs.Report.{clients_text}
use Rattle.ostore_run_report.proofs.report.push_clients.Given as goal

abbrev pub invariant-loop-client : goal.invariant-loop-client
invariant-loop-client l = l.out ++ clients_text l.client-iterator.a.rest.now l.client-iterator.b.rest.now ≡ l.initial.out ++ clients_text l.clients l.results
