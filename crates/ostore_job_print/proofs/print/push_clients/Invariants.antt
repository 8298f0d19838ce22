-- What is printed, with the lines of the clients that are left, is the whole text.
use Rattle.std.proofs.Common.{◌≡◌, ◌++◌, drop}
use Rattle.std.specs.List.{flat_map}
use Rattle.ostore_text_words.specs.Lines.{text_of_lines}
use Rattle.ostore_job_text.specs.Canonical.{client_lines}
use Rattle.ostore_job_print.proofs.print.push_clients.Given as goal

abbrev pub invariant-loop-client : goal.invariant-loop-client
invariant-loop-client l = l.out ++ text_of_lines (flat_map client_lines (drop l.client-index l.clients)) ≡ l.initial.out ++ text_of_lines (flat_map client_lines l.clients)
