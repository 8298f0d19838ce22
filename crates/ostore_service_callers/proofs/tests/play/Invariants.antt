use Rattle.std.proofs.Common.{◌<◌, length}
use Rattle.ostore_page_service.specs.Servers.{opened_of}
use Rattle.ostore_service_callers.proofs.tests.play.Given as goal

abbrev pub invariant-loop-client : goal.invariant-loop-client
invariant-loop-client g l = 10 < length (opened_of l.server)
