use Rattle.std.proofs.Common.{refl}
use Rattle.ostore_client_turns.specs.Runs.{script_of}
use Rattle.ostore_client_turns.proofs.tests.report_of.Goals as goal

pub run_turns-requires-clause-fresh : goal.run_turns-requires-clause-fresh
run_turns-requires-clause-fresh g c = c.in-Ok.ensures.empty

pub run_turns-requires-clause-served : goal.run_turns-requires-clause-served
run_turns-requires-clause-served g c = c.in-Ok.ensures.served (script_of c.in_ok-schema.schema c.in_ok-job.job) refl
