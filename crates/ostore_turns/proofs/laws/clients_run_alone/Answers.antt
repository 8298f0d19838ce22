use Rattle.ostore_turns.proofs.SerialLaws.{run_alone}
use Rattle.ostore_turns.proofs.laws.clients_run_alone.Goals as goal

pub returns : goal.returns
returns c = run_alone
