use Rattle.ostore_client_core.proofs.RecordLaws.{records_then}
use Rattle.ostore_client_core.proofs.GoesLaws.{client_then, same_client_is}
use Rattle.ostore_client_core.proofs.tests.visit.Goals as goal

pub returns-in-Ok-clause-same : goal.returns-in-Ok-clause-same
returns-in-Ok-clause-same g c = records_then _ _ _ c.begin.ensures.same (records_then _ _ _ c.enter-entered.ensures.same c.abort.ensures.same)

pub returns-in-Err-clause-same : goal.returns-in-Err-clause-same
returns-in-Err-clause-same g c = records_then _ _ _ c.begin.ensures.same (records_then _ _ _ c.enter-entered.ensures.same c.abort.ensures.same)

pub returns-in-Ok-clause-same_client : goal.returns-in-Ok-clause-same_client
returns-in-Ok-clause-same_client g c = client_then (same_client_is c.begin.ensures.client) (client_then c.enter-entered.ensures.same_client c.abort.ensures.same_client)

pub returns-in-Err-clause-same_client : goal.returns-in-Err-clause-same_client
returns-in-Err-clause-same_client g c = client_then (same_client_is c.begin.ensures.client) (client_then c.enter-entered.ensures.same_client c.abort.ensures.same_client)
