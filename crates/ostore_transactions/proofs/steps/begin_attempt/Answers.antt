use Rattle.std.proofs.Common.{sym, subst}
use Rattle.ostore_client_core.specs.Clients.{ClientView}
use Rattle.ostore_client_core.specs.declared.fault.AttemptFault.TheVariants.{OutOfMemory}
use Rattle.ostore_transactions.specs.Retained.{WasAborted}
use Rattle.ostore_transactions.proofs.RetainLaws.{idle_aborted}
use Rattle.ostore_transactions.proofs.steps.begin_attempt.Goals as goal

pub returns-in-Err-clause-aborted : goal.returns-in-Err-clause-aborted
returns-in-Err-clause-aborted g c =
    let told = g.S.PageClaims.tells c.args.service.now in
    let now = g.S.PageClaims.tells c.begin.new.service in
    subst (λ (x : ClientView). WasAborted g.S.PageClaims.releases told now c.args.client.now x c.args.txn.now 0 OutOfMemory) (sym c.begin.ensures.client) (idle_aborted g.S.PageClaims.releases told now c.args.client.now c.args.txn.now c.requires.idle c.begin.ensures.copies)
