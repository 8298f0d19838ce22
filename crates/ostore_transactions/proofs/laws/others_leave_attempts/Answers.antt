use Rattle.ostore_client_core.proofs.StayLaws.{Stays, stays_own}
use Rattle.ostore_transactions.proofs.OtherLaws.{stays_with}
use Rattle.ostore_transactions.proofs.laws.others_leave_attempts.Goals as goal

pub returns-clause-own : goal.returns-clause-own
returns-clause-own g c =
    let told = g.S.PageClaims.tells c.args.before.now in
    let now = g.S.PageClaims.tells c.args.after.now in
    let stays : Stays told now = record { client = c.requires.client; opened = c.requires.opened; mine = c.requires.mine } in
    stays_own (g.S.PageClaims.serves c.args.before.now) (g.S.PageClaims.serves c.args.after.now) told now c.args.client.now stays c.requires.script c.requires.own

pub returns-clause-at : goal.returns-clause-at
returns-clause-at g c =
    let told = g.S.PageClaims.tells c.args.before.now in
    let now = g.S.PageClaims.tells c.args.after.now in
    let stays : Stays told now = record { client = c.requires.client; opened = c.requires.opened; mine = c.requires.mine } in
    stays_with (g.S.PageClaims.serves c.args.before.now) (g.S.PageClaims.serves c.args.after.now) told now c.args.client.now c.args.txn.now c.args.attempt.now.progress stays c.requires.script c.requires.at
