use Rattle.ostore_transactions.proofs.TestLaws.{second_txn}
use Rattle.ostore_transactions.proofs.tests.abort_and_commit.Goals as goal

pub run_attempt-requires-2-clause-txn : goal.run_attempt-requires-2-clause-txn
run_attempt-requires-2-clause-txn g c =
    second_txn (g.S.PageClaims.serves c.args.service.now) (g.S.PageClaims.serves c.run_attempt.new.service) (g.S.PageClaims.tells c.args.service.now) (g.S.PageClaims.tells c.run_attempt.new.service)
    c.args.client.now c.run_attempt.new.client c.args.first.now c.args.second.now c.in-Ok.ended c.in-Aborted.is c.in-Ok.ensures.end c.run_attempt.ensures.client
    c.requires.mine c.requires.none c.requires.script.0 c.requires.script.1 c.requires.script.2 c.requires.script.4
