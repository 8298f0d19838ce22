use Rattle.std.proofs.Common.{subst}
use Rattle.ostore_transactions.specs.Attempts.{line_at}
use Rattle.ostore_transactions.specs.Lines.{IsLine}
use Rattle.ostore_transactions.proofs.WholeLaws.{one_gone, whole_committed, whole_aborted, whole_failed}
use Rattle.ostore_transactions.proofs.whole.run_attempt.Goals as goal

pub returns-in-Err-clause-failed : goal.returns-in-Err-clause-failed
returns-in-Err-clause-failed g c = whole_failed (g.S.PageClaims.serves c.args.service.now) (g.S.PageClaims.serves c.loop-line.service) (g.S.PageClaims.serves c.run_line.new.service) (g.S.PageClaims.tells c.args.service.now) (g.S.PageClaims.tells c.loop-line.service) (g.S.PageClaims.tells c.run_line.new.service)
    c.args.client.now c.loop-line.client c.run_line.new.client c.args.txn.now (line_at c.loop-line.attempt) c.run_line.new.attempt c.in-Err.fault c.loop-line.invariant.goes c.requires.own c.in-Err.ensures.failed

pub returns-in-Committed-clause-end : goal.returns-in-Committed-clause-end
returns-in-Committed-clause-end g c = whole_committed (g.S.PageClaims.serves c.args.service.now) (g.S.PageClaims.serves c.loop-line.service) (g.S.PageClaims.serves c.run_line.new.service) (g.S.PageClaims.tells c.args.service.now) (g.S.PageClaims.tells c.loop-line.service) (g.S.PageClaims.tells c.run_line.new.service)
    c.args.client.now c.loop-line.client c.run_line.new.client c.args.txn.now (line_at c.loop-line.attempt) c.run_line.new.attempt c.args.ordinal c.in-Committed.number c.in-Committed.replies c.loop-line.invariant.goes
    (subst (IsLine (g.S.PageClaims.serves c.loop-line.service) (g.S.PageClaims.serves c.run_line.new.service) (g.S.PageClaims.tells c.loop-line.service) (g.S.PageClaims.tells c.run_line.new.service) c.loop-line.client c.run_line.new.client c.args.txn.now (line_at c.loop-line.attempt) c.run_line.new.attempt c.args.ordinal) c.in-Committed.is c.in-Ok.ensures.line)

pub returns-in-Aborted-clause-end : goal.returns-in-Aborted-clause-end
returns-in-Aborted-clause-end g c = whole_aborted (g.S.PageClaims.serves c.args.service.now) (g.S.PageClaims.serves c.loop-line.service) (g.S.PageClaims.serves c.run_line.new.service) (g.S.PageClaims.tells c.args.service.now) (g.S.PageClaims.tells c.loop-line.service) (g.S.PageClaims.tells c.run_line.new.service)
    c.args.client.now c.loop-line.client c.run_line.new.client c.args.txn.now (line_at c.loop-line.attempt) c.run_line.new.attempt c.loop-line.invariant.goes c.requires.own
    (subst (IsLine (g.S.PageClaims.serves c.loop-line.service) (g.S.PageClaims.serves c.run_line.new.service) (g.S.PageClaims.tells c.loop-line.service) (g.S.PageClaims.tells c.run_line.new.service) c.loop-line.client c.run_line.new.client c.args.txn.now (line_at c.loop-line.attempt) c.run_line.new.attempt c.args.ordinal) c.in-Aborted.is c.in-Ok.ensures.line)

pub loop-line-preserved : goal.loop-line-preserved
loop-line-preserved g c = one_gone (g.S.PageClaims.serves c.args.service.now) (g.S.PageClaims.serves c.loop-line.service) (g.S.PageClaims.serves c.run_line.new.service) (g.S.PageClaims.tells c.args.service.now) (g.S.PageClaims.tells c.loop-line.service) (g.S.PageClaims.tells c.run_line.new.service)
    c.args.client.now c.loop-line.client c.run_line.new.client c.args.txn.now c.loop-line.attempt c.run_line.new.attempt c.loop-line._line c.loop-line.invariant
    (subst (IsLine (g.S.PageClaims.serves c.loop-line.service) (g.S.PageClaims.serves c.run_line.new.service) (g.S.PageClaims.tells c.loop-line.service) (g.S.PageClaims.tells c.run_line.new.service) c.loop-line.client c.run_line.new.client c.args.txn.now (line_at c.loop-line.attempt) c.run_line.new.attempt c.args.ordinal) c.in-Going.is c.in-Ok.ensures.line) c.in-Ok.ensures.own c.in-Ok.ensures.at c.in-Ok.ensures.client
