use Rattle.std.proofs.Common.{◌+◌, length, refl, sym, subst, arith}
use Rattle.ostore_object_ops.specs.Progresses.{replies_of}
use Rattle.ostore_transactions.specs.Lines.{HasFailed}
use Rattle.ostore_transactions.specs.Causes.{IsCommandLine}
use Rattle.ostore_transactions.specs.Retained.{WasAborted}
use Rattle.ostore_transactions.proofs.RetainLaws.{stop_met}
use Rattle.ostore_transactions.proofs.FailLaws.{line_failed}
use Rattle.ostore_transactions.proofs.LineLaws.{line_goes, line_stands}
use Rattle.ostore_transactions.proofs.steps.run_next.Goals as goal

pub returns-in-Err-clause-failed : goal.returns-in-Err-clause-failed
returns-in-Err-clause-failed g c =
    let left = c.requires.left in
    let at : IsCommandLine c.args.txn.now (length (replies_of c.args.progress) + 1) = (omega arith, omega arith) in
    subst (HasFailed (g.S.PageClaims.serves c.args.service.now) (g.S.PageClaims.serves c.abort.new.service) (g.S.PageClaims.tells c.args.service.now) (g.S.PageClaims.tells c.abort.new.service) c.args.client.now c.abort.new.self c.args.txn.now (length (replies_of c.args.progress) + 1) c.args.attempt.now) (sym c.fault_by.ensures)
    (line_failed (g.S.PageClaims.serves c.args.service.now) (g.S.PageClaims.serves c.execute_line.new.service) (g.S.PageClaims.serves c.abort.new.service) (g.S.PageClaims.tells c.args.service.now) (g.S.PageClaims.tells c.execute_line.new.service)
    (g.S.PageClaims.tells c.abort.new.service) c.args.client.now c.execute_line.new.client c.abort.new.self c.args.txn.now (replies_of c.args.progress) (length (replies_of c.args.progress) + 1) c.args.attempt.now c.in-Err.stop c.requires.first at c.in-Err.ensures.stops c.in-Err.ensures.space c.in-Err.ensures.crowds c.in-Err.ensures.updates c.in-Err.ensures.place c.in-Err.ensures.found refl
    c.holds_reached.ensures.reached c.abort.ensures.idle c.abort.ensures.same c.abort.ensures.served c.abort.ensures.calm)

pub returns-in-Err-clause-aborted : goal.returns-in-Err-clause-aborted
returns-in-Err-clause-aborted g c =
    let left = c.requires.left in
    let at : IsCommandLine c.args.txn.now (length (replies_of c.args.progress) + 1) = (omega arith, omega arith) in
    let aborted = c.abort.ensures in
    subst (WasAborted g.S.PageClaims.releases (g.S.PageClaims.tells c.args.service.now) (g.S.PageClaims.tells c.abort.new.service) c.args.client.now c.abort.new.self c.args.txn.now (length (replies_of c.args.progress) + 1)) (sym c.fault_by.ensures) (record {
      met = c.execute_line.new.client;
      same = c.execute_line.ensures.client;
      is = stop_met (g.S.PageClaims.serves c.args.service.now) (g.S.PageClaims.serves c.execute_line.new.service) (g.S.PageClaims.tells c.args.service.now) (g.S.PageClaims.tells c.execute_line.new.service) c.args.client.now c.execute_line.new.client c.args.txn.now.update c.in-Err.stop c.in-Err.ensures.stops;
      others = λ no. absurd (no at);
      released = aborted.released;
      answered = aborted.answered;
    })

pub returns-clause-going : goal.returns-clause-going
returns-clause-going g c = line_goes (g.S.PageClaims.serves c.args.service.now) (g.S.PageClaims.serves c.execute_line.new.service) (g.S.PageClaims.tells c.args.service.now) (g.S.PageClaims.tells c.execute_line.new.service)
    c.args.client.now c.execute_line.new.client c.args.txn.now c.args.progress c.execute_line.new.progress c.requires.left c.in-Ok.ensures.more c.in-Ok.ensures.passes

pub returns-clause-at : goal.returns-clause-at
returns-clause-at g c = line_stands (g.S.PageClaims.serves c.args.service.now) (g.S.PageClaims.serves c.execute_line.new.service) (g.S.PageClaims.tells c.args.service.now) (g.S.PageClaims.tells c.execute_line.new.service)
    c.args.client.now c.execute_line.new.client c.args.txn.now c.args.progress c.execute_line.new.progress c.requires.along c.in-Ok.ensures.more c.in-Ok.ensures.passes c.in-Ok.ensures.lines
