use Rattle.std.proofs.Common.{◌≡◌, ℕ, IfOk, IfErr, sym, subst}
use Rattle.ostore_transactions.specs.Attempts.{last_line, line_at}
use Rattle.ostore_transactions.specs.Lines.{IsLine, HasFailed}
use Rattle.ostore_transactions.proofs.LineLaws.{at_last}
use Rattle.ostore_transactions.proofs.line.run_line.Goals as goal

pub returns-then-is_at_end-clause-line : goal.returns-then-is_at_end-clause-line
returns-then-is_at_end-clause-line g c =
    let last : line_at c.args.attempt.now ≡ last_line c.args.txn.now = at_last (g.S.PageClaims.serves c.args.service.now) (g.S.PageClaims.tells c.args.service.now) c.args.client.now c.args.txn.now c.args.attempt.now c.in-Some.progress c.requires.at
    c.in-Some.ensures.value (c.is_at_end.ensures.0 c.if-is_at_end.true) in
    subst (λ (n : ℕ). IfOk c.end_attempt.result (IsLine (g.S.PageClaims.serves c.args.service.now) (g.S.PageClaims.serves c.end_attempt.new.service) (g.S.PageClaims.tells c.args.service.now) (g.S.PageClaims.tells c.end_attempt.new.service)
    c.args.client.now c.end_attempt.new.client c.args.txn.now n (record { progress = c.take.new.self }) c.args.ordinal)) (sym last) c.end_attempt.ensures.line

pub returns-then-is_at_end-clause-failed : goal.returns-then-is_at_end-clause-failed
returns-then-is_at_end-clause-failed g c =
    let last : line_at c.args.attempt.now ≡ last_line c.args.txn.now = at_last (g.S.PageClaims.serves c.args.service.now) (g.S.PageClaims.tells c.args.service.now) c.args.client.now c.args.txn.now c.args.attempt.now c.in-Some.progress c.requires.at
    c.in-Some.ensures.value (c.is_at_end.ensures.0 c.if-is_at_end.true) in
    subst (λ (n : ℕ). IfErr c.end_attempt.result (HasFailed (g.S.PageClaims.serves c.args.service.now) (g.S.PageClaims.serves c.end_attempt.new.service) (g.S.PageClaims.tells c.args.service.now) (g.S.PageClaims.tells c.end_attempt.new.service)
    c.args.client.now c.end_attempt.new.client c.args.txn.now n (record { progress = c.take.new.self }))) (sym last) c.end_attempt.ensures.failed
