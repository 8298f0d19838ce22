-- The lines before this one went on.
use Rattle.ostore_transactions.specs.inside.Going.{HasGone}
use Rattle.ostore_transactions.proofs.whole.run_attempt.Given as goal

abbrev pub invariant-loop-line : goal.invariant-loop-line
invariant-loop-line g l = HasGone (g.S.PageClaims.serves l.fn.service) (g.S.PageClaims.serves l.service) (g.S.PageClaims.tells l.fn.service) (g.S.PageClaims.tells l.service) l.fn.client l.client l.txn l.attempt l._line
