use Rattle.std.proofs.Common.{◌∙◌, arith}
use Rattle.ostore_service_callers.proofs.tests.two_pages_are_claimed_or_none.Goals as goal

pub one_turn-turn-requires-clause-free : goal.one_turn-turn-requires-clause-free
one_turn-turn-requires-clause-free g c = λ p.
    (c.own.ensures.others 0 (omega arith) (λ e. absurd (omega arith))).held p
    ∙ (c.read.ensures.others 0 (omega arith) (λ e. absurd (omega arith))).held p
    ∙ (c.in_ok-server.ensures.empty 0).held p
