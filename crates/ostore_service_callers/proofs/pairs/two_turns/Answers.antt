use Rattle.std.proofs.Common.{◌∙◌, arith}
use Rattle.ostore_page_service.specs.Servers.{side_of}
use Rattle.ostore_service_callers.proofs.ServiceLaws.{always_ok, holds_still, comes_after, third}
use Rattle.ostore_service_callers.proofs.pairs.two_turns.Goals as goal

pub one_turn-requires-2-clause-free : goal.one_turn-requires-2-clause-free
one_turn-requires-2-clause-free g c = λ p. (c.in_ok-one_turn.ensures.others 1 (omega arith) (λ e. absurd (omega arith))).held p ∙ c.requires.second p

pub returns-clause-first : goal.returns-clause-first
returns-clause-first g c =
    let after = c.one_turn-2.ensures.others 0 (omega arith) (λ e. absurd (omega arith)) in
    always_ok c.one_turn-2.result (holds_still (side_of c.one_turn.new.server 0).held (side_of c.one_turn-2.new.server 0).held c.args.one.0 c.args.two.0 after.held c.in_ok-one_turn.ensures.held)

pub returns-clause-busy : goal.returns-clause-busy
returns-clause-busy g c =
    third c.one_turn-2.result (side_of c.args.server.now) (side_of c.one_turn.new.server) c.args.one.0 c.args.two.0 c.in_ok-one_turn.ensures.others
    c.in_ok-one_turn.ensures.one.owned c.in_ok-one_turn.ensures.two.owned c.one_turn-2.ensures.busy

pub returns-clause-one : goal.returns-clause-one
returns-clause-one g c =
    comes_after c.one_turn-2.result (side_of c.args.server.now 1) (side_of c.one_turn.new.server 1) (side_of c.one_turn-2.new.server 1) c.args.one.0 c.one_turn-2.new.into
    (c.in_ok-one_turn.ensures.others 1 (omega arith) (λ e. absurd (omega arith))) c.one_turn-2.ensures.one

pub returns-clause-two : goal.returns-clause-two
returns-clause-two g c =
    comes_after c.one_turn-2.result (side_of c.args.server.now 1) (side_of c.one_turn.new.server 1) (side_of c.one_turn-2.new.server 1) c.args.two.0 c.one_turn-2.new.other
    (c.in_ok-one_turn.ensures.others 1 (omega arith) (λ e. absurd (omega arith))) c.one_turn-2.ensures.two
