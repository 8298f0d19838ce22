use Rattle.std.proofs.Common.{◌+◌, ◌∙◌, Bool, false, subst, arith}
use Rattle.ostore_turns.specs.inside.Steps.{IsOneTurn}
use Rattle.ostore_turns.proofs.RunLaws.{passes_step, passes_idle}
use Rattle.ostore_turns.proofs.running.Run.take_turns_of.Goals as goal

pub returns-then-not-branch-clause-passes : goal.returns-then-not-branch-clause-passes
returns-then-not-branch-clause-passes g c =
    let clients = c.args.job.now.clients in
    let now = g.S.Attempts.moment c.loop-turn.store in
    let after = g.S.Attempts.moment c.take_turn.new.store in
    let one : IsOneTurn clients c.args.number false now c.loop-turn.self after c.take_turn.new.self =
    subst (λ (took : Bool). IsOneTurn clients c.args.number took now c.loop-turn.self after c.take_turn.new.self) c.if-not-branch.true c.in_ok-take_turn.ensures.one in
    passes_idle c.args.job.now (c.loop-turn._turn + 1) c.args.count c.args.number (g.S.Attempts.moment c.args.store.now) after c.args.self.now c.take_turn.new.self
    (passes_step c.args.job.now c.loop-turn._turn (λ k. c.args.number) (g.S.Attempts.moment c.args.store.now) now after c.args.self.now c.loop-turn.self c.take_turn.new.self c.loop-turn.invariant.passes c.in_ok-take_turn.ensures.passes)
    (let low = c.loop-turn-test.true in omega (arith, low)) one.3

pub loop-turn-preserved : goal.loop-turn-preserved
loop-turn-preserved g c = record {
  clients = c.take_turn.ensures.clients ∙ c.loop-turn.invariant.clients;
  constants = c.take_turn.ensures.constants ∙ c.loop-turn.invariant.constants;
  ready = c.in_ok-take_turn.ensures.ready;
  within = c.in_ok-take_turn.ensures.within;
  seated = c.in_ok-take_turn.ensures.seated;
  passes = passes_step c.args.job.now c.loop-turn._turn (λ k. c.args.number) (g.S.Attempts.moment c.args.store.now) (g.S.Attempts.moment c.loop-turn.store) (g.S.Attempts.moment c.take_turn.new.store) c.args.self.now c.loop-turn.self c.take_turn.new.self
      c.loop-turn.invariant.passes c.in_ok-take_turn.ensures.passes;
}
