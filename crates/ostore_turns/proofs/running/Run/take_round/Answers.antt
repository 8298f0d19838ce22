use Rattle.std.proofs.Common.{◌+◌, ◌∙◌, sym, subst, Bool}
use Rattle.ostore_turns.specs.inside.Steps.{AreTurns, IsOneTurn}
use Rattle.ostore_turns.proofs.RunLaws.{passes_step, turns_taken, turns_none}
use Rattle.ostore_turns.proofs.running.Run.take_round.Goals as goal
use Rattle.ostore_turns.proofs.running.Run.take_round.Goals.{then-branch, else-branch}

pub loop-number-preserved : goal.loop-number-preserved
loop-number-preserved g c =
    let clients = c.args.job.now.clients in
    let old = c.args.self.now in
    let now = g.S.Attempts.moment c.loop-number.store in
    let after = g.S.Attempts.moment c.take_turn.new.store in
    let run = c.loop-number.self in
    let new = c.take_turn.new.self in
    record {
      clients = c.take_turn.ensures.clients ∙ c.loop-number.invariant.clients;
      constants = c.take_turn.ensures.constants ∙ c.loop-number.invariant.constants;
      ready = c.in_ok-take_turn.ensures.ready;
      within = c.in_ok-take_turn.ensures.within;
      seated = c.in_ok-take_turn.ensures.seated;
      passes = passes_step c.args.job.now c.loop-number.number (λ k. k) (g.S.Attempts.moment c.args.store.now) now after old run new c.loop-number.invariant.passes c.in_ok-take_turn.ensures.passes;
      turns = elim c.if-branch.branch [
        | then-branch w ↦ subst (λ (took : Bool). AreTurns clients (c.loop-number.number + 1) took old after new) (sym w.took-is)
            (turns_taken clients c.loop-number.number c.loop-number.took old now run after new c.loop-number.invariant.turns
            (subst (λ (took : Bool). IsOneTurn clients c.loop-number.number took now run after new) w.if-branch.true c.in_ok-take_turn.ensures.one))
        | else-branch w ↦ subst (λ (took : Bool). AreTurns clients (c.loop-number.number + 1) took old after new) (sym w.took-is)
            (turns_none clients c.loop-number.number c.loop-number.took old now run after new c.loop-number.invariant.turns
            (subst (λ (took : Bool). IsOneTurn clients c.loop-number.number took now run after new) w.if-branch.false c.in_ok-take_turn.ensures.one))
      ];
    }
