use Rattle.std.proofs.Common.{◌≡◌}
use Rattle.ostore_turns.specs.inside.Steps.{AreSeated, AreWithin, Passes}
use Rattle.ostore_turns.proofs.running.Run.take_turns_of.Given as goal

abbrev pub invariant-loop-turn : goal.invariant-loop-turn
invariant-loop-turn g l = record {
  clients : g.S.Attempts.clients l.store ≡ l.job.clients;
  constants : g.S.Attempts.constants l.store ≡ g.S.Attempts.constants l.initial.store;
  ready : g.S.Attempts.ready l.store;
  within : AreWithin (g.S.Attempts.bounds (g.S.Attempts.constants l.store)) l.job.clients l.self;
  seated : AreSeated l.job.clients (g.S.Attempts.moment l.store) l.self;
  passes : Passes l.job l._turn (λ k. l.number) (g.S.Attempts.moment l.initial.store) l.initial.self (g.S.Attempts.moment l.store) l.self;
}
