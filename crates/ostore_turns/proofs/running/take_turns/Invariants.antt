use Rattle.std.proofs.Common.{◌≡◌, ◌-◌, length, take}
use Rattle.ostore_turns.specs.Schedules.{entry_clients}
use Rattle.ostore_turns.specs.inside.Steps.{AreSeated, AreWithin, HasCome, spent}
use Rattle.ostore_turns.proofs.RunLaws.{InRounds}
use Rattle.ostore_turns.proofs.running.take_turns.Given as goal

abbrev pub invariant-loop-entry : goal.invariant-loop-entry
invariant-loop-entry g l = record {
  clients : g.S.Attempts.clients l.store ≡ l.job.clients;
  constants : g.S.Attempts.constants l.store ≡ g.S.Attempts.constants l.fn.store;
  ready : g.S.Attempts.ready l.store;
  within : AreWithin (g.S.Attempts.bounds (g.S.Attempts.constants l.store)) l.job.clients l.run;
  seated : AreSeated l.job.clients (g.S.Attempts.moment l.store) l.run;
  come : HasCome l.job (g.S.Attempts.moment l.fn.store) (length (entry_clients (take l.entry-index l.job.turns))) (g.S.Attempts.moment l.store) l.run;
}

abbrev pub invariant-loop-run : goal.invariant-loop-run
invariant-loop-run g l = record {
  clients : g.S.Attempts.clients l.store ≡ l.job.clients;
  constants : g.S.Attempts.constants l.store ≡ g.S.Attempts.constants l.fn.store;
  ready : g.S.Attempts.ready l.store;
  within : AreWithin (g.S.Attempts.bounds (g.S.Attempts.constants l.store)) l.job.clients l.run;
  seated : AreSeated l.job.clients (g.S.Attempts.moment l.store) l.run;
  come : InRounds l.job (g.S.Attempts.moment l.fn.store) (g.S.Attempts.moment l.store) l.run;
}

abbrev pub decreases-loop-run : goal.decreases-loop-run
decreases-loop-run g l = 281475043886628864 - spent l.run
