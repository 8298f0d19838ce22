use Rattle.std.proofs.Common.{◌≡◌}
use Rattle.ostore_client_turns.proofs.StartLaws.{AreFreshUpTo}
use Rattle.ostore_client_turns.proofs.seat.seats_of.Given as goal

abbrev pub invariant-loop-number : goal.invariant-loop-number
invariant-loop-number g l = record {
  server : l.server ≡ l.fn.server;
  items : l.client-items ≡ l.fn.job.clients;
  fresh : AreFreshUpTo g.D.Disk.faults l.fn.server l.fn.schema l.fn.job.clients l.number l.seats.items;
}
