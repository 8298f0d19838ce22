use Rattle.std.proofs.Common.{◌≡◌, ◌++◌, length}
use Rattle.std.specs.Vec.Iter.{into_iter_items, into_iter_len}
use Rattle.ostore_turns.specs.inside.Steps.{results_in}
use Rattle.ostore_turns.proofs.running.Run.into_results.Given as goal

abbrev pub invariant-loop-seat : goal.invariant-loop-seat
invariant-loop-seat l = record {
  all : l.results ++ results_in l.seat-iterator.b.rest.now (into_iter_items l.seat-iterator.a) ≡ results_in l.job.clients l.fn.self.seats.items;
  long : into_iter_len l.seat-iterator.a ≡ length (into_iter_items l.seat-iterator.a);
}
