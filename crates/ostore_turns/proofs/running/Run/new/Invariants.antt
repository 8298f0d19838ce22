use Rattle.std.proofs.Common.{◌≡◌, replicate}
use Rattle.ostore_turns.specs.inside.Steps.{first_seat}
use Rattle.ostore_turns.proofs.running.Run.new.Given as goal

abbrev pub invariant-loop-client : goal.invariant-loop-client
invariant-loop-client l = l.seats.items ≡ replicate l._client-index first_seat
