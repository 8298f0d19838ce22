use Rattle.std.proofs.Common.{◌≡◌, ◌-◌, ◌^◌, min, take}
use Rattle.std.specs.List.{sum_by}
use Rattle.ostore_client_turns.specs.inside.Seats.{fetches_in}
use Rattle.ostore_client_turns.proofs.seat.fetches_of.Given as goal

abbrev pub invariant-loop-seat : goal.invariant-loop-seat
invariant-loop-seat g l = l.fetches ≡ min (sum_by fetches_in (take l.seat-index l.seats)) (2 ^ 64 - 1)
