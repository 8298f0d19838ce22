-- What contracts see of seats.
use Rattle.std.specs.Prelude.{ℕ, List, Option}
use Rattle.std.specs.Option.{option_map}
use Rattle.std.specs.List.{slice_get}
use Rattle.ostore_client_turns.specs.declared.seat.Seat.{Seat}
use Rattle.ostore_client_turns.specs.inside.Stores.{SeatView}

abbrev pub view_of : {M : Type 0} → Seat M → SeatView
view_of seat = record { client = seat.client; attempt = seat.attempt; place = seat.place }

-- the seat of each client, by its number
abbrev pub seats_in : {M : Type 0} → List (Seat M) → ℕ → Option SeatView
seats_in seats number = option_map view_of (slice_get seats number)

-- how many claims of the client were fetched
abbrev pub fetches_in : {M : Type 0} → Seat M → ℕ
fetches_in seat = seat.client.fetches
