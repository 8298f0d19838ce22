-- Attempts that are busy wherever they may be, by which runs are tested.
use Rattle.std.specs.Prelude.{◌≡◌, ℕ, List, []}
use Rattle.std.specs.Option.{unwrap_or}
use Rattle.std.specs.List.{slice_get}
use Rattle.ostore_graph_model.specs.declared.history.Committed.{Committed as Recorded}
use Rattle.ostore_turns.specs.declared.attempts.Gave.{Gave}
use Rattle.ostore_turns.specs.declared.attempts.Gave.TheVariants.{Going, Committed, Aborted, Failed}
use Rattle.ostore_turns.specs.declared.place.Place.{Place}
use Rattle.ostore_turns.specs.Bounds.{Bounds}
use Rattle.ostore_turns.specs.Places.{Moment, first_place}

abbrev pub place_in : List Place → ℕ → Place
place_in places client = unwrap_or (slice_get places client) first_place

abbrev pub records_in : List (List Recorded) → ℕ → List Recorded
records_in records client = unwrap_or (slice_get records client) []

-- the clients are at these places
abbrev pub ArePlaces : List Place → Moment → Type 0
ArePlaces places now = (client : ℕ) → now.places client ≡ place_in places client

-- each client is at its first line, and has committed nothing
abbrev pub AreFresh : List Place → List (List Recorded) → Type 0
AreFresh places records = (client : ℕ) → (place_in places client ≡ first_place) × (records_in records client ≡ [])

-- a commit has no replies
abbrev pub IsBare : Gave → Type 0
IsBare Going = Unit {0}
IsBare (Committed number replies) = replies ≡ []
IsBare Aborted = Unit {0}
IsBare (Failed cause) = Unit {0}

-- no cause comes but busy and disk
abbrev pub strict_bounds : Bounds
strict_bounds = record { pages = 0; lacks = ⊥; crowded = λ pages. ⊥; fails = Unit {0} }
