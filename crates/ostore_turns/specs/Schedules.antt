-- Whose turn it is.
use Rattle.std.specs.Prelude.{◌≡◌, ◌≤◌, ◌<◌, ◌+◌, ◌-◌, ◌%◌, ℕ, List, [], ◌∷◌, length, replicate, Option, Some, None}
use Rattle.std.specs.List.{slice_get, flat_map}
use Rattle.ostore_job_text.specs.declared.job.Job.{Job}
use Rattle.ostore_job_text.specs.declared.job.JobTurn.{JobTurn}
use Rattle.ostore_turns.specs.declared.attempts.Gave.{Gave}
use Rattle.ostore_turns.specs.declared.place.Place.{Place}
use Rattle.ostore_turns.specs.Places.{Moment, HasLine}
use Rattle.ostore_turns.specs.LawfulTurns.{StopsRun, Turns}

-- a turn: a client executed the line of its script at this place, and the line gave this
pub record Turn : Type 0 where
  pub client : ℕ
  pub at : Place
  pub gave : Gave

-- the clients in the order of a job's entries
abbrev pub entry_clients : List JobTurn → List ℕ
entry_clients turns = flat_map (λ entry. replicate entry.count entry.client.0) turns

-- The client at a place of a schedule, which has no end: first those of the entries, and then all in job order, again
-- and again.
abbrev pub client_or : ℕ → Option ℕ → ℕ
client_or other (Some client) = client
client_or other None = other

abbrev pub scheduled : Job → ℕ → ℕ
scheduled job n =
    client_or ((n - length (entry_clients job.turns)) % length job.clients) (slice_get (entry_clients job.turns) n)

-- From a place of the schedule on, the next turn is at another one: the first one whose client has a line left.
pub record IsNextTurn (job : Job) (now : Moment) (from at : ℕ) (turn : Turn) : Type 0 where
  pub later : from ≤ at
  pub passed : (n : ℕ) → from ≤ n → n < at → HasLine job.clients now (scheduled job n) → ⊥
  pub whose : turn.client ≡ scheduled job at
  pub place : turn.at ≡ now.places turn.client

-- From one moment and place of the schedule to others these turns are taken, each giving what it may. The run stops
-- with the first one at which a disk call fails.
abbrev pub Takes : Job → Moment → ℕ → List Turn → Moment → ℕ → Type 0
Takes job before from [] after to = (before ≡ after) × (from ≡ to)
Takes job before from (turn ∷ turns) after to =
    (at : ℕ) × (now : Moment) × IsNextTurn job before from at turn × Turns job.clients before turn.client turn.gave now
    × (StopsRun turn.gave → turns ≡ []) × Takes job now (at + 1) turns after to
