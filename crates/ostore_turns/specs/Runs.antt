-- A run of a job by turns.
use Rattle.std.specs.Prelude.{◌≡◌, ℕ, Bool, true, false, List, [], ◌∷◌, ◌++◌}
use Rattle.std.specs.List.{AllByRecursion}
use Rattle.ostore_job_text.specs.declared.job.Job.{Job}
use Rattle.ostore_turns.specs.declared.running.TurnsRun.{TurnsRun}
use Rattle.ostore_turns.specs.Places.{Moment, first_place, HasLine}
use Rattle.ostore_turns.specs.Schedules.{Turn, Takes}
use Rattle.ostore_turns.specs.LawfulTurns.{StopsRun}
use Rattle.ostore_turns.specs.TurnResults.{results_from}

-- each client is at the first line of its script, and has committed nothing
abbrev pub IsFirst : Moment → Type 0
IsFirst now = (client : ℕ) → (now.places client ≡ first_place) × (now.records client ≡ [])

-- A run ends with the first turn at which a disk call fails, and else where no client has a line left.
abbrev pub HasEnded : Job → Bool → List Turn → Moment → Type 0
HasEnded job true turns after = (earlier : List Turn) × (last : Turn) × (turns ≡ earlier ++ last ∷ []) × StopsRun last.gave
HasEnded job false turns after =
    AllByRecursion (λ turn. StopsRun turn.gave → ⊥) turns × ((number : ℕ) → HasLine job.clients after number → ⊥)

-- From its first moment a run takes the turns of the job's schedule up to its end, each giving what it may, and the
-- results are those that the turns give.
pub record IsRunBy (job : Job) (first after : Moment) (run : TurnsRun) : Type 0 where
  pub turns : List Turn
  pub end : ℕ
  pub taken : Takes job first 0 turns after end
  pub ended : HasEnded job run.disk_failed turns after
  pub are : run.results ≡ results_from 0 job.clients turns
