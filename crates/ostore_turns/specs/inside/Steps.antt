-- How one turn of the schedule goes, and how far a run has come.
use Rattle.std.specs.Prelude.{◌≡◌, ◌+◌, ◌*◌, ◌<◌, ◌≤◌, ◌⊎◌, ℕ, Bool, true, false, List, [], ◌∷◌, ◌++◌, length, Option, Some, None}
use Rattle.std.specs.List.{slice_get, sum_by, AllByRecursion}
use Rattle.ostore_graph_model.specs.declared.commands.Txn.{Txn}
use Rattle.ostore_job_text.specs.declared.job.Job.{Job}
use Rattle.ostore_job_text.specs.declared.job.JobClient.{JobClient}
use Rattle.ostore_job_text.specs.RunnableJobs.{lines_of, most_lines}
use Rattle.ostore_run_report.specs.declared.results.TxnResult.{TxnResult}
use Rattle.ostore_turns.specs.declared.attempts.Gave.{Gave}
use Rattle.ostore_turns.specs.declared.place.Place.{Place}
use Rattle.ostore_turns.specs.declared.running.Run.{Run}
use Rattle.ostore_turns.specs.declared.running.Took.{Took}
use Rattle.ostore_turns.specs.declared.running.Took.TheVariants.{NoTurn, OneTurn, LastTurn}
use Rattle.ostore_turns.specs.declared.seat.Seat.{Seat}
use Rattle.ostore_turns.specs.Places.{Moment, first_place, moved, HasLine}
use Rattle.ostore_turns.specs.LawfulTurns.{StopsRun, Turns}
use Rattle.ostore_turns.specs.Bounds.{Bounds, IsResultWithin}
use Rattle.ostore_turns.specs.Schedules.{Turn, Takes, scheduled}
use Rattle.ostore_turns.specs.TurnResults.{result_by, ended_by, with_not_run}

-- ---- one turn

-- a place where a client can be: at a line of a transaction that has tries left, or behind the last one
pub record IsFitPlace (client : JobClient) (at : Place) : Type 0 where
  pub low : at.txn ≤ length client.txns
  pub tries : at.failed < client.tries
  pub short : at.line < most_lines
  pub line : (txn : Txn) → slice_get client.txns at.txn ≡ Some txn → at.line < lines_of txn

-- results with a further one, where there is one
abbrev pub and_maybe : List TxnResult → Option TxnResult → List TxnResult
and_maybe results None = results
and_maybe results (Some ended) = results ++ ended ∷ []

-- a client executed its next line, and its seat went on with what this gave
pub record GoesOn (client : JobClient) (number : ℕ) (gave : Gave) (old new : Seat) (clients : List JobClient) (before after : Moment) : Type 0 where
  pub turns : Turns clients before number gave after
  pub txn : Txn
  pub there : slice_get client.txns old.place.txn ≡ Some txn
  pub place : new.place ≡ moved client.tries old.place gave
  pub results : new.results ≡ and_maybe old.results (result_by txn.update client.tries old.place gave)

-- how a turn went: the client had no line left, or went on, and a disk call failed or didn't
abbrev pub IsTaken : JobClient → ℕ → Took → Seat → Seat → List JobClient → Moment → Moment → Type 0
IsTaken client number NoTurn old new clients before after =
    (new ≡ old) × (after ≡ before) × (slice_get client.txns old.place.txn ≡ None)
IsTaken client number OneTurn old new clients before after =
    (gave : Gave) × (StopsRun gave → ⊥) × GoesOn client number gave old new clients before after
IsTaken client number LastTurn old new clients before after =
    (gave : Gave) × StopsRun gave × GoesOn client number gave old new clients before after

-- ---- a run

-- at the first line of a script, with nothing ended
abbrev pub first_seat : Seat
first_seat = record { place = first_place; results = [] }

-- each client has a seat, which says where the client is
pub record AreSeated (clients : List JobClient) (now : Moment) (run : Run) : Type 0 where
  pub long : length run.seats.items ≡ length clients
  pub places : (i : ℕ) (seat : Seat) → slice_get run.seats.items i ≡ Some seat → seat.place ≡ now.places i
  pub fit : (i : ℕ) (client : JobClient) (seat : Seat) → slice_get clients i ≡ Some client → slice_get run.seats.items i ≡ Some seat → IsFitPlace client seat.place

-- what became of each client's transactions is within the bounds
abbrev pub AreWithin : Bounds → List JobClient → Run → Type 0
AreWithin bounds clients run =
    (i : ℕ) (client : JobClient) (seat : Seat) → slice_get clients i ≡ Some client → slice_get run.seats.items i ≡ Some seat
    → AllByRecursion (IsResultWithin bounds client) seat.results

-- The turns so far are all that come before a place of the schedule; or a disk call failed at the last of them.
abbrev pub AreUpTo : Job → Bool → List Turn → ℕ → ℕ → Moment → Type 0
AreUpTo job true turns end n now = (earlier : List Turn) × (last : Turn) × (turns ≡ earlier ++ last ∷ []) × StopsRun last.gave
AreUpTo job false turns end n now =
    AllByRecursion (λ turn. StopsRun turn.gave → ⊥) turns × (end ≤ n)
    × ((k : ℕ) → end ≤ k → k < n → HasLine job.clients now (scheduled job k) → ⊥)

-- from its first moment a run has come to a place of the schedule
pub record HasCome (job : Job) (first : Moment) (n : ℕ) (now : Moment) (run : Run) : Type 0 where
  pub turns : List Turn
  pub end : ℕ
  pub taken : Takes job first 0 turns now end
  pub results : (i : ℕ) (client : JobClient) (seat : Seat) → slice_get job.clients i ≡ Some client → slice_get run.seats.items i ≡ Some seat → seat.results ≡ ended_by i client turns
  pub up_to : AreUpTo job run.stopped turns end n now

-- from each place of the schedule at which these clients are next, a run has come so many places further
abbrev pub Passes : Job → ℕ → (ℕ → ℕ) → Moment → Run → Moment → Run → Type 0
Passes job count whose before old after new =
    (first : Moment) (n : ℕ) → ((k : ℕ) → k < count → scheduled job (n + k) ≡ whose k)
    → HasCome job first n before old → HasCome job first (n + count) after new

-- ---- an end

-- a client can take no turn
abbrev pub IsIdle : List JobClient → Moment → Run → ℕ → Type 0
IsIdle clients now run number = (run.stopped ≡ true) ⊎ (HasLine clients now number → ⊥)

-- a number that rises at each turn of a client
abbrev pub rank : Place → ℕ
rank at = at.txn * 4194304000 + at.failed * 4194304 + at.line

-- and at each turn of a run
abbrev pub spent : Run → ℕ
spent run = sum_by (λ seat. rank seat.place) run.seats.items

-- a turn of a client was taken, or it could take none, and nothing changed
abbrev pub IsOneTurn : List JobClient → ℕ → Bool → Moment → Run → Moment → Run → Type 0
IsOneTurn clients number true before old after new = spent old < spent new
IsOneTurn clients number false before old after new =
    (after ≡ before) × (new.stopped ≡ old.stopped) × (spent old ≤ spent new) × IsIdle clients after new number

-- of so many clients one or more took a turn, or none could take one
abbrev pub AreTurns : List JobClient → ℕ → Bool → Run → Moment → Run → Type 0
AreTurns clients count true old after new = spent old < spent new
AreTurns clients count false old after new =
    (spent old ≤ spent new) × ((number : ℕ) → number < count → IsIdle clients after new number)

-- what became of the transactions of clients in their seats
abbrev pub results_in : List JobClient → List Seat → List (List TxnResult)
results_in (client ∷ clients) (seat ∷ seats) = with_not_run (length client.txns) seat.results ∷ results_in clients seats
results_in clients seats = []
