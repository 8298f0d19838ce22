-- Where each client is: at a line of an attempt at a transaction of its script.
use Rattle.std.specs.Prelude.{◌≡◌, ◌<◌, ◌+◌, ◌^◌, ℕ, Bool, false, nat_lt, if◌then◌else◌, List, Some}
use Rattle.std.specs.List.{slice_get}
use Rattle.ostore_graph_model.specs.declared.commands.Txn.{Txn}
use Rattle.ostore_graph_model.specs.declared.history.Committed.{Committed as Recorded}
use Rattle.ostore_job_text.specs.declared.job.JobClient.{JobClient}
use Rattle.ostore_job_text.specs.RunnableJobs.{lines_of}
use Rattle.ostore_run_report.specs.declared.results.Cause.{Cause}
use Rattle.ostore_run_report.specs.declared.results.Cause.TheVariants.{Busy}
use Rattle.ostore_turns.specs.declared.attempts.Gave.{Gave}
use Rattle.ostore_turns.specs.declared.attempts.Gave.TheVariants.{Going, Committed, Aborted, Failed}
use Rattle.ostore_turns.specs.declared.place.Place.{Place}

-- ---- from place to place

abbrev pub first_place : Place
first_place = record { txn = 0; failed = 0; line = 0 }

abbrev pub next_line : Place → Place
next_line at = record { txn = at.txn; failed = at.failed; line = at.line + 1 }

abbrev pub next_attempt : Place → Place
next_attempt at = record { txn = at.txn; failed = at.failed + 1; line = 0 }

abbrev pub next_txn : Place → Place
next_txn at = record { txn = at.txn + 1; failed = 0; line = 0 }

-- the transaction is tried again: another client was at a page, and it has been tried less often than it may be
abbrev pub is_retried : ℕ → Place → Cause → Bool
is_retried tries at (Busy page seen found) = nat_lt (at.failed + 1) tries
is_retried tries at other = false

-- where a client is when the line at a place gave this
abbrev pub moved : ℕ → Place → Gave → Place
moved tries at Going = next_line at
moved tries at (Committed number replies) = next_txn at
moved tries at Aborted = next_txn at
moved tries at (Failed cause) = if is_retried tries at cause then next_attempt at else next_txn at

-- the numbers of a place leave room for one more
pub record HasRoom (at : Place) : Type 0 where
  pub txn : at.txn + 1 < 2 ^ 32
  pub failed : at.failed + 1 < 2 ^ 32
  pub line : at.line + 1 < 2 ^ 32

-- ---- where all clients are

-- where each client is, by its number, what it has committed, in that order, and the number of the last commit
pub record Moment : Type 0 where
  pub places : ℕ → Place
  pub records : ℕ → List Recorded
  pub commits : ℕ

abbrev pub moment_of : (ℕ → Place) → (ℕ → List Recorded) → ℕ → Moment
moment_of places records commits = record { places = places; records = records; commits = commits }

-- the client is in this transaction of its script
pub record IsIn (clients : List JobClient) (now : Moment) (number : ℕ) (txn : Txn) : Type 0 where
  pub client : JobClient
  pub there : slice_get clients number ≡ Some client
  pub next : slice_get client.txns (now.places number).txn ≡ Some txn
  pub line : (now.places number).line < lines_of txn

-- it has a line left
abbrev pub HasLine : List JobClient → Moment → ℕ → Type 0
HasLine clients now number = (txn : Txn) × IsIn clients now number txn
