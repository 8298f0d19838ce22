-- What a turn may give, and what it leaves.
use Rattle.std.specs.Prelude.{◌≡◌, ◌≢◌, ◌≤◌, ◌+◌, ◌⊎◌, ◌==◌, ℕ, Bool, true, false, if◌then◌else◌, List, [], ◌∷◌, ◌++◌, length, Some}
use Rattle.std.specs.List.{slice_get}
use Rattle.ostore_graph_model.specs.declared.commands.Command.TheVariants.{New}
use Rattle.ostore_graph_model.specs.declared.commands.Txn.{Txn}
use Rattle.ostore_graph_model.specs.declared.history.Committed.{Committed as Recorded}
use Rattle.ostore_job_text.specs.declared.job.JobClient.{JobClient}
use Rattle.ostore_job_text.specs.RunnableJobs.{lines_of}
use Rattle.ostore_run_report.specs.declared.results.Cause.{Cause}
use Rattle.ostore_run_report.specs.declared.results.Cause.TheVariants.{Busy, NoSpace, CacheFull, SpaceFull, Disk, Stopped}
use Rattle.ostore_run_report.specs.Results.{committed_as}
use Rattle.ostore_turns.specs.declared.attempts.Gave.{Gave}
use Rattle.ostore_turns.specs.declared.attempts.Gave.TheVariants.{Going, Committed, Aborted, Failed}
use Rattle.ostore_turns.specs.declared.place.Place.{Place}
use Rattle.ostore_turns.specs.Places.{Moment, IsIn, moved}

-- a disk call failed, so that no further line is executed
abbrev pub StopsRun : Gave → Type 0
StopsRun (Failed Disk) = Unit {0}
StopsRun other = ⊥

-- ---- Busy

-- Another client has executed a command in an attempt that it has not ended, and one of the two transactions is an
-- update.
pub record IsMet (clients : List JobClient) (now : Moment) (number : ℕ) (txn : Txn) : Type 0 where
  pub other : ℕ
  pub another : other ≢ number
  pub begun : Txn
  pub is_in : IsIn clients now other begun
  pub executed : 2 ≤ (now.places other).line
  pub updates : (txn.update ≡ true) ⊎ (begun.update ≡ true)

-- ---- no space

-- the transaction is an update, and one of its commands makes an object in this segment
pub record MakesIn (txn : Txn) (segment : ℕ) : Type 0 where
  pub update : txn.update ≡ true
  pub place : ℕ
  pub to : List ℕ
  pub ty : List ℕ
  pub command : slice_get txn.commands place ≡ Some (New to ty segment)

-- ---- what a line may give

-- the line is a command
abbrev pub IsCommandLine : Txn → Place → Type 0
IsCommandLine txn at = (1 ≤ at.line) × (at.line ≤ length txn.commands)

-- the line is the last one
abbrev pub IsLastLine : Txn → Place → Type 0
IsLastLine txn at = at.line + 1 ≡ lines_of txn

-- Why an attempt may end without a commit: at a command, where another client is met, where an update that makes an object
-- in a segment finds no space there, or where a cache or the frames have run out; or by a disk call that failed, at the
-- commit of an update.
abbrev pub IsCauseAt : List JobClient → Moment → ℕ → Txn → Cause → Type 0
IsCauseAt clients now number txn (Busy page seen found) = IsCommandLine txn (now.places number) × IsMet clients now number txn
IsCauseAt clients now number txn (NoSpace segment need) = IsCommandLine txn (now.places number) × MakesIn txn segment
IsCauseAt clients now number txn (CacheFull used capacity) = IsCommandLine txn (now.places number)
IsCauseAt clients now number txn (SpaceFull frames) = IsCommandLine txn (now.places number)
IsCauseAt clients now number txn Disk = IsLastLine txn (now.places number) × (txn.update ≡ true) × (txn.aborts ≡ false)
IsCauseAt clients now number txn (Stopped after) = ⊥

-- an update has the next number, and a read that of the last commit
abbrev pub number_of : Bool → ℕ → ℕ
number_of true last = last + 1
number_of false last = last

-- what the line of a transaction may give: it goes on exactly where the line isn't the last one
abbrev pub MayGive : List JobClient → Moment → ℕ → Txn → Gave → Type 0
MayGive clients now number txn Going = IsLastLine txn (now.places number) → ⊥
MayGive clients now number txn (Committed commit replies) =
    IsLastLine txn (now.places number) × (txn.aborts ≡ false) × (commit ≡ number_of txn.update now.commits)
MayGive clients now number txn Aborted = IsLastLine txn (now.places number) × (txn.aborts ≡ true)
MayGive clients now number txn (Failed cause) = IsCauseAt clients now number txn cause

-- ---- what it leaves

-- the number of the last commit then
abbrev pub commits_then : Gave → ℕ → ℕ
commits_then (Committed commit replies) commits = commit
commits_then other commits = commits

-- the client of the turn has moved on, and the others are where they were
abbrev pub moved_one : ℕ → ℕ → Gave → (ℕ → Place) → ℕ → Place
moved_one number tries gave places other = if other == number then moved tries (places other) gave else places other

-- a client's records then: one more where its transaction was committed
abbrev pub records_then : ℕ → Place → Bool → Gave → List Recorded → List Recorded
records_then number at update (Committed commit replies) records = records ++ committed_as number (at.txn + 1) update commit replies ∷ []
records_then number at update other records = records

-- the client of the turn may have one more, and the others have what they had
abbrev pub recorded_one : ℕ → Place → Bool → Gave → (ℕ → List Recorded) → ℕ → List Recorded
recorded_one number at update gave records other =
    if other == number then records_then number at update gave (records other) else records other

-- a client executed its next line, which gave this
pub record Turns (clients : List JobClient) (before : Moment) (number : ℕ) (gave : Gave) (after : Moment) : Type 0 where
  pub txn : Txn
  pub is_in : IsIn clients before number txn
  pub may : MayGive clients before number txn gave
  pub places : (other : ℕ) → after.places other ≡ moved_one number is_in.client.tries gave before.places other
  pub records : (other : ℕ) → after.records other ≡ recorded_one number (before.places number) txn.update gave before.records other
  pub commits : after.commits ≡ commits_then gave before.commits
