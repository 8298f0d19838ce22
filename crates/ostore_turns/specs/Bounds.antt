-- What bounds the causes for which attempts end: numbers of the store that executes them.
use Rattle.std.specs.Prelude.{◌≡◌, ◌<◌, ℕ, List, Some}
use Rattle.std.specs.List.{slice_get, AllByRecursion}
use Rattle.ostore_job_text.specs.declared.job.JobClient.{JobClient}
use Rattle.ostore_run_report.specs.declared.results.Cause.{Cause}
use Rattle.ostore_run_report.specs.declared.results.Cause.TheVariants.{Busy, NoSpace, CacheFull, SpaceFull, Disk, Stopped}
use Rattle.ostore_run_report.specs.declared.results.TxnResult.{TxnResult}
use Rattle.ostore_run_report.specs.declared.results.TxnResult.TheVariants.{Commit, Read, Abort, GaveUp, NotRun}
use Rattle.ostore_turns.specs.declared.attempts.Gave.{Gave}
use Rattle.ostore_turns.specs.declared.attempts.Gave.TheVariants.{Going, Committed, Aborted, Failed}
use Rattle.ostore_turns.specs.TurnResults.{AllByClient}

pub record Bounds : Type 1 where
  -- how many pages the database has
  pub pages : ℕ
  -- it has fewer free pages than the transactions may need
  pub lacks : Type 0
  -- the transactions may use more pages than so many
  pub crowded : ℕ → Type 0
  -- a disk call of a commit may fail
  pub fails : Type 0

-- No space is found only where pages are lacking. A cache is full only where all pages that the client's option allows
-- are in use, and the transactions may use more. The frames are all reserved only where they are as many as its option
-- allows. Either is below the pages that there are. A disk call fails only where it may.
abbrev pub IsBounded : Bounds → JobClient → Cause → Type 0
IsBounded bounds client (Busy page seen found) = Unit {0}
IsBounded bounds client (NoSpace segment need) = bounds.lacks
IsBounded bounds client (CacheFull used capacity) =
    (used ≡ capacity) × (capacity ≡ client.cache) × (client.cache < bounds.pages) × bounds.crowded client.cache
IsBounded bounds client (SpaceFull frames) = (frames ≡ client.frames) × (client.frames < bounds.pages)
IsBounded bounds client Disk = bounds.fails
IsBounded bounds client (Stopped after) = ⊥

-- what a line of a client gave is within the bounds
abbrev pub GivesWithin : Bounds → List JobClient → ℕ → Gave → Type 0
GivesWithin bounds clients number Going = Unit {0}
GivesWithin bounds clients number (Committed commit replies) = Unit {0}
GivesWithin bounds clients number Aborted = Unit {0}
GivesWithin bounds clients number (Failed cause) = (client : JobClient) → slice_get clients number ≡ Some client → IsBounded bounds client cause

-- a transaction is given up only within the bounds
abbrev pub IsResultWithin : Bounds → JobClient → TxnResult → Type 0
IsResultWithin bounds client (Commit number tries replies) = Unit {0}
IsResultWithin bounds client (Read number tries replies) = Unit {0}
IsResultWithin bounds client (Abort tries) = Unit {0}
IsResultWithin bounds client (GaveUp tries cause) = IsBounded bounds client cause
IsResultWithin bounds client NotRun = Unit {0}

-- all transactions of all clients are
abbrev pub AreBounded : Bounds → List JobClient → List (List TxnResult) → Type 0
AreBounded bounds clients results = AllByClient (λ client mine. AllByRecursion (IsResultWithin bounds client) mine) clients results
