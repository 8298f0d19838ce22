-- What the results of a run by turns say, whatever the turns were.
use Rattle.std.specs.Prelude.{◌≡◌, ◌≤◌, ℕ, Bool, true, false, if◌then◌else◌, List, length, filter, Some}
use Rattle.std.specs.List.{slice_get, sum_by}
use Rattle.ostore_graph_model.specs.declared.commands.Txn.{Txn}
use Rattle.ostore_job_text.specs.RunnableJobs.{CanRun}
use Rattle.ostore_job_text.specs.declared.job.Job.{Job}
use Rattle.ostore_job_text.specs.declared.job.JobClient.{JobClient}
use Rattle.ostore_run_report.specs.declared.results.Cause.{Cause}
use Rattle.ostore_run_report.specs.declared.results.Cause.TheVariants.{Busy, NoSpace, CacheFull, SpaceFull, Disk, Stopped}
use Rattle.ostore_run_report.specs.declared.results.TxnResult.{TxnResult}
use Rattle.ostore_run_report.specs.declared.results.TxnResult.TheVariants.{Commit, Read, Abort, GaveUp, NotRun}
use Rattle.ostore_run_report.specs.Results.{committed_from}
use Rattle.ostore_turns.specs.declared.running.TurnsRun.{TurnsRun}
use Rattle.ostore_turns.specs.LawfulTurns.{MakesIn}
use Rattle.ostore_turns.specs.Places.{Moment}
use Rattle.ostore_turns.specs.TurnResults.{AllByClient, AllByTxn}
use Rattle.ostore_turns.specs.Runs.{IsFirst, IsRunBy}

-- ---- each result

-- a transaction was tried, and not more often than its client's option allows
abbrev pub IsTried : JobClient → ℕ → Type 0
IsTried client tries = (1 ≤ tries) × (tries ≤ client.tries)

-- a transaction has a command
abbrev pub HasCommand : Txn → Type 0
HasCommand txn = 1 ≤ length txn.commands

-- Why it may have been given up: at a command, for busy on its last try, and for no space where it is an update that makes
-- an object in that segment; or at its commit, for a disk call, where it is an update that its script doesn't abort, and the
-- run ended with that.
abbrev pub MayGiveUp : Bool → JobClient → Txn → ℕ → Cause → Type 0
MayGiveUp disk_failed client txn tries (Busy page seen found) = (tries ≡ client.tries) × HasCommand txn
MayGiveUp disk_failed client txn tries (NoSpace segment need) = MakesIn txn segment
MayGiveUp disk_failed client txn tries (CacheFull used capacity) = HasCommand txn
MayGiveUp disk_failed client txn tries (SpaceFull frames) = HasCommand txn
MayGiveUp disk_failed client txn tries Disk = (disk_failed ≡ true) × (txn.update ≡ true) × (txn.aborts ≡ false)
MayGiveUp disk_failed client txn tries (Stopped after) = ⊥

-- A transaction that its script aborts is aborted, an update is committed and a read has read, unless it was given up,
-- or a disk call failed before it ended.
abbrev pub IsRightResult : Bool → JobClient → Txn → TxnResult → Type 0
IsRightResult disk_failed client txn (Commit number tries replies) = (txn.aborts ≡ false) × (txn.update ≡ true) × IsTried client tries
IsRightResult disk_failed client txn (Read number tries replies) = (txn.aborts ≡ false) × (txn.update ≡ false) × IsTried client tries
IsRightResult disk_failed client txn (Abort tries) = (txn.aborts ≡ true) × IsTried client tries
IsRightResult disk_failed client txn (GaveUp tries cause) = IsTried client tries × MayGiveUp disk_failed client txn tries cause
IsRightResult disk_failed client txn NotRun = disk_failed ≡ true

-- each transaction of each client has one result, which is right
abbrev pub AreRight : Job → TurnsRun → Type 0
AreRight job run =
    AllByClient (λ client mine. AllByTxn (IsRightResult run.disk_failed client) client.txns mine) job.clients run.results

abbrev pub ResultsAreRight : Type 0
ResultsAreRight = (job : Job) (first after : Moment) (run : TurnsRun) → CanRun job → IsFirst first → IsRunBy job first after run
    → AreRight job run

-- ---- disk calls that failed

-- the transaction was given up as a disk call failed
abbrev pub is_disk_fault : TxnResult → Bool
is_disk_fault (Commit number tries replies) = false
is_disk_fault (Read number tries replies) = false
is_disk_fault (Abort tries) = false
is_disk_fault (GaveUp tries (Busy page seen found)) = false
is_disk_fault (GaveUp tries (NoSpace segment need)) = false
is_disk_fault (GaveUp tries (CacheFull used capacity)) = false
is_disk_fault (GaveUp tries (SpaceFull frames)) = false
is_disk_fault (GaveUp tries Disk) = true
is_disk_fault (GaveUp tries (Stopped after)) = false
is_disk_fault NotRun = false

-- how many were
abbrev pub disk_faults : List (List TxnResult) → ℕ
disk_faults results = sum_by (λ mine. length (filter is_disk_fault mine)) results

-- exactly one where a disk call failed, and none else
abbrev pub DiskFaultsAreTold : Type 0
DiskFaultsAreTold = (job : Job) (first after : Moment) (run : TurnsRun) → IsRunBy job first after run
    → disk_faults run.results ≡ (if run.disk_failed then 1 else 0)

-- ---- the records of the last moment

-- There is one list of results for each client, and its records are the commits and reads that these tell.
pub record AreRecords (job : Job) (after : Moment) (results : List (List TxnResult)) : Type 0 where
  pub of_each : length results ≡ length job.clients
  pub committed : (client : ℕ) (mine : List TxnResult) → slice_get results client ≡ Some mine
      → after.records client ≡ committed_from client 1 mine

abbrev pub ResultsAreRecords : Type 0
ResultsAreRecords = (job : Job) (first after : Moment) (run : TurnsRun) → IsFirst first → IsRunBy job first after run
    → AreRecords job after run.results
