-- Schedules in which clients run one after the other, and what a run by such a schedule is.
use Rattle.std.specs.Prelude.{◌≡◌, ◌+◌, ℕ, List, [], ◌∷◌, ◌++◌, replicate}
use Rattle.std.specs.List.{AllByRecursion}
use Rattle.ostore_graph_model.specs.History.{IsSerial}
use Rattle.ostore_job_text.specs.RunnableJobs.{CanRun, all_lines}
use Rattle.ostore_job_text.specs.declared.job.Job.{Job}
use Rattle.ostore_job_text.specs.declared.job.JobClient.{JobClient}
use Rattle.ostore_job_text.specs.declared.job.JobTurn.{JobTurn}
use Rattle.ostore_run_report.specs.declared.results.Cause.{Cause}
use Rattle.ostore_run_report.specs.declared.results.Cause.TheVariants.{Busy, NoSpace, CacheFull, SpaceFull, Disk, Stopped}
use Rattle.ostore_run_report.specs.declared.results.TxnResult.{TxnResult}
use Rattle.ostore_run_report.specs.declared.results.TxnResult.TheVariants.{Commit, Read, Abort, GaveUp, NotRun}
use Rattle.ostore_run_report.specs.Results.{committed_of}
use Rattle.ostore_turns.specs.declared.running.TurnsRun.{TurnsRun}
use Rattle.ostore_turns.specs.Places.{Moment}
use Rattle.ostore_turns.specs.Schedules.{entry_clients}
use Rattle.ostore_turns.specs.Runs.{IsFirst, IsRunBy}

-- the numbers of clients, of which the first has this one, each as often as the client has lines
abbrev pub line_by_line : ℕ → List JobClient → List ℕ
line_by_line number [] = []
line_by_line number (client ∷ clients) = replicate (all_lines client) number ++ line_by_line (number + 1) clients

-- the entries give each client, in job order, as many turns as it has lines
abbrev pub AreOneAfterTheOther : List JobClient → List JobTurn → Type 0
AreOneAfterTheOther clients turns = entry_clients turns ≡ line_by_line 0 clients

-- the job with these entries in place of its own
abbrev pub with_turns : Job → List JobTurn → Job
with_turns job turns = record { clients = job.clients; turns = turns }

-- ---- a run by such a schedule

-- why a transaction may be given up that met no other client
abbrev pub IsMetByNone : Cause → Type 0
IsMetByNone (Busy page seen found) = ⊥
IsMetByNone (NoSpace segment need) = Unit {0}
IsMetByNone (CacheFull used capacity) = Unit {0}
IsMetByNone (SpaceFull frames) = Unit {0}
IsMetByNone Disk = Unit {0}
IsMetByNone (Stopped after) = ⊥

-- a transaction met no other client, so that it wasn't tried more than once
abbrev pub WasAlone : TxnResult → Type 0
WasAlone (Commit number tries replies) = tries ≡ 1
WasAlone (Read number tries replies) = tries ≡ 1
WasAlone (Abort tries) = tries ≡ 1
WasAlone (GaveUp tries cause) = (tries ≡ 1) × IsMetByNone cause
WasAlone NotRun = Unit {0}

-- No transaction met another client, and those that committed ran one after the other, client by client.
pub record HasRunAlone (run : TurnsRun) : Type 0 where
  pub alone : AllByRecursion (AllByRecursion WasAlone) run.results
  pub serial : IsSerial (committed_of run.results)

abbrev pub ClientsRunAlone : Type 0
ClientsRunAlone = (job : Job) (first after : Moment) (run : TurnsRun) → CanRun job → AreOneAfterTheOther job.clients job.turns
    → IsFirst first → IsRunBy job first after run → HasRunAlone run
