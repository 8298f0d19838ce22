-- What a run of a job on the pages of a server promises.
use Rattle.std.specs.Prelude.{◌≡◌, ℕ, false, List, [], length, map, Some, None}
use Rattle.std.specs.List.{AllByRecursion}
use Rattle.ostore_base.specs.declared.page.PageImage.{PageImage}
use Rattle.ostore_schema_layout.specs.declared.schema.Schema.{Schema}
use Rattle.ostore_graph_model.specs.declared.commands.Script.{Script}
use Rattle.ostore_graph_model.specs.History.{last_number}
use Rattle.ostore_object_ops.specs.Suits.{IsBuilt}
use Rattle.ostore_job_text.specs.declared.job.Job.{Job}
use Rattle.ostore_run_report.specs.declared.results.Tail.{Tail}
use Rattle.ostore_run_report.specs.Results.{committed_of}
use Rattle.ostore_turns.specs.Places.{Moment, first_place}
use Rattle.ostore_turns.specs.Runs.{IsRunBy}
use Rattle.ostore_turns.specs.Bounds.{Bounds, AreBounded}
use Rattle.ostore_graph_history.specs.Histories.{IsHistoryTo}
use Rattle.ostore_graph_history.specs.Space.{IsBelowScript, LacksPages}
use Rattle.ostore_client_turns.specs.declared.run.Run.{Run}

-- ---- what is run

-- the schema, with each client's transactions
abbrev pub script_of : Schema → Job → Script
script_of schema job = record { schema = schema; clients = map (λ client. client.txns) job.clients }

-- all commands are of those that run
abbrev pub AreBuilt : Job → Type 0
AreBuilt job =
    AllByRecursion (λ client. AllByRecursion (λ txn. AllByRecursion IsBuilt txn.commands) client.txns) job.clients

-- no client has executed a line, and this is the number of the last commit
abbrev pub first_moment : ℕ → Moment
first_moment number = record { places = λ client. first_place; records = λ client. []; commits = number }

-- ---- when something runs out

-- The script may use more pages than so many where they are fewer than 2, the data pages of the opened list and what it may
-- take, together. No call of a disk fails: the journal only counts.
abbrev pub bounds_of : Script → List PageImage → Bounds
bounds_of script opened = record {
  pages = length opened;
  lacks = LacksPages script opened;
  crowded = λ pages. IsBelowScript script opened pages;
  fails = ⊥;
}

-- ---- what a run gives

-- No call of a disk failed, and the number of the last commit is told, with a count of fetches. Which count isn't said: it
-- depends on the frames and on the pages that are retained.
pub record IsTailOf (commits : ℕ) (tail : Tail) : Type 0 where
  pub fetches : ℕ
  pub tail_is : tail ≡ record { disk_fault_after = None; commits = commits; fetches = Some fetches }

-- From the opened list at its number to the last one the clients of a job took the turns of its schedule. What their
-- transactions committed is a legal history, from the graph of the opened list to that of the last one; the number of
-- the last commit is that of its last update. Where a transaction was given up for want of space, of cache or of
-- frames, the opened list or the job had too few of them.
pub record IsRunOf (schema : Schema) (job : Job) (first : ℕ) (opened last : List PageImage) (run : Run) : Type 0 where
  pub after : Moment
  pub turns : IsRunBy job (first_moment first) after (record { results = run.results; disk_failed = false })
  pub history : IsHistoryTo (script_of schema job) first opened (committed_of run.results) last
  pub bounded : AreBounded (bounds_of (script_of schema job) opened) job.clients run.results
  pub number : after.commits ≡ last_number first (committed_of run.results)
  pub tail : IsTailOf after.commits run.tail
