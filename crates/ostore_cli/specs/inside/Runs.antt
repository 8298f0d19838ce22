-- How the text of `try` is run.
use Rattle.std.specs.Prelude.{◌≡◌, ℕ, List, length, None}
use Rattle.ostore_base.specs.declared.page.PageImage.{PageImage}
use Rattle.ostore_page_tags.specs.FreshPages.{fresh_list}
use Rattle.ostore_graph_model.specs.Graph.{Graph}
use Rattle.ostore_graph_model.specs.History.{updates}
use Rattle.ostore_schema_layout.specs.declared.schema.Schema.{Schema}
use Rattle.ostore_job_text.specs.declared.job.Job.{Job}
use Rattle.ostore_run_report.specs.Results.{committed_of}
use Rattle.ostore_client_turns.specs.declared.run.Run.{Run}
use Rattle.ostore_client_turns.specs.Runs.{IsRunOf, script_of}
use Rattle.ostore_cli.specs.FreshRuns.{HasRun, all_pages}

-- the job was run on fresh pages with the text of its schema
pub record IsFreshRun (text : List ℕ) (schema : Schema) (job : Job) (run : Run) : Type 0 where
  pub last : List PageImage
  pub is_run : IsRunOf schema job 0 (fresh_list text all_pages) last run

-- what it came to, as is promised
pub record IsRunAlone (schema : Schema) (job : Job) (run : Run) : Type 0 where
  pub last : Graph
  pub ran : HasRun (script_of schema job) job.clients run.results last
  pub commits : run.tail.commits ≡ length (updates (committed_of run.results))
  pub faultless : run.tail.disk_fault_after ≡ None
