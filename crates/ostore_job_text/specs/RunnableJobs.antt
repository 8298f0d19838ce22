-- Which jobs can be run: those whose numbers of clients, tries, lines and turns are within their limits.
use Rattle.std.specs.Prelude.{ℕ, ◌+◌, ◌≤◌, length}
use Rattle.std.specs.List.{AllByRecursion, sum_by}
use Rattle.ostore_base.specs.Limits.{most_clients}
use Rattle.ostore_graph_model.specs.declared.commands.Txn.{Txn}
use Rattle.ostore_job_text.specs.declared.job.Job.{Job}
use Rattle.ostore_job_text.specs.declared.job.JobClient.{JobClient}
use Rattle.ostore_job_text.specs.Limits.{most_tries}
use Rattle.ostore_job_text.specs.LawfulJob.{IsLawfulTurn}

-- a transaction has a line that begins it, its commands, and a line that ends it
abbrev pub lines_of : Txn → ℕ
lines_of txn = length txn.commands + 2

-- how many lines a client's transactions have together
abbrev pub all_lines : JobClient → ℕ
all_lines client = sum_by lines_of client.txns

-- how many those of all clients have
abbrev pub job_lines : Job → ℕ
job_lines job = sum_by all_lines job.clients

abbrev pub most_lines : ℕ
most_lines = 4194304

-- a client may be tried so often, and has so many lines
pub record IsWithinLimits (client : JobClient) : Type 0 where
  pub some : 1 ≤ client.tries
  pub tries : client.tries ≤ most_tries
  pub lines : all_lines client ≤ most_lines

-- a job that can be run
pub record CanRun (job : Job) : Type 0 where
  pub few : length job.clients ≤ most_clients
  pub clients : AllByRecursion IsWithinLimits job.clients
  pub entries : AllByRecursion (IsLawfulTurn job.clients) job.turns
