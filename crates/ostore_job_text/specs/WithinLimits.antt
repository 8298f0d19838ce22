-- Jobs of which each command writes within its limits.
use Rattle.std.specs.List.{AllByRecursion}
use Rattle.ostore_graph_model.specs.GraphRules.{IsWithinLimits}
use Rattle.ostore_graph_model.specs.declared.commands.Txn.{Txn}
use Rattle.ostore_job_text.specs.declared.job.Job.{Job}
use Rattle.ostore_job_text.specs.declared.job.JobClient.{JobClient}

abbrev pub IsTxnWithinLimits : Txn → Type 0
IsTxnWithinLimits txn = AllByRecursion IsWithinLimits txn.commands

abbrev pub IsClientWithinLimits : JobClient → Type 0
IsClientWithinLimits client = AllByRecursion IsTxnWithinLimits client.txns

abbrev pub IsJobWithinLimits : Job → Type 0
IsJobWithinLimits job = AllByRecursion IsClientWithinLimits job.clients
