-- Each command of a lawful job writes within its limits.
use Rattle.std.proofs.Common.{ℕ, List, [], ◌∷◌}
use Rattle.std.specs.List.{AllByRecursion}
use Rattle.ostore_graph_model.specs.GraphRules.{IsWithinLimits}
use Rattle.ostore_graph_model.specs.declared.commands.Command.{Command}
use Rattle.ostore_graph_model.specs.declared.commands.Command.TheVariants as commands
use Rattle.ostore_graph_model.specs.declared.commands.Operand.TheVariants as operands
use Rattle.ostore_graph_model.specs.declared.commands.Key.TheVariants as keys
use Rattle.ostore_graph_model.specs.declared.commands.Txn.{Txn}
use Rattle.ostore_job_text.specs.declared.job.Job.{Job}
use Rattle.ostore_job_text.specs.declared.job.JobClient.{JobClient}
use Rattle.ostore_command_text.specs.LawfulCommands.{IsLawfulCommand, IsUtf8Command}
use Rattle.ostore_job_text.specs.LawfulJob.{IsUtf8Txn, IsUtf8Client, IsLawfulTxn, IsLawfulClient}
use Rattle.ostore_job_text.specs.JobSpelling.{SpellsJob}
use Rattle.ostore_job_text.specs.WithinLimits.{IsTxnWithinLimits, IsClientWithinLimits, IsJobWithinLimits}

-- what two lists of facts give together
both_give : {X : Type 0} (P Q R : X → Type 0) → ((x : X) → P x → Q x → R x) → (xs : List X) → AllByRecursion P xs → AllByRecursion Q xs → AllByRecursion R xs
both_give P Q R give [] ps qs = tt
both_give P Q R give (x ∷ xs) ps qs = (give x ps.0 qs.0, both_give P Q R give xs ps.1 qs.1)

command_within : (command : Command) → IsLawfulCommand command → IsUtf8Command command → IsWithinLimits command
command_within (commands.New to ty segment) lawful utf8 = (lawful.2, lawful.3)
command_within (commands.Find to name) lawful utf8 = tt
command_within (commands.Root to root) lawful utf8 = tt
command_within (commands.SetRoot root item) lawful utf8 = lawful.0
command_within (commands.Get object member) lawful utf8 = tt
command_within (commands.Set object member (operands.Int value)) lawful utf8 = lawful.1
command_within (commands.Set object member (operands.Text text)) lawful utf8 = utf8
command_within (commands.Set object member (operands.Var name)) lawful utf8 = tt
command_within (commands.Set object member operands.Null) lawful utf8 = tt
command_within (commands.Follow to object member) lawful utf8 = tt
command_within (commands.Delete object) lawful utf8 = tt
command_within (commands.Insert object member item) lawful utf8 = tt
command_within (commands.Remove object member item) lawful utf8 = tt
command_within (commands.Members object member) lawful utf8 = tt
command_within (commands.Size object member) lawful utf8 = tt
command_within (commands.Append object member item) lawful utf8 = tt
command_within (commands.Put object member index item) lawful utf8 = tt
command_within (commands.At to object member index) lawful utf8 = tt
command_within (commands.Bind object member (keys.Int value) item) lawful utf8 = lawful.1
command_within (commands.Bind object member (keys.Text text) item) lawful utf8 = utf8
command_within (commands.Look to object member key) lawful utf8 = tt
command_within (commands.Unbind object member key) lawful utf8 = tt
command_within (commands.Index object member path) lawful utf8 = lawful.1.1
command_within (commands.Unindex object member path) lawful utf8 = tt
command_within (commands.Query object member path op key) lawful utf8 = tt

txn_within : (txn : Txn) → IsLawfulTxn txn → IsUtf8Txn txn → IsTxnWithinLimits txn
txn_within txn = both_give IsLawfulCommand IsUtf8Command IsWithinLimits command_within txn.commands

client_within : (client : JobClient) → IsLawfulClient client → IsUtf8Client client → IsClientWithinLimits client
client_within client lawful = both_give IsLawfulTxn IsUtf8Txn IsTxnWithinLimits txn_within client.txns lawful.lawful_txns

pub spelled_within : (text : List ℕ) (job : Job) → SpellsJob text job → IsJobWithinLimits job
spelled_within text job spells =
    both_give IsLawfulClient IsUtf8Client IsClientWithinLimits client_within job.clients spells.lawful.lawful_clients spells.lawful.utf8_texts
