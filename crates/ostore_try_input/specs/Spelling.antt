-- What a text for `try` says: a schema, a line `job`, and a job; and which schemas and jobs are built.
use Rattle.std.specs.Prelude.{◌≡◌, ℕ, ◌≤◌, List, [], ◌∷◌, length, take, drop, codes, Option, Some, None}
use Rattle.std.specs.List.{AllByRecursion}
use Rattle.ostore_text_words.specs.Lines.{parting_of}
use Rattle.ostore_schema_layout.specs.Spells.{Spells}
use Rattle.ostore_graph_model.specs.declared.commands.Txn.{Txn}
use Rattle.ostore_job_text.specs.declared.job.Job.{Job}
use Rattle.ostore_job_text.specs.declared.job.JobClient.{JobClient}
use Rattle.ostore_try_input.specs.declared.input.TryInput.{TryInput}
use Rattle.ostore_job_text.specs.Limits.{longest_text}
use Rattle.ostore_job_text.specs.JobSpelling.{SpellsJob}
use Rattle.ostore_object_ops.specs.Suits.{IsOfInts, IsBuilt}

-- ---- what is built

-- all commands of the transaction run, whether it updates or reads, and whether it commits or aborts
abbrev pub IsBuiltTxn : Txn → Type 0
IsBuiltTxn txn = AllByRecursion IsBuilt txn.commands

abbrev pub IsBuiltClient : JobClient → Type 0
IsBuiltClient client = AllByRecursion IsBuiltTxn client.txns

-- any number of clients, with any options
abbrev pub AreBuiltClients : List JobClient → Type 0
AreBuiltClients clients = AllByRecursion IsBuiltClient clients

-- ---- the whole text

-- the part before the first line `job`, and where the part behind it begins; without one, all and the end
abbrev pub parts_at : Option (ℕ × ℕ) → List ℕ → List ℕ × ℕ
parts_at None text = (text, length text)
parts_at (Some line) text = (take line.0 text, line.1)

abbrev pub schema_part : List ℕ → List ℕ
schema_part text = (parts_at (parting_of (codes "job") text) text).0

abbrev pub job_start : List ℕ → ℕ
job_start text = (parts_at (parting_of (codes "job") text) text).1

-- the part behind that line
abbrev pub job_part : List ℕ → List ℕ
job_part text = drop (job_start text) text

-- the text spells this job, and it is built; its turns are passed over
pub record SaysJob (text : List ℕ) (job : Job) : Type 0 where
  pub spelled : SpellsJob text job
  pub built : AreBuiltClients job.clients

-- the text says this input, which is built
pub record Says (text : List ℕ) (input : TryInput) : Type 0 where
  pub short : length text ≤ longest_text
  pub schema : Spells (schema_part text) input.schema
  pub types : IsOfInts input.schema
  pub job : SaysJob (job_part text) input.job

-- the text says no input that is built
abbrev pub IsRefused : List ℕ → Type 0
IsRefused text = (input : TryInput) → Says text input → ⊥
