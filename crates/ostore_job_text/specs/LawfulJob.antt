-- Which jobs are lawful: those that a text can spell. Each name is an identifier, each number within its limits,
-- each quoted text UTF-8, no two clients have one name, and each entry of `turns` names a client.
use Rattle.std.specs.Prelude.{◌≢◌, ℕ, ◌<◌, ◌≤◌, List, length, codes}
use Rattle.std.specs.List.{AllByRecursion}
use Rattle.ostore_base.specs.Limits.{most_clients, most_pages}
use Rattle.ostore_schema_layout.specs.Cells.{ArePairwise}
use Rattle.ostore_graph_model.specs.declared.commands.Txn.{Txn}
use Rattle.ostore_job_text.specs.declared.job.Job.{Job}
use Rattle.ostore_job_text.specs.declared.job.JobClient.{JobClient}
use Rattle.ostore_job_text.specs.declared.job.JobTurn.{JobTurn}
use Rattle.ostore_job_text.specs.Limits.{default_tries, default_cache, default_frames, most_tries, most_frames, most_turns}
use Rattle.ostore_command_text.specs.LawfulCommands.{IsIdent, IsLawfulCommand, IsUtf8Command}

-- ---- quoted texts: UTF-8, as the text is in which they stand

abbrev pub IsUtf8Txn : Txn → Type 0
IsUtf8Txn txn = AllByRecursion IsUtf8Command txn.commands

abbrev pub IsUtf8Client : JobClient → Type 0
IsUtf8Client client = AllByRecursion IsUtf8Txn client.txns

-- ---- options

-- the options of a client
pub data Setting : Type 0 where
  tries : Setting
  cache : Setting
  frames : Setting

abbrev pub setting_name : Setting → List ℕ
setting_name tries = codes "tries"
setting_name cache = codes "cache"
setting_name frames = codes "frames"

-- the number of an option that isn't given
abbrev pub setting_default : Setting → ℕ
setting_default tries = default_tries
setting_default cache = default_cache
setting_default frames = default_frames

-- the greatest number of an option; the least is 1
abbrev pub setting_most : Setting → ℕ
setting_most tries = most_tries
setting_most cache = most_pages
setting_most frames = most_frames

-- the number that a client has for an option
abbrev pub setting_of : JobClient → Setting → ℕ
setting_of client tries = client.tries
setting_of client cache = client.cache
setting_of client frames = client.frames

-- ---- clients and turns

abbrev pub IsLawfulTxn : Txn → Type 0
IsLawfulTxn txn = AllByRecursion IsLawfulCommand txn.commands

abbrev pub IsLawfulSetting : JobClient → Setting → Type 0
IsLawfulSetting client setting = (1 ≤ setting_of client setting) × (setting_of client setting ≤ setting_most setting)

-- each option is within its limits
abbrev pub HasLawfulSettings : JobClient → Type 0
HasLawfulSettings client = (setting : Setting) → IsLawfulSetting client setting

pub record IsLawfulClient (client : JobClient) : Type 0 where
  pub named : IsIdent client.name
  pub settings : HasLawfulSettings client
  pub lawful_txns : AllByRecursion IsLawfulTxn client.txns

-- an entry of `turns`, which names one of the clients
abbrev pub IsLawfulTurn : List JobClient → JobTurn → Type 0
IsLawfulTurn clients turn = (turn.client.0 < length clients) × (1 ≤ turn.count) × (turn.count ≤ most_turns)

pub record IsLawfulJob (job : Job) : Type 0 where
  pub few : length job.clients ≤ most_clients
  pub own_names : ArePairwise (λ earlier later. earlier.name ≢ later.name) job.clients
  pub lawful_clients : AllByRecursion IsLawfulClient job.clients
  pub lawful_turns : AllByRecursion (IsLawfulTurn job.clients) job.turns
  pub utf8_texts : AllByRecursion IsUtf8Client job.clients
