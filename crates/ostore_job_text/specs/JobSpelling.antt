-- Which job a text spells, word for word, apart from any reader.
--   client NAME [tries N] [cache N] [frames N]     the options in any order, each once at most
--   begin, or: read                                then commands, and: commit, or: abort
--   turns ENTRY ENTRY ..                           ENTRY is NAME or NAME*COUNT; behind the clients
use Rattle.std.specs.Prelude.{◌≡◌, ◌≢◌, ◌⊎◌, ℕ, ◌≤◌, List, [], ◌∷◌, ◌++◌, length, codes, decimal}
use Rattle.std.specs.List.{flat_map, AllByRecursion}
use Rattle.std.specs.Str.{IsUtf8}
use Rattle.ostore_text_words.specs.Lines.{word_lines}
use Rattle.ostore_schema_layout.specs.Cells.{ArePairwise}
use Rattle.ostore_job_text.specs.declared.job.Job.{Job}
use Rattle.ostore_job_text.specs.declared.job.JobClient.{JobClient}
use Rattle.ostore_job_text.specs.declared.job.JobTurn.{JobTurn}
use Rattle.ostore_job_text.specs.Limits.{longest_text}
use Rattle.ostore_job_text.specs.Canonical.{client_name, txn_lines}
use Rattle.ostore_job_text.specs.LawfulJob.{Setting, setting_name, setting_default, setting_of, IsLawfulJob}

-- ---- clients

abbrev pub setting_words : JobClient → Setting → List (List ℕ)
setting_words client setting = setting_name setting ∷ decimal (setting_of client setting) ∷ []

-- the first line of a client: its name, and the options that are given; the others are at their defaults
pub record IsClientLine (client : JobClient) (line : List (List ℕ)) : Type 0 where
  pub given : List Setting
  pub once : ArePairwise (λ earlier later. earlier ≢ later) given
  pub words : line ≡ codes "client" ∷ client.name ∷ flat_map (setting_words client) given
  pub others : (setting : Setting) → AllByRecursion (λ other. other ≢ setting) given → setting_of client setting ≡ setting_default setting

-- the lines of clients, one after the other: each one's first, and those of its transactions
abbrev pub AreClientLines : List JobClient → List (List (List ℕ)) → Type 0
AreClientLines [] lines = lines ≡ []
AreClientLines (client ∷ clients) lines =
    (line : List (List ℕ)) × (behind : List (List (List ℕ))) × (lines ≡ line ∷ flat_map txn_lines client.txns ++ behind) × IsClientLine client line × AreClientLines clients behind

-- ---- turns

-- an entry: the client's name, and how many turns it takes, where 1 may be left out
abbrev pub IsEntryWord : List JobClient → JobTurn → List ℕ → Type 0
IsEntryWord clients turn word =
    (word ≡ client_name clients turn.client ++ 42 ∷ decimal turn.count) ⊎ ((word ≡ client_name clients turn.client) × (turn.count ≡ 1))

abbrev pub AreEntryWords : List JobClient → List JobTurn → List (List ℕ) → Type 0
AreEntryWords clients [] words = words ≡ []
AreEntryWords clients (turn ∷ turns) words =
    (word : List ℕ) × (behind : List (List ℕ)) × (words ≡ word ∷ behind) × IsEntryWord clients turn word × AreEntryWords clients turns behind

-- a line of some entries
pub record IsTurnsLine (clients : List JobClient) (turns : List JobTurn) (line : List (List ℕ)) : Type 0 where
  pub some : 1 ≤ length turns
  pub entries : List (List ℕ)
  pub words : line ≡ codes "turns" ∷ entries
  pub named : AreEntryWords clients turns entries

-- the entries of lines are joined
abbrev pub AreTurnsLines : List JobClient → List JobTurn → List (List (List ℕ)) → Type 0
AreTurnsLines clients turns [] = turns ≡ []
AreTurnsLines clients turns (line ∷ lines) =
    (own : List JobTurn) × (behind : List JobTurn) × (turns ≡ own ++ behind) × IsTurnsLine clients own line × AreTurnsLines clients behind lines

-- ---- the text

-- the text spells the job, which is a lawful one: the lines of its clients, and behind them those of its turns
pub record SpellsJob (text : List ℕ) (job : Job) : Type 0 where
  pub short : length text ≤ longest_text
  pub utf8 : IsUtf8 text
  pub client_part : List (List (List ℕ))
  pub turns_part : List (List (List ℕ))
  pub lines : word_lines text ≡ client_part ++ turns_part
  pub client_lines : AreClientLines job.clients client_part
  pub turns_lines : AreTurnsLines job.clients job.turns turns_part
  pub lawful : IsLawfulJob job
