-- The canonical text of a job: one space between words, no comments, and a newline after each line. It has
-- those options that aren't at their default, one `turns` line where there are entries, and no COUNT of 1.
use Rattle.std.specs.Prelude.{ℕ, ◌==◌, if◌then◌else◌, List, [], ◌∷◌, ◌++◌, map, codes, decimal, Option, Some, None}
use Rattle.std.specs.List.{flat_map, slice_get}
use Rattle.ostore_base.specs.declared.numbers.ClientNo.{ClientNo}
use Rattle.ostore_text_words.specs.Lines.{text_of_lines}
use Rattle.ostore_graph_model.specs.declared.commands.Txn.{Txn}
use Rattle.ostore_job_text.specs.declared.job.Job.{Job}
use Rattle.ostore_job_text.specs.declared.job.JobClient.{JobClient}
use Rattle.ostore_job_text.specs.declared.job.JobTurn.{JobTurn}
use Rattle.ostore_job_text.specs.Limits.{default_tries, default_cache, default_frames}
use Rattle.ostore_command_text.specs.CommandWords.{command_words}

-- an option that isn't at its default
abbrev pub option_words : List ℕ → ℕ → ℕ → List (List ℕ)
option_words name default value = if value == default then [] else name ∷ decimal value ∷ []

abbrev pub client_options : JobClient → List (List ℕ)
client_options client =
    option_words (codes "tries") default_tries client.tries
    ++ option_words (codes "cache") default_cache client.cache
    ++ option_words (codes "frames") default_frames client.frames

abbrev pub client_line : JobClient → List (List ℕ)
client_line client = codes "client" ∷ client.name ∷ client_options client

-- how a transaction begins, and how it ends
abbrev pub begin_line : Txn → List (List ℕ)
begin_line txn = (if txn.update then codes "begin" else codes "read") ∷ []

abbrev pub end_line : Txn → List (List ℕ)
end_line txn = (if txn.aborts then codes "abort" else codes "commit") ∷ []

abbrev pub txn_lines : Txn → List (List (List ℕ))
txn_lines txn = begin_line txn ∷ map command_words txn.commands ++ end_line txn ∷ []

abbrev pub client_lines : JobClient → List (List (List ℕ))
client_lines client = client_line client ∷ flat_map txn_lines client.txns

-- the name of a client
abbrev pub name_of_client : Option JobClient → List ℕ
name_of_client None = []
name_of_client (Some client) = client.name

abbrev pub client_name : List JobClient → ClientNo → List ℕ
client_name clients client = name_of_client (slice_get clients client.0)

-- `NAME`, or `NAME*COUNT`
abbrev pub turn_word : List JobClient → JobTurn → List ℕ
turn_word clients turn = client_name clients turn.client ++ (if turn.count == 1 then [] else 42 ∷ decimal turn.count)

abbrev pub turns_line : List JobClient → List JobTurn → List (List ℕ)
turns_line clients turns = codes "turns" ∷ map (turn_word clients) turns

-- one line, where there are entries
abbrev pub turns_lines : List JobClient → List JobTurn → List (List (List ℕ))
turns_lines clients [] = []
turns_lines clients (turn ∷ turns) = turns_line clients (turn ∷ turns) ∷ []

abbrev pub canonical_lines : Job → List (List (List ℕ))
canonical_lines job = flat_map client_lines job.clients ++ turns_lines job.clients job.turns

abbrev pub canonical_text : Job → List ℕ
canonical_text job = text_of_lines (canonical_lines job)
