-- What the lines of a job say. Words are judged one after the other, and the fault is at the first that can't
-- stand, at the end of the line where a word is missing, and at the end of the text where a line is missing.
-- What is named and what is allowed is judged later.
use Rattle.std.specs.Prelude.{ℕ, true, false, if◌then◌else◌, List, [], ◌∷◌, drop, codes, Result, Ok, Err}
use Rattle.std.specs.Str.{bytes_eq}
use Rattle.ostore_text_words.specs.Words.{may_stand}
use Rattle.ostore_text_words.specs.Lines.{PlacedWord, PlacedLine}
use Rattle.ostore_text_words.specs.LineWords.{◌>>=◌, or_at, word_at, identifier_at, if_ended}
use Rattle.ostore_job_text.specs.declared.said.OptionSaid.{OptionSaid}
use Rattle.ostore_job_text.specs.declared.said.ClientSaid.{ClientSaid}
use Rattle.ostore_job_text.specs.declared.said.EntrySaid.{EntrySaid}
use Rattle.ostore_job_text.specs.declared.said.LineSaid.{LineSaid}
use Rattle.ostore_job_text.specs.declared.said.LineSaid.TheVariants as kinds
use Rattle.ostore_job_text.specs.declared.said.Stand.{Stand}
use Rattle.ostore_job_text.specs.declared.said.Stand.TheVariants as stands
use Rattle.ostore_job_text.specs.WordsSaid.{is_count, entry_of}
use Rattle.ostore_command_text.specs.CommandsSaid.{command_by}

-- ---- clients and turns

abbrev pub option_of : PlacedWord → PlacedWord → OptionSaid
option_of option number = record { at = option.at; name = option.bytes; number = number.bytes }

-- Options in pairs of words: any word, and a count. A last word without its count lacks it at the line's end.
abbrev pub options_of : ℕ → List PlacedWord → Result (List OptionSaid) ℕ
options_of end [] = Ok []
options_of end (option ∷ []) = if may_stand option.bytes then Err end else Err option.at
options_of end (option ∷ number ∷ others) =
    if may_stand option.bytes then
    (if is_count number.bytes then (options_of end others >>= λ options. Ok (option_of option number ∷ options)) else Err number.at)
    else Err option.at

abbrev pub client_of : PlacedWord → List OptionSaid → ClientSaid
client_of name options = record { at = name.at; name = name.bytes; options = options }

-- the words of a line from one on
abbrev pub words_from : ℕ → PlacedLine → List PlacedWord
words_from i line = drop i line.words

unfoldable pub client_at : PlacedLine → Result LineSaid ℕ
client_at line = do
  name ← identifier_at line 1
  options ← options_of line.end (words_from 2 line)
  Ok (kinds.Client (client_of name options))

abbrev pub entry_said : ℕ → List ℕ × ℕ → EntrySaid
entry_said at entry = record { at = at; name = entry.0; count = entry.1 }

abbrev pub entries_of : List PlacedWord → Result (List EntrySaid) ℕ
entries_of [] = Ok []
entries_of (word ∷ words) = do
  entry ← or_at word.at (entry_of word.bytes)
  others ← entries_of words
  Ok (entry_said word.at entry ∷ others)

-- `turns`, and at least one entry
unfoldable pub turns_at : PlacedLine → Result LineSaid ℕ
turns_at line = do
  first ← word_at line 1
  entries ← entries_of (words_from 1 line)
  Ok (kinds.Turns entries)

-- ---- lines, by where they stand

-- a command of a transaction, or its last line
unfoldable pub in_txn_at : PlacedLine → ℕ → List ℕ → Result LineSaid ℕ
in_txn_at line at verb =
    if bytes_eq verb (codes "commit") then if_ended line 1 (kinds.End false)
    else if bytes_eq verb (codes "abort") then if_ended line 1 (kinds.End true)
    else (command_by line at verb >>= λ command. Ok (kinds.Command command))

-- no client stands behind a line `turns`
unfoldable pub in_turns_at : PlacedLine → ℕ → List ℕ → Result LineSaid ℕ
in_turns_at line at verb = if bytes_eq verb (codes "turns") then turns_at line else Err at

unfoldable pub at_start_at : PlacedLine → ℕ → List ℕ → Result LineSaid ℕ
at_start_at line at verb = if bytes_eq verb (codes "client") then client_at line else in_turns_at line at verb

-- a transaction begins with `begin`, and one that reads with `read`
unfoldable pub in_client_at : PlacedLine → ℕ → List ℕ → Result LineSaid ℕ
in_client_at line at verb =
    if bytes_eq verb (codes "begin") then if_ended line 1 (kinds.Begin true)
    else if bytes_eq verb (codes "read") then if_ended line 1 (kinds.Begin false)
    else at_start_at line at verb

abbrev pub said_by_verb : Stand → PlacedLine → ℕ → List ℕ → Result LineSaid ℕ
said_by_verb stands.Start line at verb = at_start_at line at verb
said_by_verb stands.InClient line at verb = in_client_at line at verb
said_by_verb stands.InTxn line at verb = in_txn_at line at verb
said_by_verb stands.InTurns line at verb = in_turns_at line at verb

unfoldable pub said_at : Stand → PlacedLine → Result LineSaid ℕ
said_at stand line = do
  verb ← word_at line 0
  said_by_verb stand line verb.at verb.bytes

-- where the next line stands
abbrev pub stand_after : LineSaid → Stand
stand_after (kinds.Client client) = stands.InClient
stand_after (kinds.Begin update) = stands.InTxn
stand_after (kinds.Command command) = stands.InTxn
stand_after (kinds.End aborts) = stands.InClient
stand_after (kinds.Turns entries) = stands.InTurns

-- a transaction has a last line
abbrev pub ends_at : ℕ → Stand → Result (Unit {0}) ℕ
ends_at end stands.InTxn = Err end
ends_at end stands.Start = Ok tt
ends_at end stands.InClient = Ok tt
ends_at end stands.InTurns = Ok tt

-- what lines say, the first of which stands there, up to the end of the text
unfoldable pub said_from : ℕ → Stand → List PlacedLine → Result (List LineSaid) ℕ
said_from end stand [] = ends_at end stand >>= λ nothing. Ok []
said_from end stand (line ∷ lines) = do
  said ← said_at stand line
  others ← said_from end (stand_after said) lines
  Ok (said ∷ others)
