-- Single words, and options and entries by the index of their words, as the reader's functions give one.
use Rattle.std.specs.Prelude.{ℕ, ◌+◌, if◌then◌else◌, Result, Ok, Err}
use Rattle.ostore_text_words.specs.Lines.{PlacedWord, PlacedLine}
use Rattle.ostore_text_words.specs.LineWords.{◌>>=◌, or_at, word_at, any_at}
use Rattle.ostore_job_text.specs.declared.said.OptionSaid.{OptionSaid}
use Rattle.ostore_job_text.specs.declared.said.EntrySaid.{EntrySaid}
use Rattle.ostore_job_text.specs.WordsSaid.{is_count, entry_of}
use Rattle.ostore_job_text.specs.LinesSaid.{option_of, entry_said}

unfoldable pub count_at : PlacedLine → ℕ → Result PlacedWord ℕ
count_at line i = do
  word ← word_at line i
  if is_count word.bytes then Ok word else Err word.at

unfoldable pub option_at : PlacedLine → ℕ → Result OptionSaid ℕ
option_at line i = do
  option ← any_at line i
  number ← count_at line (i + 1)
  Ok (option_of option number)

unfoldable pub entry_at : PlacedLine → ℕ → Result EntrySaid ℕ
entry_at line i = do
  word ← word_at line i
  entry ← or_at word.at (entry_of word.bytes)
  Ok (entry_said word.at entry)
