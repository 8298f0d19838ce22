-- What the words of a line say, by their index, which counts from 0. Words are judged one after the other. The
-- fault is at the first that can't stand, at the end of the line where a word is missing, and at the end of the
-- text where a line is missing.
use Rattle.std.specs.Prelude.{ℕ, if◌then◌else◌, List, Option, Some, None, Result, Ok, Err}
use Rattle.std.specs.List.{slice_get}
use Rattle.std.specs.Str.{bytes_eq}
use Rattle.ostore_text_words.specs.Words.{is_identifier, may_stand}
use Rattle.ostore_text_words.specs.Lines.{PlacedWord, PlacedLine, LinesAhead}

-- a value, or the place of the fault
infixl 10 ◌>>=◌
abbrev pub ◌>>=◌ : {A B : Type 0} → Result A ℕ → (A → Result B ℕ) → Result B ℕ
(Ok x) >>= f = f x
(Err at) >>= f = Err at

-- the value, or the fault at this place where there is none
abbrev pub or_at : {A : Type 0} → ℕ → Option A → Result A ℕ
or_at at None = Err at
or_at at (Some x) = Ok x

-- the next line, which may not be missing
abbrev pub line_at : LinesAhead → Result PlacedLine ℕ
line_at ahead = or_at ahead.end (slice_get ahead.lines 0)

-- the word, which may not be missing
abbrev pub word_at : PlacedLine → ℕ → Result PlacedWord ℕ
word_at line i = or_at line.end (slice_get line.words i)

-- what the word says by a meaning of single words, as an int or a quoted text; it may not say nothing
unfoldable pub says_at : {A : Type 0} → (List ℕ → Option A) → PlacedLine → ℕ → Result A ℕ
says_at says line i = do
  word ← word_at line i
  or_at word.at (says word.bytes)

-- an identifier, with its place
unfoldable pub identifier_at : PlacedLine → ℕ → Result PlacedWord ℕ
identifier_at line i = do
  word ← word_at line i
  if is_identifier word.bytes then Ok word else Err word.at

-- this very word
unfoldable pub keyword_at : List ℕ → PlacedLine → ℕ → Result PlacedWord ℕ
keyword_at keyword line i = do
  word ← word_at line i
  if bytes_eq word.bytes keyword then Ok word else Err word.at

-- a word of any kind, as it may stand somewhere
unfoldable pub any_at : PlacedLine → ℕ → Result PlacedWord ℕ
any_at line i = do
  word ← word_at line i
  if may_stand word.bytes then Ok word else Err word.at

-- no word stands here any more
abbrev pub none_of : Option PlacedWord → Result (Unit {0}) ℕ
none_of None = Ok tt
none_of (Some word) = Err word.at

abbrev pub ended_at : PlacedLine → ℕ → Result (Unit {0}) ℕ
ended_at line i = none_of (slice_get line.words i)

-- the value, where no word stands here any more
abbrev pub if_ended : {A : Type 0} → PlacedLine → ℕ → A → Result A ℕ
if_ended line i x = ended_at line i >>= λ nothing. Ok x
