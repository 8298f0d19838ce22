-- What single words of a client's line and of a line `turns` say, or nothing where they are no such word.
use Rattle.std.specs.Prelude.{ℕ, Bool, false, ◌&&◌, not, nat_lt, ◌==◌, List, [], ◌∷◌, length, Option, Some, None}
use Rattle.std.specs.Char.{is_ascii_digit}
use Rattle.std.specs.List.{list_all}
use Rattle.ostore_text_words.specs.Words.{◌>>=◌, around_byte, identifier_at, count_at}
use Rattle.ostore_job_text.specs.Limits.{most_turns}

-- ---- counts of any size, and entries of `turns`

-- decimal digits without a leading zero, or `0`
abbrev pub has_leading_zero : List ℕ → Bool
has_leading_zero [] = false
has_leading_zero (byte ∷ others) = byte == 48 && nat_lt 0 (length others)

unfoldable pub is_count : List ℕ → Bool
is_count word = nat_lt 0 (length word) && list_all is_ascii_digit word && not (has_leading_zero word)

-- the client's name and how many turns it takes, of `NAME` or `NAME*COUNT`
abbrev pub entry_by : List ℕ → Option (List ℕ × List ℕ) → Option (List ℕ × ℕ)
entry_by word None = do
  name ← identifier_at word
  Some (name, 1)
entry_by word (Some parts) = do
  name ← identifier_at parts.0
  count ← count_at 1 most_turns parts.1
  Some (name, count)

unfoldable pub entry_of : List ℕ → Option (List ℕ × ℕ)
entry_of word = entry_by word (around_byte 42 word)
