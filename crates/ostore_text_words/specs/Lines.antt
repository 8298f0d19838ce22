-- The lines of a text and their words, each with its place: a byte of the text, counted from 0.
--   A line ends at byte 10, and the last one may lack it. One or more spaces part its words.
--   A word that begins with `"` has the spaces up to its closing quote.
--   A line without words is passed over, and so is a comment, whose first word begins with `#`.
--   A control byte is one below 32. A word that holds one can't stand, and its place is that byte.
use Rattle.std.specs.Prelude.{ℕ, ◌+◌, ◌-◌, zero, suc, Bool, true, false, ◌&&◌, not, ◌==◌, nat_lt, nat_le, if◌then◌else◌, List, [], ◌∷◌, ◌++◌, length, map, filter, flat_map, take, drop, codes, Option, Some, None}
use Rattle.std.specs.List.{slice_split, list_all, position_or_len, find}
use Rattle.std.specs.Option.{option_map}
use Rattle.std.specs.Str.{bytes_eq, is_utf8, IsUtf8, IsValidUpTo}
use Rattle.std.specs.Str.Lossy.{utf8_valid_len}

-- a word, and where it stands
pub record PlacedWord : Type 0 where
  pub at : ℕ
  pub bytes : List ℕ

-- the words of a line, and where the line ends: at its byte 10, or at the end of the text
pub record PlacedLine : Type 0 where
  pub words : List PlacedWord
  pub end : ℕ

-- where a text stops being UTF-8, if it does: behind its longest front that is
abbrev pub utf8_fault : List ℕ → Option ℕ
utf8_fault text = if is_utf8 text then None else Some (utf8_valid_len text)

-- the same, said of the bytes before and behind it
abbrev pub IsUtf8Fault : List ℕ → Option ℕ → Type 0
IsUtf8Fault text None = IsUtf8 text
IsUtf8Fault text (Some at) = IsValidUpTo text at

-- ---- words

-- how many bytes stand before the next space
abbrev pub plain_length : List ℕ → ℕ
plain_length bytes = position_or_len (λ byte. byte == 32) bytes

-- how many bytes a quoted word has behind its opening quote: up to its closing quote, and on to the
-- next space; behind a backslash a quote doesn't close
abbrev pub quoted_length : List ℕ → ℕ
quoted_length [] = 0
quoted_length (byte ∷ []) = 1
quoted_length (byte ∷ next ∷ others) =
    if byte == 34 then 1 + plain_length (next ∷ others)
    else if byte == 92 then 2 + quoted_length others
    else 1 + quoted_length (next ∷ others)

-- how many bytes the word at the front has
abbrev pub word_length : List ℕ → ℕ
word_length [] = 0
word_length (byte ∷ others) = if byte == 34 then 1 + quoted_length others else plain_length (byte ∷ others)

-- the place of a word that begins at `at`: of its first control byte, or of its first byte
abbrev pub judged_at : ℕ → List ℕ → ℕ
judged_at at bytes = if list_all (nat_le 32) bytes then at else at + position_or_len (λ byte. nat_lt byte 32) bytes

abbrev pub placed : ℕ → List ℕ → PlacedWord
placed at bytes = record { at = judged_at at bytes; bytes = bytes }

-- The words of what stands at `at`, of which the first bytes belong to a word that was taken already.
unfoldable pub words_behind : ℕ → ℕ → List ℕ → List PlacedWord
words_behind taken at [] = []
words_behind (suc taken) at (byte ∷ others) = words_behind taken (at + 1) others
words_behind zero at (byte ∷ others) =
    if byte == 32 then words_behind zero (at + 1) others
    else (let count = word_length (byte ∷ others) in
    placed at (take count (byte ∷ others)) ∷ words_behind (count - 1) (at + 1) others)

-- ---- lines

abbrev pub is_comment : List ℕ → Bool
is_comment [] = false
is_comment (byte ∷ others) = if byte == 32 then is_comment others else byte == 35

-- a comment is passed over, unless it holds a control byte
abbrev pub line_words : ℕ → List ℕ → List PlacedWord
line_words at line =
    if is_comment line then (if list_all (nat_le 32) line then [] else placed at line ∷ [])
    else words_behind 0 at line

abbrev pub line_of : ℕ → List ℕ → PlacedLine
line_of at line = record { words = line_words at line; end = at + length line }

-- all lines of a text that begins at a place, from the bytes of each
abbrev pub lines_from : ℕ → List (List ℕ) → List PlacedLine
lines_from at [] = []
lines_from at (line ∷ others) = line_of at line ∷ lines_from (at + length line + 1) others

abbrev pub has_words : PlacedLine → Bool
has_words line = nat_lt 0 (length line.words)

-- the lines of a text that aren't passed over
unfoldable pub lines_of : List ℕ → List PlacedLine
lines_of text = filter has_words (lines_from 0 (slice_split (λ byte. byte == 10) text))

-- the words of a line, and of a text's lines, without their places
abbrev pub bare_words : PlacedLine → List (List ℕ)
bare_words line = map (λ word. word.bytes) line.words

abbrev pub bare_lines : List PlacedLine → List (List (List ℕ))
bare_lines lines = map bare_words lines

abbrev pub word_lines : List ℕ → List (List (List ℕ))
word_lines text = bare_lines (lines_of text)

-- ---- the canonical text of lines of words

-- the words with one space between them, and a newline behind
abbrev pub joined : List (List ℕ) → List ℕ
joined [] = codes "\n"
joined (word ∷ []) = word ++ codes "\n"
joined (word ∷ next ∷ words) = word ++ 32 ∷ joined (next ∷ words)

abbrev pub text_of_lines : List (List (List ℕ)) → List ℕ
text_of_lines lines = flat_map joined lines

-- a word that stands in a text as it is: some bytes, none a space or a control byte, of which the first
-- begins neither a quoted text nor a comment
abbrev pub is_bare : List ℕ → Bool
is_bare [] = false
is_bare (byte ∷ others) = list_all (nat_lt 32) (byte ∷ others) && not (byte == 34) && not (byte == 35)

-- a line that stands in a text as it is: some words, each of which does
abbrev pub is_bare_line : List (List ℕ) → Bool
is_bare_line line = nat_lt 0 (length line) && list_all is_bare line

-- ---- the line that parts a text in two

-- the line has this word alone
abbrev pub is_only : List ℕ → List PlacedWord → Bool
is_only word [] = false
is_only word (found ∷ []) = bytes_eq found.bytes word
is_only word (first ∷ second ∷ others) = false

-- a line as it stands, words or none: where it begins, and its bytes without byte 10
pub record PlacedBytes : Type 0 where
  pub at : ℕ
  pub bytes : List ℕ

-- the lines of a text that begins at a place, from the bytes of each
abbrev pub bytes_from : ℕ → List (List ℕ) → List PlacedBytes
bytes_from at [] = []
bytes_from at (line ∷ others) = record { at = at; bytes = line } ∷ bytes_from (at + length line + 1) others

-- all lines of a text
unfoldable pub line_bytes : List ℕ → List PlacedBytes
line_bytes text = bytes_from 0 (slice_split (λ byte. byte == 10) text)

-- the lines from a place on, at which a line begins; none where the place is behind the text
unfoldable pub bytes_on : ℕ → List ℕ → List PlacedBytes
bytes_on at text = if nat_le at (length text) then bytes_from at (slice_split (λ byte. byte == 10) (drop at text)) else []

-- of these lines, those that aren't passed over
abbrev pub worded : List PlacedBytes → List PlacedLine
worded lines = filter has_words (map (λ line. line_of line.at line.bytes) lines)

-- the lines from a place on that aren't passed over, with the places that they have in the whole text
abbrev pub lines_on : ℕ → List ℕ → List PlacedLine
lines_on at text = worded (bytes_on at text)

-- the lines that a reader has before it, the next one first, and where the text ends
pub record LinesAhead : Type 0 where
  pub lines : List PlacedLine
  pub end : ℕ

-- those of a text from a place on
abbrev pub ahead_from : ℕ → List ℕ → LinesAhead
ahead_from at text = record { lines = lines_on at text; end = length text }

-- whether a line is left
abbrev pub has_line : List PlacedLine → Bool
has_line [] = false
has_line (line ∷ lines) = true

-- those behind the next line
abbrev pub behind_line : LinesAhead → LinesAhead
behind_line ahead = record { lines = drop 1 ahead.lines; end = ahead.end }

-- the line's only word is this one, wherever the line stands
abbrev pub is_parting : List ℕ → PlacedBytes → Bool
is_parting word line = is_only word (words_behind 0 0 line.bytes)

-- where a line begins, and where the line behind it does
abbrev pub around_line : PlacedBytes → ℕ × ℕ
around_line line = (line.at, line.at + length line.bytes + 1)

-- where the first line begins whose only word is this one, and where the line behind it begins
abbrev pub parting_of : List ℕ → List ℕ → Option (ℕ × ℕ)
parting_of word text = option_map around_line (find (is_parting word) (line_bytes text))
