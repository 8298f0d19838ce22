-- A walk over the lines of a text, by the list of those that are left.
use Rattle.std.specs.Prelude.{ℕ, List, [], ◌∷◌, filter}
use Rattle.ostore_text_words.specs.declared.lines.walk.LineBytes.{LineBytes}
use Rattle.ostore_text_words.specs.declared.lines.walk.LineWalk.{LineWalk}
use Rattle.ostore_text_words.specs.Lines.{PlacedBytes, PlacedWord, PlacedLine, bytes_on, has_words}

abbrev pub seen_bytes : LineBytes → PlacedBytes
seen_bytes line = record { at = line.at; bytes = line.bytes.now }

abbrev pub lines_left : LineWalk → List PlacedBytes
lines_left walk = bytes_on walk.next_at walk.text.now

-- a line of these words, unless it has none
abbrev pub kept_line : List PlacedWord → ℕ → List PlacedLine
kept_line words end = filter has_words (record { words = words; end = end } ∷ [])
