-- What single words of a command say, or nothing where they are no such word.
use Rattle.std.specs.Prelude.{ℕ, if◌then◌else◌, List, [], ◌∷◌, codes, Option, Some, None}
use Rattle.std.specs.Str.{bytes_eq}
use Rattle.ostore_base.specs.Limits.{most_segments}
use Rattle.ostore_text_words.specs.Words.{◌>>=◌, after_byte, around_byte, identifier_at, dotted_at, count_at}
use Rattle.ostore_graph_model.specs.declared.commands.Op.{Op}
use Rattle.ostore_graph_model.specs.declared.commands.Op.TheVariants as ops
use Rattle.ostore_command_text.specs.Limits.{greatest_index}

-- the name of `$name`
unfoldable pub variable_of : List ℕ → Option (List ℕ)
variable_of word = after_byte 36 word >>= identifier_at

-- the object and the member of `$object.member`
unfoldable pub place_of : List ℕ → Option (List ℕ × List ℕ)
place_of word = after_byte 36 word >>= dotted_at

abbrev pub segment_of : List ℕ → Option ℕ
segment_of word = count_at 1 most_segments word

abbrev pub index_of : List ℕ → Option ℕ
index_of word = count_at 0 greatest_index word

abbrev pub op_of : List ℕ → Option Op
op_of word =
    if bytes_eq word (codes "=") then Some ops.Equal
    else if bytes_eq word (codes "<") then Some ops.Less
    else if bytes_eq word (codes "<=") then Some ops.LessEqual
    else if bytes_eq word (codes ">") then Some ops.Greater
    else if bytes_eq word (codes ">=") then Some ops.GreaterEqual
    else None

-- ---- paths of one to three members

-- a path of one member
unfoldable pub last_of : List ℕ → Option (List (List ℕ))
last_of word = do
  member ← identifier_at word
  Some (member ∷ [])

-- a path of one member, or one behind whose first member further ones stand
abbrev pub parted_by : (List ℕ → Option (List (List ℕ))) → List ℕ → Option (List ℕ × List ℕ) → Option (List (List ℕ))
parted_by later word None = last_of word
parted_by later word (Some parts) = do
  member ← identifier_at parts.0
  others ← later parts.1
  Some (member ∷ others)

unfoldable pub later_of : List ℕ → Option (List (List ℕ))
later_of word = parted_by last_of word (around_byte 46 word)

unfoldable pub path_of : List ℕ → Option (List (List ℕ))
path_of word = parted_by later_of word (around_byte 46 word)
