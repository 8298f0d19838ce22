-- What the lines of a text declare, before the names in it are looked up. Words are judged one after
-- the other, and the fault is at the first that can't stand, or at the end of the line where one is
-- missing.
use Rattle.std.specs.Prelude.{ℕ, Bool, false, if◌then◌else◌, List, [], ◌∷◌, codes, Option, Some, None, Result, Ok, Err}
use Rattle.std.specs.List.{slice_get}
use Rattle.std.specs.Str.{bytes_eq}
use Rattle.ostore_text_words.specs.Words.{count_at, dotted_at}
use Rattle.ostore_text_words.specs.Lines.{PlacedWord, PlacedLine}
use Rattle.ostore_text_words.specs.LineWords.{◌>>=◌, or_at, word_at, says_at, identifier_at, keyword_at, if_ended}
use Rattle.ostore_schema_layout.specs.declared.declarations.NameAt.{NameAt}
use Rattle.ostore_schema_layout.specs.declared.declarations.TypeDeclaration.{TypeDeclaration}
use Rattle.ostore_schema_layout.specs.declared.declarations.MemberDeclaration.{MemberDeclaration}
use Rattle.ostore_schema_layout.specs.declared.declarations.KindDeclaration.{KindDeclaration}
use Rattle.ostore_schema_layout.specs.declared.declarations.KindDeclaration.TheVariants as kinds
use Rattle.ostore_schema_layout.specs.declared.declarations.InverseDeclaration.{InverseDeclaration}
use Rattle.ostore_schema_layout.specs.Limits.{longest_text}

-- ---- names, with their places

abbrev pub name_of_word : PlacedWord → NameAt
name_of_word word = record { at = word.at; name = word.bytes }

unfoldable pub name_at : PlacedLine → ℕ → Result NameAt ℕ
name_at line i = do
  word ← identifier_at line i
  Ok (name_of_word word)

-- ---- members

-- the greatest length of a text
abbrev pub max_at : PlacedLine → ℕ → Result ℕ ℕ
max_at line i = says_at (count_at 1 longest_text) line i

abbrev pub inverse_of_names : ℕ → List ℕ × List ℕ → InverseDeclaration
inverse_of_names at names = record { at = at; ty = names.0; member = names.1 }

-- `inverse TYPE.MEMBER` to the end of the line, from word 3 on
unfoldable pub named_inverse_at : PlacedLine → Result (Option InverseDeclaration) ℕ
named_inverse_at line = do
  keyword ← keyword_at (codes "inverse") line 3
  word ← word_at line 4
  names ← or_at word.at (dotted_at word.bytes)
  if_ended line 5 (Some (inverse_of_names word.at names))

-- the inverse, where one is named
abbrev pub if_named : Option PlacedWord → Result (Option InverseDeclaration) ℕ → Result (Option InverseDeclaration) ℕ
if_named None named = Ok None
if_named (Some word) named = named

abbrev pub inverse_at : PlacedLine → Result (Option InverseDeclaration) ℕ
inverse_at line = if_named (slice_get line.words 3) (named_inverse_at line)

unfoldable pub text_at : PlacedLine → Result KindDeclaration ℕ
text_at line = do
  max ← max_at line 2
  if_ended line 3 (kinds.Text max)

unfoldable pub ref_at : PlacedLine → Result KindDeclaration ℕ
ref_at line = do
  target ← name_at line 2
  inverse ← inverse_at line
  Ok (kinds.Ref target inverse)

unfoldable pub set_at : PlacedLine → Result KindDeclaration ℕ
set_at line = do
  target ← name_at line 2
  inverse ← inverse_at line
  Ok (kinds.Set target inverse)

unfoldable pub list_at : PlacedLine → Result KindDeclaration ℕ
list_at line = do
  target ← name_at line 2
  if_ended line 3 (kinds.List target)

unfoldable pub dict_int_at : PlacedLine → Result KindDeclaration ℕ
dict_int_at line = do
  target ← name_at line 3
  if_ended line 4 (kinds.DictInt target)

unfoldable pub dict_text_at : PlacedLine → Result KindDeclaration ℕ
dict_text_at line = do
  target ← name_at line 3
  if_ended line 4 (kinds.DictText target)

unfoldable pub dict_at : PlacedLine → Result KindDeclaration ℕ
dict_at line = do
  key ← word_at line 2
  if bytes_eq key.bytes (codes "int") then dict_int_at line
      else if bytes_eq key.bytes (codes "text") then dict_text_at line
      else Err key.at

-- what a member line says behind its name
unfoldable pub kind_at : PlacedLine → Result KindDeclaration ℕ
kind_at line = do
  kind ← word_at line 1
  if bytes_eq kind.bytes (codes "int") then if_ended line 2 kinds.Int
      else if bytes_eq kind.bytes (codes "text") then text_at line
      else if bytes_eq kind.bytes (codes "ref") then ref_at line
      else if bytes_eq kind.bytes (codes "set") then set_at line
      else if bytes_eq kind.bytes (codes "list") then list_at line
      else if bytes_eq kind.bytes (codes "dict") then dict_at line
      else Err kind.at

abbrev pub declared_member : NameAt → KindDeclaration → MemberDeclaration
declared_member name kind = record { name = name; kind = kind }

unfoldable pub member_at : PlacedLine → Result MemberDeclaration ℕ
member_at line = do
  name ← name_at line 0
  kind ← kind_at line
  Ok (declared_member name kind)

-- ---- types

-- the name of a line `type NAME`
unfoldable pub type_name_at : PlacedLine → Result NameAt ℕ
type_name_at line = do
  keyword ← keyword_at (codes "type") line 0
  name ← name_at line 1
  if_ended line 2 name

abbrev pub declared_type : NameAt → List MemberDeclaration → TypeDeclaration
declared_type name members = record { name = name; members = members }

abbrev pub is_word : List ℕ → Option PlacedWord → Bool
is_word bytes None = false
is_word bytes (Some word) = bytes_eq word.bytes bytes

abbrev pub is_type_line : PlacedLine → Bool
is_type_line line = is_word (codes "type") (slice_get line.words 0)

-- Lines behind a type's: members of that type, and then further types with theirs.
unfoldable pub declared_behind : List PlacedLine → Result (List MemberDeclaration × List TypeDeclaration) ℕ
declared_behind [] = Ok ([], [])
declared_behind (line ∷ lines) =
    if is_type_line line then (do
      name ← type_name_at line
      behind ← declared_behind lines
      Ok ([], declared_type name behind.0 ∷ behind.1))
    else (do
      member ← member_at line
      behind ← declared_behind lines
      Ok (member ∷ behind.0, behind.1))

-- the types that lines declare; the first line is a type's
unfoldable pub declared_by : List PlacedLine → Result (List TypeDeclaration) ℕ
declared_by [] = Ok []
declared_by (line ∷ lines) = do
  name ← type_name_at line
  behind ← declared_behind lines
  Ok (declared_type name behind.0 ∷ behind.1)
