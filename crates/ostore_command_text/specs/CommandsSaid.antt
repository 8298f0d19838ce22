-- What the line of a command says. Words are judged one after the other, and the fault is at the first that can't
-- stand, and at the end of the line where a word is missing.
use Rattle.std.specs.Prelude.{ℕ, Bool, false, if◌then◌else◌, ◌==◌, List, [], ◌∷◌, codes, Option, Some, None, Result, Ok, Err}
use Rattle.std.specs.Str.{bytes_eq}
use Rattle.ostore_text_words.specs.Words.{begins_quoted, int_at, quoted_at, name_at}
use Rattle.ostore_text_words.specs.Lines.{PlacedLine}
use Rattle.ostore_text_words.specs.LineWords.{◌>>=◌, word_at, says_at, identifier_at, if_ended}
use Rattle.ostore_graph_model.specs.declared.values.Name.{Name}
use Rattle.ostore_graph_model.specs.declared.commands.Command.{Command}
use Rattle.ostore_graph_model.specs.declared.commands.Command.TheVariants as commands
use Rattle.ostore_graph_model.specs.declared.commands.Operand.{Operand}
use Rattle.ostore_graph_model.specs.declared.commands.Operand.TheVariants as operands
use Rattle.ostore_graph_model.specs.declared.commands.Key.{Key}
use Rattle.ostore_graph_model.specs.declared.commands.Key.TheVariants as keys
use Rattle.ostore_command_text.specs.WordsSaid.{variable_of, place_of, segment_of, index_of, op_of, path_of}

-- ---- words

abbrev pub variable_at : PlacedLine → ℕ → Result (List ℕ) ℕ
variable_at line i = says_at variable_of line i

abbrev pub place_at : PlacedLine → ℕ → Result (List ℕ × List ℕ) ℕ
place_at line i = says_at place_of line i

abbrev pub name_of_parts : ℕ × ℕ → Name
name_of_parts parts = record { segment = parts.0; serial = parts.1 }

-- the byte that the word begins with is `$`
abbrev pub begins_variable : List ℕ → Bool
begins_variable [] = false
begins_variable (byte ∷ others) = byte == 36

unfoldable pub int_operand_at : PlacedLine → ℕ → Result Operand ℕ
int_operand_at line i = do
  value ← says_at int_at line i
  Ok (operands.Int value)

unfoldable pub text_operand_at : PlacedLine → ℕ → Result Operand ℕ
text_operand_at line i = do
  text ← says_at quoted_at line i
  Ok (operands.Text text)

unfoldable pub var_operand_at : PlacedLine → ℕ → Result Operand ℕ
var_operand_at line i = do
  name ← variable_at line i
  Ok (operands.Var name)

-- a quoted text, a variable, `null`, or an int
unfoldable pub operand_at : PlacedLine → ℕ → Result Operand ℕ
operand_at line i = do
  word ← word_at line i
  if begins_quoted word.bytes then text_operand_at line i
      else if begins_variable word.bytes then var_operand_at line i
      else if bytes_eq word.bytes (codes "null") then Ok operands.Null
      else int_operand_at line i

unfoldable pub int_key_at : PlacedLine → ℕ → Result Key ℕ
int_key_at line i = do
  value ← says_at int_at line i
  Ok (keys.Int value)

unfoldable pub text_key_at : PlacedLine → ℕ → Result Key ℕ
text_key_at line i = do
  text ← says_at quoted_at line i
  Ok (keys.Text text)

-- a quoted text or an int
unfoldable pub key_at : PlacedLine → ℕ → Result Key ℕ
key_at line i = do
  word ← word_at line i
  if begins_quoted word.bytes then text_key_at line i else int_key_at line i

unfoldable pub var_item_at : PlacedLine → ℕ → Result (Option (List ℕ)) ℕ
var_item_at line i = do
  name ← variable_at line i
  Ok (Some name)

-- what a root is set to: `null` or a variable
unfoldable pub item_at : PlacedLine → ℕ → Result (Option (List ℕ)) ℕ
item_at line i = do
  word ← word_at line i
  if bytes_eq word.bytes (codes "null") then Ok None else var_item_at line i

-- ---- commands

unfoldable pub new_at : PlacedLine → Result Command ℕ
new_at line = do
  to ← variable_at line 1
  ty ← identifier_at line 2
  segment ← says_at segment_of line 3
  if_ended line 4 (commands.New to ty.bytes segment)

unfoldable pub find_at : PlacedLine → Result Command ℕ
find_at line = do
  to ← variable_at line 1
  parts ← says_at name_at line 2
  if_ended line 3 (commands.Find to (name_of_parts parts))

unfoldable pub root_at : PlacedLine → Result Command ℕ
root_at line = do
  to ← variable_at line 1
  root ← identifier_at line 2
  if_ended line 3 (commands.Root to root.bytes)

unfoldable pub set_root_at : PlacedLine → Result Command ℕ
set_root_at line = do
  root ← identifier_at line 1
  item ← item_at line 2
  if_ended line 3 (commands.SetRoot root.bytes item)

unfoldable pub get_at : PlacedLine → Result Command ℕ
get_at line = do
  place ← place_at line 1
  if_ended line 2 (commands.Get place.0 place.1)

unfoldable pub set_at : PlacedLine → Result Command ℕ
set_at line = do
  place ← place_at line 1
  value ← operand_at line 2
  if_ended line 3 (commands.Set place.0 place.1 value)

unfoldable pub follow_at : PlacedLine → Result Command ℕ
follow_at line = do
  to ← variable_at line 1
  place ← place_at line 2
  if_ended line 3 (commands.Follow to place.0 place.1)

unfoldable pub delete_at : PlacedLine → Result Command ℕ
delete_at line = do
  object ← variable_at line 1
  if_ended line 2 (commands.Delete object)

unfoldable pub insert_at : PlacedLine → Result Command ℕ
insert_at line = do
  place ← place_at line 1
  item ← variable_at line 2
  if_ended line 3 (commands.Insert place.0 place.1 item)

unfoldable pub remove_at : PlacedLine → Result Command ℕ
remove_at line = do
  place ← place_at line 1
  item ← variable_at line 2
  if_ended line 3 (commands.Remove place.0 place.1 item)

unfoldable pub members_at : PlacedLine → Result Command ℕ
members_at line = do
  place ← place_at line 1
  if_ended line 2 (commands.Members place.0 place.1)

unfoldable pub size_at : PlacedLine → Result Command ℕ
size_at line = do
  place ← place_at line 1
  if_ended line 2 (commands.Size place.0 place.1)

unfoldable pub append_at : PlacedLine → Result Command ℕ
append_at line = do
  place ← place_at line 1
  item ← variable_at line 2
  if_ended line 3 (commands.Append place.0 place.1 item)

unfoldable pub put_at : PlacedLine → Result Command ℕ
put_at line = do
  place ← place_at line 1
  index ← says_at index_of line 2
  item ← variable_at line 3
  if_ended line 4 (commands.Put place.0 place.1 index item)

unfoldable pub at_at : PlacedLine → Result Command ℕ
at_at line = do
  to ← variable_at line 1
  place ← place_at line 2
  index ← says_at index_of line 3
  if_ended line 4 (commands.At to place.0 place.1 index)

unfoldable pub bind_at : PlacedLine → Result Command ℕ
bind_at line = do
  place ← place_at line 1
  key ← key_at line 2
  item ← variable_at line 3
  if_ended line 4 (commands.Bind place.0 place.1 key item)

unfoldable pub look_at : PlacedLine → Result Command ℕ
look_at line = do
  to ← variable_at line 1
  place ← place_at line 2
  key ← key_at line 3
  if_ended line 4 (commands.Look to place.0 place.1 key)

unfoldable pub unbind_at : PlacedLine → Result Command ℕ
unbind_at line = do
  place ← place_at line 1
  key ← key_at line 2
  if_ended line 3 (commands.Unbind place.0 place.1 key)

unfoldable pub index_at : PlacedLine → Result Command ℕ
index_at line = do
  place ← place_at line 1
  path ← says_at path_of line 2
  if_ended line 3 (commands.Index place.0 place.1 path)

unfoldable pub unindex_at : PlacedLine → Result Command ℕ
unindex_at line = do
  place ← place_at line 1
  path ← says_at path_of line 2
  if_ended line 3 (commands.Unindex place.0 place.1 path)

unfoldable pub query_at : PlacedLine → Result Command ℕ
query_at line = do
  place ← place_at line 1
  path ← says_at path_of line 2
  op ← says_at op_of line 3
  key ← key_at line 4
  if_ended line 5 (commands.Query place.0 place.1 path op key)

-- the command by its verb: those of collections, then of members, then of objects and roots
unfoldable pub collection_command_at : PlacedLine → ℕ → List ℕ → Result Command ℕ
collection_command_at line at verb =
    if bytes_eq verb (codes "at") then at_at line
    else if bytes_eq verb (codes "bind") then bind_at line
    else if bytes_eq verb (codes "look") then look_at line
    else if bytes_eq verb (codes "unbind") then unbind_at line
    else if bytes_eq verb (codes "index") then index_at line
    else if bytes_eq verb (codes "unindex") then unindex_at line
    else if bytes_eq verb (codes "query") then query_at line
    else Err at

unfoldable pub member_command_at : PlacedLine → ℕ → List ℕ → Result Command ℕ
member_command_at line at verb =
    if bytes_eq verb (codes "follow") then follow_at line
    else if bytes_eq verb (codes "insert") then insert_at line
    else if bytes_eq verb (codes "remove") then remove_at line
    else if bytes_eq verb (codes "members") then members_at line
    else if bytes_eq verb (codes "size") then size_at line
    else if bytes_eq verb (codes "append") then append_at line
    else if bytes_eq verb (codes "put") then put_at line
    else collection_command_at line at verb

unfoldable pub command_by : PlacedLine → ℕ → List ℕ → Result Command ℕ
command_by line at verb =
    if bytes_eq verb (codes "get") then get_at line
    else if bytes_eq verb (codes "set") then set_at line
    else if bytes_eq verb (codes "new") then new_at line
    else if bytes_eq verb (codes "find") then find_at line
    else if bytes_eq verb (codes "root") then root_at line
    else if bytes_eq verb (codes "setroot") then set_root_at line
    else if bytes_eq verb (codes "delete") then delete_at line
    else member_command_at line at verb
