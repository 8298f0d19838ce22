-- How commands are spelled: the words of each one's line, apart from any reader. A variable has `$` before
-- its name. The members of a path stand one behind the other, with `.` between them.
use Rattle.std.specs.Prelude.{ℕ, List, [], ◌∷◌, ◌++◌, codes, decimal, Option, Some, None}
use Rattle.std.specs.Fmt.{signed_decimal}
use Rattle.std.specs.List.{join_by}
use Rattle.ostore_text_words.specs.Words.{quoted}
use Rattle.ostore_graph_model.specs.declared.values.Name.{Name}
use Rattle.ostore_graph_model.specs.declared.commands.Command.{Command}
use Rattle.ostore_graph_model.specs.declared.commands.Command.TheVariants as commands
use Rattle.ostore_graph_model.specs.declared.commands.Operand.{Operand}
use Rattle.ostore_graph_model.specs.declared.commands.Operand.TheVariants as operands
use Rattle.ostore_graph_model.specs.declared.commands.Key.{Key}
use Rattle.ostore_graph_model.specs.declared.commands.Key.TheVariants as keys
use Rattle.ostore_graph_model.specs.declared.commands.Op.{Op}
use Rattle.ostore_graph_model.specs.declared.commands.Op.TheVariants as ops

-- `$name`
abbrev pub variable : List ℕ → List ℕ
variable name = 36 ∷ name

-- `$object.member`
abbrev pub place : List ℕ → List ℕ → List ℕ
place object member = variable object ++ 46 ∷ member

-- `SEGMENT.SERIAL`
abbrev pub name_word : Name → List ℕ
name_word name = decimal name.segment ++ 46 ∷ decimal name.serial

-- one member, or `first.second`, or `first.second.third`
abbrev pub path_word : List (List ℕ) → List ℕ
path_word path = join_by (λ member. member) (codes ".") path

abbrev pub operand_word : Operand → List ℕ
operand_word (operands.Int value) = signed_decimal value
operand_word (operands.Text text) = quoted text
operand_word (operands.Var name) = variable name
operand_word operands.Null = codes "null"

abbrev pub key_word : Key → List ℕ
key_word (keys.Int value) = signed_decimal value
key_word (keys.Text text) = quoted text

abbrev pub op_word : Op → List ℕ
op_word ops.Equal = codes "="
op_word ops.Less = codes "<"
op_word ops.LessEqual = codes "<="
op_word ops.Greater = codes ">"
op_word ops.GreaterEqual = codes ">="

-- what a root is set to
abbrev pub item_word : Option (List ℕ) → List ℕ
item_word None = codes "null"
item_word (Some name) = variable name

abbrev pub command_words : Command → List (List ℕ)
command_words (commands.New to ty segment) = codes "new" ∷ variable to ∷ ty ∷ decimal segment ∷ []
command_words (commands.Find to name) = codes "find" ∷ variable to ∷ name_word name ∷ []
command_words (commands.Root to root) = codes "root" ∷ variable to ∷ root ∷ []
command_words (commands.SetRoot root item) = codes "setroot" ∷ root ∷ item_word item ∷ []
command_words (commands.Get object member) = codes "get" ∷ place object member ∷ []
command_words (commands.Set object member value) = codes "set" ∷ place object member ∷ operand_word value ∷ []
command_words (commands.Follow to object member) = codes "follow" ∷ variable to ∷ place object member ∷ []
command_words (commands.Delete object) = codes "delete" ∷ variable object ∷ []
command_words (commands.Insert object member item) = codes "insert" ∷ place object member ∷ variable item ∷ []
command_words (commands.Remove object member item) = codes "remove" ∷ place object member ∷ variable item ∷ []
command_words (commands.Members object member) = codes "members" ∷ place object member ∷ []
command_words (commands.Size object member) = codes "size" ∷ place object member ∷ []
command_words (commands.Append object member item) = codes "append" ∷ place object member ∷ variable item ∷ []
command_words (commands.Put object member index item) = codes "put" ∷ place object member ∷ decimal index ∷ variable item ∷ []
command_words (commands.At to object member index) = codes "at" ∷ variable to ∷ place object member ∷ decimal index ∷ []
command_words (commands.Bind object member key item) = codes "bind" ∷ place object member ∷ key_word key ∷ variable item ∷ []
command_words (commands.Look to object member key) = codes "look" ∷ variable to ∷ place object member ∷ key_word key ∷ []
command_words (commands.Unbind object member key) = codes "unbind" ∷ place object member ∷ key_word key ∷ []
command_words (commands.Index object member path) = codes "index" ∷ place object member ∷ path_word path ∷ []
command_words (commands.Unindex object member path) = codes "unindex" ∷ place object member ∷ path_word path ∷ []
command_words (commands.Query object member path op key) = codes "query" ∷ place object member ∷ path_word path ∷ op_word op ∷ key_word key ∷ []
