-- Which commands are lawful: those that a line can spell. Each name is an identifier, and each number within its limits.
use Rattle.std.specs.Prelude.{ℕ, ◌≤◌, IsTrue, nat_le, List, length, FitsSigned, Option, Some, None}
use Rattle.std.specs.Int.{w64}
use Rattle.std.specs.List.{list_all, AllByRecursion}
use Rattle.std.specs.Str.{IsUtf8}
use Rattle.ostore_base.specs.Limits.{most_segments}
use Rattle.ostore_text_words.specs.Words.{is_identifier, greatest_serial}
use Rattle.ostore_graph_model.specs.declared.values.Name.{Name}
use Rattle.ostore_graph_model.specs.declared.commands.Command.{Command}
use Rattle.ostore_graph_model.specs.declared.commands.Command.TheVariants as commands
use Rattle.ostore_graph_model.specs.declared.commands.Operand.{Operand}
use Rattle.ostore_graph_model.specs.declared.commands.Operand.TheVariants as operands
use Rattle.ostore_graph_model.specs.declared.commands.Key.{Key}
use Rattle.ostore_graph_model.specs.declared.commands.Key.TheVariants as keys
use Rattle.ostore_command_text.specs.Limits.{greatest_index}

abbrev pub IsIdent : List ℕ → Type 0
IsIdent word = IsTrue (is_identifier word)

-- the name of an object
abbrev pub IsLawfulName : Name → Type 0
IsLawfulName name = (1 ≤ name.segment) × (name.segment ≤ most_segments) × (1 ≤ name.serial) × (name.serial ≤ greatest_serial)

-- a text without control bytes stands between quotes
abbrev pub IsLawfulText : List ℕ → Type 0
IsLawfulText text = IsTrue (list_all (nat_le 32) text)

abbrev pub IsLawfulOperand : Operand → Type 0
IsLawfulOperand (operands.Int value) = FitsSigned w64 value
IsLawfulOperand (operands.Text text) = IsLawfulText text
IsLawfulOperand (operands.Var name) = IsIdent name
IsLawfulOperand operands.Null = Unit {0}

abbrev pub IsLawfulKey : Key → Type 0
IsLawfulKey (keys.Int value) = FitsSigned w64 value
IsLawfulKey (keys.Text text) = IsLawfulText text

abbrev pub IsLawfulItem : Option (List ℕ) → Type 0
IsLawfulItem None = Unit {0}
IsLawfulItem (Some name) = IsIdent name

-- one to three members
abbrev pub IsLawfulPath : List (List ℕ) → Type 0
IsLawfulPath path = (1 ≤ length path) × (length path ≤ 3) × AllByRecursion IsIdent path

abbrev pub IsLawfulPlace : List ℕ → List ℕ → Type 0
IsLawfulPlace object member = IsIdent object × IsIdent member

abbrev pub IsLawfulCommand : Command → Type 0
IsLawfulCommand (commands.New to ty segment) = IsIdent to × IsIdent ty × (1 ≤ segment) × (segment ≤ most_segments)
IsLawfulCommand (commands.Find to name) = IsIdent to × IsLawfulName name
IsLawfulCommand (commands.Root to root) = IsIdent to × IsIdent root
IsLawfulCommand (commands.SetRoot root item) = IsIdent root × IsLawfulItem item
IsLawfulCommand (commands.Get object member) = IsLawfulPlace object member
IsLawfulCommand (commands.Set object member value) = IsLawfulPlace object member × IsLawfulOperand value
IsLawfulCommand (commands.Follow to object member) = IsIdent to × IsLawfulPlace object member
IsLawfulCommand (commands.Delete object) = IsIdent object
IsLawfulCommand (commands.Insert object member item) = IsLawfulPlace object member × IsIdent item
IsLawfulCommand (commands.Remove object member item) = IsLawfulPlace object member × IsIdent item
IsLawfulCommand (commands.Members object member) = IsLawfulPlace object member
IsLawfulCommand (commands.Size object member) = IsLawfulPlace object member
IsLawfulCommand (commands.Append object member item) = IsLawfulPlace object member × IsIdent item
IsLawfulCommand (commands.Put object member index item) = IsLawfulPlace object member × (index ≤ greatest_index) × IsIdent item
IsLawfulCommand (commands.At to object member index) = IsIdent to × IsLawfulPlace object member × (index ≤ greatest_index)
IsLawfulCommand (commands.Bind object member key item) = IsLawfulPlace object member × IsLawfulKey key × IsIdent item
IsLawfulCommand (commands.Look to object member key) = IsIdent to × IsLawfulPlace object member × IsLawfulKey key
IsLawfulCommand (commands.Unbind object member key) = IsLawfulPlace object member × IsLawfulKey key
IsLawfulCommand (commands.Index object member path) = IsLawfulPlace object member × IsLawfulPath path
IsLawfulCommand (commands.Unindex object member path) = IsLawfulPlace object member × IsLawfulPath path
IsLawfulCommand (commands.Query object member path op key) = IsLawfulPlace object member × IsLawfulPath path × IsLawfulKey key

-- ---- quoted texts: UTF-8, as the text is in which they stand

abbrev pub IsUtf8Operand : Operand → Type 0
IsUtf8Operand (operands.Int value) = Unit {0}
IsUtf8Operand (operands.Text text) = IsUtf8 text
IsUtf8Operand (operands.Var name) = Unit {0}
IsUtf8Operand operands.Null = Unit {0}

abbrev pub IsUtf8Key : Key → Type 0
IsUtf8Key (keys.Int value) = Unit {0}
IsUtf8Key (keys.Text text) = IsUtf8 text

abbrev pub IsUtf8Command : Command → Type 0
IsUtf8Command (commands.Set object member value) = IsUtf8Operand value
IsUtf8Command (commands.Bind object member key item) = IsUtf8Key key
IsUtf8Command (commands.Look to object member key) = IsUtf8Key key
IsUtf8Command (commands.Unbind object member key) = IsUtf8Key key
IsUtf8Command (commands.Query object member path op key) = IsUtf8Key key
IsUtf8Command other = Unit {0}
