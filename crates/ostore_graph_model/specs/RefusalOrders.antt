-- Commands for which more than one refusal could come, and references that part others.
use Rattle.std.specs.Prelude.{ℕ, true, List, [], ◌∷◌, Some, codes, pos}
use Rattle.ostore_schema_layout.specs.declared.schema.Schema.{Schema}
use Rattle.ostore_schema_layout.specs.declared.schema.MemberKind.TheVariants as kinds
use Rattle.ostore_graph_model.specs.declared.values.Value.TheVariants as values
use Rattle.ostore_graph_model.specs.declared.values.Reply.TheVariants.{Done, Named, Value, Count, Refused}
use Rattle.ostore_graph_model.specs.declared.refusal.Refusal.TheVariants as refusals
use Rattle.ostore_graph_model.specs.declared.commands.Command.TheVariants as line
use Rattle.ostore_graph_model.specs.declared.commands.Operand.TheVariants as operands
use Rattle.ostore_graph_model.specs.declared.commands.Key.TheVariants as keys
use Rattle.ostore_graph_model.specs.Examples.{type_number, plain, boxes, n, AnswersFirst}

-- crates with a list and a dictionary of crates, and a mark of three bytes; and lids
abbrev pub crates : Schema
crates = record {
  types =
      record { name = codes "Crate"; members = plain (codes "all") (kinds.List (type_number 1)) ∷ plain (codes "by") (kinds.DictText (type_number 1)) ∷ plain (codes "mark") (kinds.Text 3) ∷ [] }
      ∷ record { name = codes "Lid"; members = [] }
      ∷ [];
}

-- a key of 41 bytes
abbrev pub long_key : List ℕ
long_key = codes "abcdefghijabcdefghijabcdefghijabcdefghija"

-- Of a list: an object of another type before an index out of range, and that before a deleted item. Of a dictionary: a
-- key of the other kind, then one that is too long, then an object of another type; and a key that isn't bound before a
-- deleted item. A deleted item counts, and a deleted object is refused as a root before anything is bound.
abbrev pub CollectionRefusals : Type 0
CollectionRefusals =
    AnswersFirst crates true
    (
    line.New (codes "c") (codes "Crate") 1
    ∷ line.New (codes "l") (codes "Lid") 1
    ∷ line.Put (codes "c") (codes "all") 5 (codes "l")
    ∷ line.Put (codes "c") (codes "all") 0 (codes "c")
    ∷ line.Bind (codes "c") (codes "by") (keys.Int (pos 7)) (codes "l")
    ∷ line.Bind (codes "c") (codes "by") (keys.Text long_key) (codes "l")
    ∷ line.Bind (codes "c") (codes "by") (keys.Text (codes "k")) (codes "l")
    ∷ line.Set (codes "c") (codes "mark") (operands.Text (codes "abcd"))
    ∷ line.Set (codes "c") (codes "mark") (operands.Int (pos 4))
    ∷ line.New (codes "d") (codes "Crate") 1
    ∷ line.Append (codes "c") (codes "all") (codes "d")
    ∷ line.Bind (codes "c") (codes "by") (keys.Text (codes "d")) (codes "d")
    ∷ line.Delete (codes "d")
    ∷ line.At (codes "x") (codes "c") (codes "all") 1
    ∷ line.At (codes "x") (codes "c") (codes "all") 0
    ∷ line.Look (codes "x") (codes "c") (codes "by") (keys.Int (pos 7))
    ∷ line.Look (codes "x") (codes "c") (codes "by") (keys.Text (codes "e"))
    ∷ line.Look (codes "x") (codes "c") (codes "by") (keys.Text (codes "d"))
    ∷ line.Unbind (codes "c") (codes "by") (keys.Text long_key)
    ∷ line.Size (codes "c") (codes "all")
    ∷ line.SetRoot (codes "top") (Some (codes "d"))
    ∷ line.SetRoot (codes "top") (Some (codes "c"))
    ∷ line.Delete (codes "c")
    ∷ line.Root (codes "x") (codes "top")
    ∷ line.Root (codes "x") (codes "none")
    ∷ [])
    (
    Named (n 1 1)
    ∷ Named (n 1 2)
    ∷ Refused refusals.WrongType
    ∷ Refused refusals.OutOfRange
    ∷ Refused refusals.WrongKind
    ∷ Refused refusals.TextTooLong
    ∷ Refused refusals.WrongType
    ∷ Refused refusals.TextTooLong
    ∷ Refused refusals.WrongKind
    ∷ Named (n 1 3)
    ∷ Done
    ∷ Done
    ∷ Done
    ∷ Refused refusals.OutOfRange
    ∷ Refused refusals.Dangling
    ∷ Refused refusals.WrongKind
    ∷ Refused refusals.NoKey
    ∷ Refused refusals.Dangling
    ∷ Refused refusals.TextTooLong
    ∷ Count 1
    ∷ Refused refusals.Dangling
    ∷ Done
    ∷ Done
    ∷ Refused refusals.Dangling
    ∷ Refused refusals.NoRoot
    ∷ [])

-- a reference that is set where both objects have partners parts them from both
abbrev pub PartnersOfBoth : Type 0
PartnersOfBoth =
    AnswersFirst boxes true
    (
    line.New (codes "a") (codes "Part") 1
    ∷ line.New (codes "b") (codes "Part") 1
    ∷ line.New (codes "c") (codes "Part") 1
    ∷ line.New (codes "d") (codes "Part") 1
    ∷ line.Set (codes "a") (codes "left") (operands.Var (codes "b"))
    ∷ line.Set (codes "c") (codes "left") (operands.Var (codes "d"))
    ∷ line.Set (codes "a") (codes "left") (operands.Var (codes "d"))
    ∷ line.Get (codes "b") (codes "right")
    ∷ line.Get (codes "c") (codes "left")
    ∷ line.Get (codes "d") (codes "right")
    ∷ line.Set (codes "b") (codes "right") (operands.Var (codes "c"))
    ∷ line.Get (codes "c") (codes "left")
    ∷ [])
    (
    Named (n 1 1)
    ∷ Named (n 1 2)
    ∷ Named (n 1 3)
    ∷ Named (n 1 4)
    ∷ Done
    ∷ Done
    ∷ Done
    ∷ Value values.Null
    ∷ Value values.Null
    ∷ Value (values.Object (n 1 1))
    ∷ Done
    ∷ Value (values.Object (n 1 2))
    ∷ [])
