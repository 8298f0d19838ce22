-- Commands on an empty graph, with their replies.
use Rattle.std.specs.Prelude.{ℕ, Bool, true, false, List, [], ◌∷◌, Some, None, codes, pos}
use Rattle.std.specs.FinMap as maps
use Rattle.ostore_schema_layout.specs.declared.schema.Schema.{Schema}
use Rattle.ostore_schema_layout.specs.declared.schema.TypeNo.{TypeNo}
use Rattle.ostore_schema_layout.specs.declared.schema.MemberDef.{MemberDef}
use Rattle.ostore_schema_layout.specs.declared.schema.MemberKind.{MemberKind}
use Rattle.ostore_schema_layout.specs.declared.schema.MemberKind.TheVariants as kinds
use Rattle.ostore_graph_model.specs.declared.values.Name.{Name}
use Rattle.ostore_graph_model.specs.declared.values.Value.TheVariants as values
use Rattle.ostore_graph_model.specs.declared.values.Reply.{Reply}
use Rattle.ostore_graph_model.specs.declared.values.Reply.TheVariants.{Done, Named, Value, Count, Names, Refused}
use Rattle.ostore_graph_model.specs.declared.refusal.Refusal.TheVariants as refusals
use Rattle.ostore_graph_model.specs.declared.commands.Command.{Command}
use Rattle.ostore_graph_model.specs.declared.commands.Command.TheVariants as line
use Rattle.ostore_graph_model.specs.declared.commands.Operand.TheVariants as operands
use Rattle.ostore_graph_model.specs.declared.commands.Key.TheVariants as keys
use Rattle.ostore_graph_model.specs.declared.commands.Op.TheVariants as ops
use Rattle.ostore_graph_model.specs.Graph.{Graph, empty_graph}
use Rattle.ostore_graph_model.specs.Transaction.{Answers}

-- a type by its number
abbrev pub type_number : ℕ → TypeNo
type_number number = record { 0 = number }

-- a member without an inverse, and one with the inverse that is named by the numbers of its type and member
abbrev pub plain : List ℕ → MemberKind → MemberDef
plain name kind = record { name = name; kind = kind; inverse = None }

abbrev pub two_sided : List ℕ → MemberKind → ℕ → ℕ → MemberDef
two_sided name kind ty member = record { name = name; kind = kind; inverse = Some (record { ty = type_number ty; member = record { 0 = member } }) }

-- parts in a chain
abbrev pub chained : Schema
chained = record { types = record { name = codes "Part"; members = plain (codes "id") kinds.Int ∷ plain (codes "next") (kinds.Ref (type_number 1)) ∷ [] } ∷ [] }

-- boxes with parts, which lie in a box and beside each other
abbrev pub boxes : Schema
boxes = record {
  types =
      record { name = codes "Box"; members = two_sided (codes "parts") (kinds.Set (type_number 2)) 2 1 ∷ [] }
      ∷ record {
        name = codes "Part";
        members =
            plain (codes "id") kinds.Int
            ∷ two_sided (codes "box") (kinds.Ref (type_number 1)) 1 0
            ∷ plain (codes "next") (kinds.Ref (type_number 2))
            ∷ two_sided (codes "left") (kinds.Ref (type_number 2)) 2 4
            ∷ two_sided (codes "right") (kinds.Ref (type_number 2)) 2 3
            ∷ [];
      }
      ∷ [];
}

-- a store of parts that lie in boxes, on shelves with a code
abbrev pub stores : Schema
stores = record {
  types =
      record { name = codes "Store"; members = two_sided (codes "items") (kinds.Set (type_number 2)) 2 0 ∷ [] }
      ∷ record { name = codes "Part"; members = two_sided (codes "store") (kinds.Ref (type_number 1)) 1 0 ∷ two_sided (codes "box") (kinds.Ref (type_number 3)) 3 0 ∷ [] }
      ∷ record { name = codes "Box"; members = two_sided (codes "parts") (kinds.Set (type_number 2)) 2 1 ∷ two_sided (codes "shelf") (kinds.Ref (type_number 4)) 4 0 ∷ [] }
      ∷ record { name = codes "Shelf"; members = two_sided (codes "boxes") (kinds.Set (type_number 3)) 3 1 ∷ plain (codes "code") (kinds.Text 8) ∷ [] }
      ∷ [];
}

-- bags with a list and a dictionary of bags
abbrev pub bags : Schema
bags = record { types = record { name = codes "Bag"; members = plain (codes "all") (kinds.List (type_number 1)) ∷ plain (codes "by") (kinds.DictText (type_number 1)) ∷ [] } ∷ [] }

abbrev pub by_code : List (List ℕ)
by_code = codes "box" ∷ codes "shelf" ∷ codes "code" ∷ []

abbrev pub n : ℕ → ℕ → Name
n segment serial = record { segment = segment; serial = serial }

-- commands on an empty graph are answered so
abbrev pub AnswersFirst : Schema → Bool → List Command → List Reply → Type 0
AnswersFirst schema update commands replies = Answers schema update maps.empty empty_graph commands replies

-- a reference that is set parts both objects from whom they were joined with
abbrev pub DisplacedPartners : Type 0
DisplacedPartners =
    AnswersFirst boxes true
    (
    line.New (codes "a") (codes "Part") 1
    ∷ line.New (codes "b") (codes "Part") 1
    ∷ line.New (codes "c") (codes "Part") 1
    ∷ line.Set (codes "a") (codes "left") (operands.Var (codes "b"))
    ∷ line.Get (codes "b") (codes "right")
    ∷ line.Set (codes "c") (codes "left") (operands.Var (codes "b"))
    ∷ line.Get (codes "a") (codes "left")
    ∷ line.Get (codes "b") (codes "right")
    ∷ line.Set (codes "c") (codes "left") (operands.Var (codes "b"))
    ∷ line.Get (codes "b") (codes "right")
    ∷ [])
    (
    Named (n 1 1)
    ∷ Named (n 1 2)
    ∷ Named (n 1 3)
    ∷ Done
    ∷ Value (values.Object (n 1 1))
    ∷ Done
    ∷ Value values.Null
    ∷ Value (values.Object (n 1 3))
    ∷ Done
    ∷ Value (values.Object (n 1 3))
    ∷ [])

-- a deleted object is in no set with an inverse, and a one-sided reference to it shows that it was deleted
abbrev pub DeletedItem : Type 0
DeletedItem =
    AnswersFirst boxes true
    (
    line.New (codes "b") (codes "Box") 1
    ∷ line.New (codes "p") (codes "Part") 1
    ∷ line.New (codes "q") (codes "Part") 1
    ∷ line.Insert (codes "b") (codes "parts") (codes "q")
    ∷ line.Set (codes "p") (codes "next") (operands.Var (codes "q"))
    ∷ line.Delete (codes "q")
    ∷ line.Members (codes "b") (codes "parts")
    ∷ line.Get (codes "p") (codes "next")
    ∷ line.Follow (codes "x") (codes "p") (codes "next")
    ∷ [])
    (
    Named (n 1 1)
    ∷ Named (n 1 2)
    ∷ Named (n 1 3)
    ∷ Done
    ∷ Done
    ∷ Done
    ∷ Names []
    ∷ Value (values.Dead (n 1 3))
    ∷ Refused refusals.Dangling
    ∷ [])

-- an item is in a set once, and is taken out once
abbrev pub SetItems : Type 0
SetItems =
    AnswersFirst boxes true
    (
    line.New (codes "b") (codes "Box") 1
    ∷ line.New (codes "p") (codes "Part") 1
    ∷ line.Insert (codes "b") (codes "parts") (codes "p")
    ∷ line.Size (codes "b") (codes "parts")
    ∷ line.Insert (codes "b") (codes "parts") (codes "p")
    ∷ line.Remove (codes "b") (codes "parts") (codes "p")
    ∷ line.Remove (codes "b") (codes "parts") (codes "p")
    ∷ line.Members (codes "b") (codes "parts")
    ∷ line.Size (codes "b") (codes "parts")
    ∷ [])
    (
    Named (n 1 1)
    ∷ Named (n 1 2)
    ∷ Done
    ∷ Count 1
    ∷ Refused refusals.AlreadyMember
    ∷ Done
    ∷ Refused refusals.NotMember
    ∷ Names []
    ∷ Count 0
    ∷ [])

-- commands after which a part's reference leads to a deleted one, and their replies
abbrev pub dangling_commands : List Command
dangling_commands =
    line.New (codes "p") (codes "Part") 1
    ∷ line.New (codes "q") (codes "Part") 1
    ∷ line.Set (codes "p") (codes "next") (operands.Var (codes "q"))
    ∷ line.Delete (codes "q")
    ∷ line.Get (codes "p") (codes "next")
    ∷ line.Follow (codes "x") (codes "p") (codes "next")
    ∷ line.SetRoot (codes "top") (Some (codes "p"))
    ∷ line.Find (codes "x") (n 1 2)
    ∷ line.Find (codes "y") (n 1 1)
    ∷ line.Root (codes "z") (codes "top")
    ∷ []

abbrev pub dangling_replies : List Reply
dangling_replies =
    Named (n 1 1)
    ∷ Named (n 1 2)
    ∷ Done
    ∷ Done
    ∷ Value (values.Dead (n 1 2))
    ∷ Refused refusals.Dangling
    ∷ Done
    ∷ Refused refusals.NoObject
    ∷ Named (n 1 1)
    ∷ Named (n 1 1)
    ∷ []

-- a one-sided reference to a deleted object stays, and is not followed
abbrev pub DanglingReference : Type 0
DanglingReference = AnswersFirst chained true dangling_commands dangling_replies

-- an index beyond a list and a key that is not bound are refused
abbrev pub ListsAndDictionaries : Type 0
ListsAndDictionaries =
    AnswersFirst bags true
    (
    line.New (codes "b") (codes "Bag") 1
    ∷ line.Append (codes "b") (codes "all") (codes "b")
    ∷ line.At (codes "x") (codes "b") (codes "all") 0
    ∷ line.At (codes "x") (codes "b") (codes "all") 1
    ∷ line.Bind (codes "b") (codes "by") (keys.Text (codes "k")) (codes "b")
    ∷ line.Look (codes "x") (codes "b") (codes "by") (keys.Text (codes "k"))
    ∷ line.Unbind (codes "b") (codes "by") (keys.Text (codes "k"))
    ∷ line.Look (codes "x") (codes "b") (codes "by") (keys.Text (codes "k"))
    ∷ line.Size (codes "b") (codes "all")
    ∷ [])
    (
    Named (n 1 1)
    ∷ Done
    ∷ Named (n 1 1)
    ∷ Refused refusals.OutOfRange
    ∷ Done
    ∷ Named (n 1 1)
    ∷ Done
    ∷ Refused refusals.NoKey
    ∷ Count 1
    ∷ [])

-- in a read a command that writes is refused before anything else, and binds no variable, whatever the graph has
abbrev pub ReadingOnly : Type 0
ReadingOnly =
    (graph : Graph)
    → Answers chained false maps.empty graph
    (
    line.New (codes "p") (codes "Part") 1
    ∷ line.Get (codes "p") (codes "id")
    ∷ line.Set (codes "p") (codes "id") (operands.Var (codes "q"))
    ∷ [])
    (
    Refused refusals.ReadOnly
    ∷ Refused refusals.NoVariable
    ∷ Refused refusals.ReadOnly
    ∷ [])

-- of the tests of a line the first that fails is its refusal
abbrev pub OrderOfRefusals : Type 0
OrderOfRefusals =
    AnswersFirst boxes true
    (
    line.New (codes "a") (codes "Part") 1
    ∷ line.New (codes "b") (codes "Box") 1
    ∷ line.Set (codes "a") (codes "nope") (operands.Var (codes "c"))
    ∷ line.Set (codes "a") (codes "id") (operands.Var (codes "b"))
    ∷ line.Set (codes "a") (codes "box") (operands.Var (codes "a"))
    ∷ line.Get (codes "a") (codes "nope")
    ∷ line.Follow (codes "x") (codes "a") (codes "next")
    ∷ line.New (codes "b") (codes "Nope") 1
    ∷ line.Root (codes "x") (codes "top")
    ∷ line.SetRoot (codes "top") None
    ∷ line.Delete (codes "b")
    ∷ line.Insert (codes "b") (codes "nope") (codes "c")
    ∷ line.Insert (codes "b") (codes "nope") (codes "a")
    ∷ line.Set (codes "a") (codes "id") (operands.Var (codes "b"))
    ∷ [])
    (
    Named (n 1 1)
    ∷ Named (n 1 2)
    ∷ Refused refusals.NoVariable
    ∷ Refused refusals.WrongKind
    ∷ Refused refusals.WrongType
    ∷ Refused refusals.NoMember
    ∷ Refused refusals.Null
    ∷ Refused refusals.WrongType
    ∷ Refused refusals.NoRoot
    ∷ Refused refusals.NoRoot
    ∷ Done
    ∷ Refused refusals.NoVariable
    ∷ Refused refusals.Dangling
    ∷ Refused refusals.Dangling
    ∷ [])

-- a query follows its path through references that change, with an index or without
abbrev pub PathQueries : Type 0
PathQueries =
    AnswersFirst stores true
    (
    line.New (codes "s") (codes "Store") 1
    ∷ line.New (codes "p") (codes "Part") 1
    ∷ line.New (codes "q") (codes "Part") 1
    ∷ line.New (codes "b") (codes "Box") 2
    ∷ line.New (codes "h") (codes "Shelf") 2
    ∷ line.Insert (codes "s") (codes "items") (codes "p")
    ∷ line.Insert (codes "s") (codes "items") (codes "q")
    ∷ line.Set (codes "p") (codes "box") (operands.Var (codes "b"))
    ∷ line.Set (codes "b") (codes "shelf") (operands.Var (codes "h"))
    ∷ line.Set (codes "h") (codes "code") (operands.Text (codes "A1"))
    ∷ line.Index (codes "s") (codes "items") by_code
    ∷ line.Query (codes "s") (codes "items") by_code ops.Equal (keys.Text (codes "A1"))
    ∷ line.Set (codes "h") (codes "code") (operands.Text (codes "B2"))
    ∷ line.Query (codes "s") (codes "items") by_code ops.Equal (keys.Text (codes "A1"))
    ∷ line.Query (codes "s") (codes "items") by_code ops.Equal (keys.Text (codes "B2"))
    ∷ line.Index (codes "s") (codes "items") by_code
    ∷ line.Unindex (codes "s") (codes "items") by_code
    ∷ line.Query (codes "s") (codes "items") by_code ops.Equal (keys.Text (codes "B2"))
    ∷ line.Unindex (codes "s") (codes "items") by_code
    ∷ line.Set (codes "h") (codes "code") (operands.Text (codes "ABCDEFGHI"))
    ∷ line.Query (codes "s") (codes "items") ((codes "box") ∷ (codes "code") ∷ []) ops.Equal (keys.Text (codes "B2"))
    ∷ line.Query (codes "s") (codes "items") ((codes "box") ∷ (codes "shelf") ∷ []) ops.Equal (keys.Text (codes "B2"))
    ∷ line.Query (codes "s") (codes "items") by_code ops.Equal (keys.Int (pos 2))
    ∷ line.Delete (codes "b")
    ∷ line.Query (codes "s") (codes "items") by_code ops.Equal (keys.Text (codes "B2"))
    ∷ [])
    (
    Named (n 1 1)
    ∷ Named (n 1 2)
    ∷ Named (n 1 3)
    ∷ Named (n 2 1)
    ∷ Named (n 2 2)
    ∷ Done
    ∷ Done
    ∷ Done
    ∷ Done
    ∷ Done
    ∷ Done
    ∷ Names (record { name = (n 1 2); dead = false } ∷ [])
    ∷ Done
    ∷ Names []
    ∷ Names (record { name = (n 1 2); dead = false } ∷ [])
    ∷ Refused refusals.IndexThere
    ∷ Done
    ∷ Names (record { name = (n 1 2); dead = false } ∷ [])
    ∷ Refused refusals.NoIndex
    ∷ Refused refusals.TextTooLong
    ∷ Refused refusals.NoMember
    ∷ Refused refusals.WrongKind
    ∷ Refused refusals.WrongKind
    ∷ Done
    ∷ Names []
    ∷ [])
