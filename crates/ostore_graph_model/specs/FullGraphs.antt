-- Commands on graphs in the middle of a database's life: where serials and roots are at their limits, and where a read
-- finds what earlier commands left.
use Rattle.std.specs.Prelude.{ℕ, ◌+◌, ◌/◌, ◌%◌, true, false, List, [], ◌∷◌, map, Some, None, codes}
use Rattle.std.specs.List.{range_with_len}
use Rattle.std.specs.FinMap as maps
use Rattle.ostore_base.specs.Limits.{most_roots}
use Rattle.ostore_schema_layout.specs.declared.schema.Schema.{Schema}
use Rattle.ostore_schema_layout.specs.declared.schema.MemberKind.TheVariants as kinds
use Rattle.ostore_graph_model.specs.declared.values.Value.TheVariants as values
use Rattle.ostore_graph_model.specs.declared.values.Reply.{Reply}
use Rattle.ostore_graph_model.specs.declared.values.Reply.TheVariants.{Done, Named, Value, Refused}
use Rattle.ostore_graph_model.specs.declared.refusal.Refusal.TheVariants as refusals
use Rattle.ostore_graph_model.specs.declared.commands.Command.{Command}
use Rattle.ostore_graph_model.specs.declared.commands.Command.TheVariants as line
use Rattle.ostore_graph_model.specs.Graph.{Graph, empty_graph}
use Rattle.ostore_graph_model.specs.Deeds.Objects.{new_object, with_new}
use Rattle.ostore_graph_model.specs.Transaction.{run_from, Answers}
use Rattle.ostore_graph_model.specs.Examples.{type_number, plain, chained, boxes, n, AnswersFirst, dangling_commands}

-- ---- serials

-- a graph with one part
abbrev pub one_part : Graph
one_part = with_new empty_graph 1 (new_object chained (type_number 1))

-- a graph whose first segment has one serial left
abbrev pub one_serial_left : Graph
one_serial_left = record empty_graph { serials = maps.insert maps.empty 1 4294967294 }

-- a segment draws its last serial, and then none; another one draws its first
abbrev pub SerialsEnd : Type 0
SerialsEnd =
    Answers chained true maps.empty one_serial_left
    (
    line.New (codes "p") (codes "Part") 1
    ∷ line.New (codes "q") (codes "Part") 1
    ∷ line.New (codes "q") (codes "Part") 2
    ∷ [])
    (
    Named (n 1 4294967295)
    ∷ Refused refusals.SerialsSpent
    ∷ Named (n 2 1)
    ∷ [])

-- ---- roots

-- names of two letters, ascending, as many as there may be roots
abbrev pub root_names : List (List ℕ)
root_names = map (λ i. (97 + i / 26) ∷ (97 + i % 26) ∷ []) (range_with_len 0 most_roots)

-- a graph with one part, to which all roots are bound
abbrev pub all_roots_bound : Graph
all_roots_bound = record one_part { roots = maps.from_sorted (map (λ root. (root, n 1 1)) root_names) }

-- where all roots are bound a further one is refused, one of them may be bound anew, and one that goes makes room
abbrev pub RootsEnd : Type 0
RootsEnd =
    Answers chained true maps.empty all_roots_bound
    (
    line.Find (codes "p") (n 1 1)
    ∷ line.SetRoot (codes "top") (Some (codes "p"))
    ∷ line.SetRoot (codes "aa") (Some (codes "p"))
    ∷ line.SetRoot (codes "ab") None
    ∷ line.SetRoot (codes "top") (Some (codes "p"))
    ∷ line.SetRoot (codes "ab") (Some (codes "p"))
    ∷ [])
    (
    Named (n 1 1)
    ∷ Refused refusals.RootsFull
    ∷ Done
    ∷ Done
    ∷ Done
    ∷ Refused refusals.RootsFull
    ∷ [])

-- ---- indexes

-- sacks with a tag, which hold sacks without knowing in which they are
abbrev pub sacks : Schema
sacks = record {
  types = record { name = codes "Sack"; members = plain (codes "tag") kinds.Int ∷ plain (codes "things") (kinds.Set (type_number 1)) ∷ [] } ∷ [];
}

-- an index wants inverses: of the set, and of each reference on its path
abbrev pub IndexesWantInverses : Type 0
IndexesWantInverses =
    AnswersFirst boxes true
    (
    line.New (codes "b") (codes "Box") 1
    ∷ line.Index (codes "b") (codes "parts") (codes "next" ∷ codes "id" ∷ [])
    ∷ line.Index (codes "b") (codes "parts") (codes "left" ∷ codes "next" ∷ codes "id" ∷ [])
    ∷ line.Index (codes "b") (codes "parts") (codes "next" ∷ codes "nope" ∷ [])
    ∷ line.Index (codes "b") (codes "parts") (codes "left" ∷ codes "id" ∷ [])
    ∷ line.Index (codes "b") (codes "parts") (codes "left" ∷ codes "id" ∷ [])
    ∷ [])
    (
    Named (n 1 1)
    ∷ Refused refusals.NotIndexable
    ∷ Refused refusals.NotIndexable
    ∷ Refused refusals.NoMember
    ∷ Done
    ∷ Refused refusals.IndexThere
    ∷ [])
    × AnswersFirst sacks true
    (
    line.New (codes "s") (codes "Sack") 1
    ∷ line.Index (codes "s") (codes "things") (codes "tag" ∷ [])
    ∷ [])
    (
    Named (n 1 1)
    ∷ Refused refusals.NotIndexable
    ∷ [])

-- ---- reads

-- a read finds the graph that an update's commands left
abbrev pub ReadsAfter : Schema → List Command → List Command → List Reply → Type 0
ReadsAfter schema commands reads replies =
    Answers schema false maps.empty (run_from schema true maps.empty empty_graph commands).graph reads replies

-- a later read finds by a root what refers to a deleted object
abbrev pub LaterRead : Type 0
LaterRead =
    ReadsAfter chained dangling_commands
    (
    line.Root (codes "r") (codes "top")
    ∷ line.Get (codes "r") (codes "next")
    ∷ [])
    (
    Named (n 1 1)
    ∷ Value (values.Dead (n 1 2))
    ∷ [])
