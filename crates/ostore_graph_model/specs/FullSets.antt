-- Commands on a graph whose box has more parts than a chunk of a set has room for.
use Rattle.std.specs.Prelude.{ℕ, ◌+◌, true, List, [], ◌∷◌, ◌++◌, map, take, drop, codes}
use Rattle.std.specs.List.{flat_map, range_with_len}
use Rattle.std.specs.FinMap as maps
use Rattle.ostore_graph_model.specs.declared.values.Name.{Name}
use Rattle.ostore_graph_model.specs.declared.values.Reply.TheVariants.{Done, Named, Count, Names, Refused}
use Rattle.ostore_graph_model.specs.declared.refusal.Refusal.TheVariants as refusals
use Rattle.ostore_graph_model.specs.declared.commands.Command.TheVariants as line
use Rattle.ostore_graph_model.specs.Graph.{Graph, empty_graph}
use Rattle.ostore_graph_model.specs.Deeds.Objects.{new_object}
use Rattle.ostore_graph_model.specs.Transaction.{Answers}
use Rattle.ostore_graph_model.specs.Examples.{type_number, boxes, n}

-- the names of 31 parts
abbrev pub part_names : List Name
part_names = map (λ i. n 1 (i + 2)) (range_with_len 0 31)

-- a box and the parts, some of which are in it
abbrev pub box_with : List Name → Graph
box_with parts = record empty_graph {
  objects = maps.from_sorted ((n 1 1, new_object boxes (type_number 1)) ∷ map (λ part. (part, new_object boxes (type_number 2))) part_names);
  pairs = maps.from_sorted (map (λ part. (record { link = record { ty = type_number 1; member = record { 0 = 0 } }; first = n 1 1; second = part }, tt)) parts);
  serials = maps.insert maps.empty 1 32;
}

-- where 29 parts are in the box, the others are put in one by one, and all are counted
abbrev pub FilledSet : Type 0
FilledSet =
    Answers boxes true maps.empty (box_with (take 29 part_names))
    (
    line.Find (codes "b") (n 1 1)
    ∷ line.Size (codes "b") (codes "parts")
    ∷ flat_map (λ part. line.Find (codes "p") part ∷ line.Insert (codes "b") (codes "parts") (codes "p") ∷ []) (drop 29 part_names)
    ++ line.Size (codes "b") (codes "parts")
    ∷ [])
    (
    Named (n 1 1)
    ∷ Count 29
    ∷ flat_map (λ part. Named part ∷ Done ∷ []) (drop 29 part_names)
    ++ Count 31
    ∷ [])

-- where all are in it, all are counted; they are taken out one by one, until none is left; one is put in once
abbrev pub FullSet : Type 0
FullSet =
    Answers boxes true maps.empty (box_with part_names)
    (
    line.Find (codes "b") (n 1 1)
    ∷ line.Size (codes "b") (codes "parts")
    ∷ flat_map (λ part. line.Find (codes "p") part ∷ line.Remove (codes "b") (codes "parts") (codes "p") ∷ []) part_names
    ++ line.Members (codes "b") (codes "parts")
    ∷ line.Size (codes "b") (codes "parts")
    ∷ line.Remove (codes "b") (codes "parts") (codes "p")
    ∷ line.Insert (codes "b") (codes "parts") (codes "p")
    ∷ line.Insert (codes "b") (codes "parts") (codes "p")
    ∷ [])
    (
    Named (n 1 1)
    ∷ Count 31
    ∷ flat_map (λ part. Named part ∷ Done ∷ []) part_names
    ++ Names []
    ∷ Count 0
    ∷ Refused refusals.NotMember
    ∷ Done
    ∷ Refused refusals.AlreadyMember
    ∷ [])
