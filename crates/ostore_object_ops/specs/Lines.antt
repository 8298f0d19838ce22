-- What the lines of a transaction do to pages, one after the other.
use Rattle.std.specs.Prelude.{◌≡◌, ◌<◌, ◌≤◌, ℕ, false, List, ◌∷◌, [], ◌++◌, length, drop, Some}
use Rattle.std.specs.List.{slice_get}
use Rattle.ostore_base.specs.declared.page.PageImage.{PageImage}
use Rattle.ostore_page_tags.specs.Allocated.{HasFree}
use Rattle.ostore_schema_layout.specs.declared.schema.Schema.{Schema}
use Rattle.ostore_segments.specs.declared.placement.NoSpace.{NoSpace}
use Rattle.ostore_graph_model.specs.declared.values.Reply.{Reply}
use Rattle.ostore_graph_model.specs.declared.commands.Command.{Command}
use Rattle.ostore_graph_model.specs.declared.commands.Txn.{Txn}
use Rattle.ostore_graph_model.specs.Graph.{Graph}
use Rattle.ostore_graph_model.specs.Growth.{growth}
use Rattle.ostore_graph_model.specs.Deeds.{Vars}
use Rattle.ostore_graph_model.specs.StandsFor.{StandsFor}
use Rattle.ostore_graph_model.specs.Valid.{IsValid}
use Rattle.ostore_graph_model.specs.Transaction.{Ran, run_from, Runs}
use Rattle.ostore_object_ops.specs.Means.{Leads, Means}
use Rattle.ostore_object_ops.specs.Executes.{TakesAtMost, LacksSpace, Executes}

-- ---- one line

-- the next line of a transaction was executed: its reply is the last one now
pub record RunsLine (schema : Schema) (txn : Txn) (replies more : List Reply) (before after : Leads) (old new : List PageImage) : Type 0 where
  pub command : Command
  pub next : slice_get txn.commands (length replies) ≡ Some command
  pub reply : Reply
  pub last : more ≡ replies ++ reply ∷ []
  pub executes : Executes schema txn.update command reply before after old new

-- the next line finds no place for its object
abbrev pub LacksLine : Schema → Txn → List Reply → NoSpace → List PageImage → Type 0
LacksLine schema txn replies lack list =
    (command : Command) × (slice_get txn.commands (length replies) ≡ Some command) × LacksSpace schema txn.update command lack list

-- ---- the lines so far

-- these replies, and those to the commands that are left, are the transaction's on this graph
pub record IsAlong (schema : Schema) (txn : Txn) (replies : List Reply) (leads : Leads) (list : List PageImage) (graph : Graph) : Type 0 where
  pub vars : Vars
  pub now : Graph
  pub means : Means schema list leads vars now
  pub left : Ran
  pub run : run_from schema txn.update vars now (drop (length replies) txn.commands) ≡ left
  pub all : Runs schema txn graph (replies ++ left.replies) left.graph

-- A transaction began on a valid list of pages, and its lines that have a reply have made another list of it. Those of a
-- read have left it.
pub record HasRun (schema : Schema) (txn : Txn) (replies : List Reply) (leads : Leads) (begun list : List PageImage) : Type 0 where
  pub opened : IsValid schema begun
  pub along : (graph : Graph) → StandsFor schema begun graph → IsAlong schema txn replies leads list graph
  pub few : length replies ≤ length txn.commands
  pub taken : TakesAtMost (length replies) begun list
  pub reads : txn.update ≡ false → list ≡ begun
  pub count : length list ≡ length begun

-- ---- all lines

-- A transaction was executed: its replies are *Transaction*'s on the graph for which the first list stands, the last
-- list is valid and stands for the graph that *Transaction* leaves, and it has *Growth*'s pages less that are free,
-- at most.
pub record Transacts (schema : Schema) (txn : Txn) (replies : List Reply) (old new : List PageImage) : Type 0 where
  pub valid : IsValid schema new
  pub does : (graph : Graph) → StandsFor schema old graph
      → (after : Graph) × Runs schema txn graph replies after × StandsFor schema new after
  pub taken : (graph : Graph) → TakesAtMost (growth graph txn.commands) old new

-- fewer pages were free than a transaction may take
abbrev pub LacksGrowth : Txn → List PageImage → Type 0
LacksGrowth txn old = (graph : Graph) (free : List ℕ) → HasFree old free → length free < growth graph txn.commands
