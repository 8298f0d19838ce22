-- What a command does to pages: on every list of pages that means a graph, what *Step* does to that graph.
use Rattle.std.specs.Prelude.{◌≡◌, ◌+◌, ◌≤◌, ℕ, Bool, true, false, List, length, Some}
use Rattle.ostore_base.specs.declared.page.PageImage.{PageImage}
use Rattle.ostore_page_tags.specs.declared.layout.TheConstants.{ROW_BYTES}
use Rattle.ostore_page_tags.specs.Allocated.{HasFree}
use Rattle.ostore_schema_layout.specs.declared.schema.Schema.{Schema}
use Rattle.ostore_schema_layout.specs.declared.schema.TypeNo.{TypeNo}
use Rattle.ostore_schema_layout.specs.Cells.{code_size}
use Rattle.ostore_schema_layout.specs.Numbers.{type_named}
use Rattle.ostore_segments.specs.declared.placement.NoSpace.{NoSpace}
use Rattle.ostore_segments.specs.Serials.{AreSpent}
use Rattle.ostore_segments.specs.Room.{IsFull}
use Rattle.ostore_graph_model.specs.declared.values.Reply.{Reply}
use Rattle.ostore_graph_model.specs.declared.values.Reply.TheVariants as replies
use Rattle.ostore_graph_model.specs.declared.refusal.Refusal.{Refusal}
use Rattle.ostore_graph_model.specs.declared.commands.Command.{Command}
use Rattle.ostore_graph_model.specs.declared.commands.Command.TheVariants as commands
use Rattle.ostore_graph_model.specs.Graph.{Graph}
use Rattle.ostore_graph_model.specs.Deeds.{Vars}
use Rattle.ostore_graph_model.specs.Step.{Steps}
use Rattle.ostore_object_ops.specs.Means.{Leads, Means}
use Rattle.ostore_object_ops.specs.Claiming.{KeepsDataPages}

-- ---- a command is executed

-- *Step* gives this reply, and then the pages mean what it leaves
pub record IsDone (schema : Schema) (update : Bool) (command : Command) (reply : Reply) (leads : Leads) (pages : List PageImage) (vars : Vars) (graph : Graph) : Type 0 where
  pub then : Vars
  pub next : Graph
  pub steps : Steps schema update vars graph command reply then next
  pub means : Means schema pages leads then next

-- at most so many pages were taken from the free list
abbrev pub TakesAtMost : ℕ → List PageImage → List PageImage → Type 0
TakesAtMost n old new =
    (free : List ℕ) → HasFree old free
    → (rest : List ℕ) × HasFree new rest × (length free ≤ length rest + n)

-- `new` of a type finds no place for its cell: no page of the segment has room, and none is free
pub record LacksSpace (schema : Schema) (update : Bool) (command : Command) (lack : NoSpace) (pages : List PageImage) : Type 0 where
  pub to : List ℕ
  pub ty : List ℕ
  pub is : command ≡ commands.New to ty lack.segment
  pub may : update ≡ true
  pub number : TypeNo
  pub named : type_named schema ty ≡ Some number
  pub left : AreSpent pages lack.segment → ⊥
  pub need : lack.need ≡ code_size schema number.0 + ROW_BYTES
  pub full : IsFull pages lack.segment lack.need

-- A command was executed with this reply: the variables led to these addresses before and lead to those after, and
-- one list of pages became another. It lacked no space. Only `new` took a page, and one at most; `get` left all pages, and
-- so did each command of a read and each one that was refused. What was a data page stays one.
pub record Executes (schema : Schema) (update : Bool) (command : Command) (reply : Reply) (before after : Leads) (old new : List PageImage) : Type 0 where
  pub does : (vars : Vars) (graph : Graph) → Means schema old before vars graph
      → IsDone schema update command reply after new vars graph
  pub room : (lack : NoSpace) → LacksSpace schema update command lack old → ⊥
  pub taken : TakesAtMost 1 old new
  pub only_new : ((to ty : List ℕ) (segment : ℕ) → command ≡ commands.New to ty segment → ⊥) → TakesAtMost 0 old new
  pub read : (object member : List ℕ) → command ≡ commands.Get object member → new ≡ old
  pub reads : update ≡ false → new ≡ old
  pub refused : (refusal : Refusal) → reply ≡ replies.Refused refusal → new ≡ old
  pub pages : KeepsDataPages old new
