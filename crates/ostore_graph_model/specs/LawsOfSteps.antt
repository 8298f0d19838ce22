-- Laws of commands, whatever graph they are made on.
use Rattle.std.specs.Prelude.{◌≡◌, ℕ, Bool, true, false, List, Some}
use Rattle.std.specs.FinMap as maps
use Rattle.ostore_schema_layout.specs.declared.schema.Schema.{Schema}
use Rattle.ostore_graph_model.specs.declared.values.Name.{Name}
use Rattle.ostore_graph_model.specs.declared.values.Reply.{Reply}
use Rattle.ostore_graph_model.specs.declared.values.Reply.TheVariants.{Done, Named, Refused}
use Rattle.ostore_graph_model.specs.declared.refusal.Refusal.{Refusal}
use Rattle.ostore_graph_model.specs.declared.commands.Command.{Command}
use Rattle.ostore_graph_model.specs.declared.commands.Command.TheVariants.{New, Delete}
use Rattle.ostore_graph_model.specs.declared.commands.Txn.{Txn}
use Rattle.ostore_graph_model.specs.Graph.{Graph, is_drawn, is_dead}
use Rattle.ostore_graph_model.specs.Deeds.{Vars}
use Rattle.ostore_graph_model.specs.Step.{line_of, Steps}
use Rattle.ostore_graph_model.specs.Transaction.{run_from, Runs, Answers}

-- a command that is refused changes neither the variables nor the graph
abbrev pub LawOfRefusals : Type 0
LawOfRefusals =
    (schema : Schema) (update : Bool) (vars vars_after : Vars) (graph graph_after : Graph) (command : Command) (refusal : Refusal)
    → Steps schema update vars graph command (Refused refusal) vars_after graph_after
    → (vars_after ≡ vars) × (graph_after ≡ graph)

-- a command that reads leaves the graph
abbrev pub LawOfReads : Type 0
LawOfReads =
    (schema : Schema) (update : Bool) (vars vars_after : Vars) (graph graph_after : Graph) (command : Command) (reply : Reply)
    → (line_of schema vars graph command).writes ≡ false
    → Steps schema update vars graph command reply vars_after graph_after
    → graph_after ≡ graph

-- a read transaction leaves the graph, whatever its commands are
abbrev pub LawOfReadTransactions : Type 0
LawOfReadTransactions =
    (schema : Schema) (txn : Txn) (graph graph_after : Graph) (replies : List Reply)
    → txn.update ≡ false
    → Runs schema txn graph replies graph_after
    → graph_after ≡ graph

-- the name of a new object wasn't drawn before, and is then
abbrev pub LawOfNewNames : Type 0
LawOfNewNames =
    (schema : Schema) (update : Bool) (vars vars_after : Vars) (graph graph_after : Graph) (to ty : List ℕ) (segment : ℕ) (x : Name)
    → Steps schema update vars graph (New to ty segment) (Named x) vars_after graph_after
    → (is_drawn graph x ≡ false) × (is_drawn graph_after x ≡ true)

-- a name that was drawn stays drawn, so that no command draws it again
abbrev pub LawOfDrawnNames : Type 0
LawOfDrawnNames =
    (schema : Schema) (update : Bool) (vars vars_after : Vars) (graph graph_after : Graph) (command : Command) (reply : Reply) (x : Name)
    → Steps schema update vars graph command reply vars_after graph_after
    → is_drawn graph x ≡ true
    → is_drawn graph_after x ≡ true

-- an object that was deleted is dead
abbrev pub LawOfDeletedNames : Type 0
LawOfDeletedNames =
    (schema : Schema) (update : Bool) (vars vars_after : Vars) (graph graph_after : Graph) (object : List ℕ) (x : Name)
    → maps.get vars object ≡ Some x → is_drawn graph x ≡ true
    → Steps schema update vars graph (Delete object) Done vars_after graph_after
    → is_dead graph_after x ≡ true

-- commands that are answered one by one have these replies as a run
abbrev pub LawOfAnswers : Type 0
LawOfAnswers =
    (schema : Schema) (update : Bool) (vars : Vars) (graph : Graph) (commands : List Command) (replies : List Reply)
    → Answers schema update vars graph commands replies
    → (run_from schema update vars graph commands).replies ≡ replies
