-- *Transaction*: commands one after the other, from no variables.
use Rattle.std.specs.Prelude.{◌≡◌, Bool, List, [], ◌∷◌}
use Rattle.std.specs.FinMap as maps
use Rattle.ostore_schema_layout.specs.declared.schema.Schema.{Schema}
use Rattle.ostore_graph_model.specs.declared.values.Reply.{Reply}
use Rattle.ostore_graph_model.specs.declared.commands.Command.{Command}
use Rattle.ostore_graph_model.specs.declared.commands.Txn.{Txn}
use Rattle.ostore_graph_model.specs.Graph.{Graph}
use Rattle.ostore_graph_model.specs.Deeds.{Vars}
use Rattle.ostore_graph_model.specs.Step.{step, Steps}

-- the replies of commands, in order, and the graph after them
pub record Ran : Type 0 where
  pub replies : List Reply
  pub graph : Graph

abbrev pub with_first : Reply → Ran → Ran
with_first reply ran = record { replies = reply ∷ ran.replies; graph = ran.graph }

-- what commands give from these variables and this graph
abbrev pub run_from : Schema → Bool → Vars → Graph → List Command → Ran
run_from schema update vars graph [] = record { replies = []; graph = graph }
run_from schema update vars graph (command ∷ commands) =
    let first = step schema update vars graph command in
    with_first first.reply (run_from schema update first.vars first.graph commands)

abbrev pub transaction : Schema → Txn → Graph → Ran
transaction schema txn graph = run_from schema txn.update maps.empty graph txn.commands

-- a transaction gives these replies and this graph
abbrev pub Runs : Schema → Txn → Graph → List Reply → Graph → Type 0
Runs schema txn graph replies after = transaction schema txn graph ≡ record { replies = replies; graph = after }

-- Commands are answered by these replies, one after the other: each gives its reply, and the variables and the graph
-- on which the next is made.
abbrev pub Answers : Schema → Bool → Vars → Graph → List Command → List Reply → Type 0
Answers schema update vars graph [] replies = replies ≡ []
Answers schema update vars graph (command ∷ commands) [] = ⊥
Answers schema update vars graph (command ∷ commands) (reply ∷ replies) =
    (vars_after : Vars) × (graph_after : Graph) × Steps schema update vars graph command reply vars_after graph_after
    × Answers schema update vars_after graph_after commands replies
