-- *Growth*: how many pages commands may take from the free list, at most.
use Rattle.std.specs.Prelude.{◌≡◌, ℕ, ◌+◌, ◌*◌, ◌≤◌, Bool, true, false, if◌then◌else◌, List, [], length, filter, flat_map, Some}
use Rattle.std.specs.FinMap as maps
use Rattle.ostore_graph_model.specs.declared.commands.Command.{Command}
use Rattle.ostore_graph_model.specs.declared.commands.Command.TheVariants.{Index}
use Rattle.ostore_graph_model.specs.declared.commands.Txn.{Txn}
use Rattle.ostore_graph_model.specs.declared.commands.Script.{Script}
use Rattle.ostore_graph_model.specs.Graph.{Graph}
use Rattle.ostore_graph_model.specs.History.{txn_at}

-- by so many commands, pairs, indexes and live names
abbrev pub growth_by : ℕ → ℕ → ℕ → ℕ → ℕ
growth_by commands pairs indexes names = 2 * commands + 8 * commands * (1 + pairs) * indexes * names

abbrev pub declares : Command → Bool
declares (Index object member path) = true
declares other = false

-- Each command may add a pair and a name, and each `index` an index, to those of the graph.
abbrev pub growth : Graph → List Command → ℕ
growth graph commands =
    growth_by (length commands) (maps.len graph.pairs + length commands) (maps.len graph.indexes + length (filter declares commands)) (maps.len graph.objects + length commands)

-- the commands of a transaction that may change the graph
abbrev pub update_commands : Txn → List Command
update_commands txn = if txn.update then txn.commands else []

-- a script grows by the commands of its updates
abbrev pub script_growth : Graph → Script → ℕ
script_growth graph script = growth graph (flat_map (flat_map update_commands) script.clients)

-- an update of a script grows by no more than the script
abbrev pub LawOfGrowth : Type 0
LawOfGrowth =
    (graph : Graph) (script : Script) (client ordinal : ℕ) (txn : Txn)
    → txn_at script client ordinal ≡ Some txn → txn.update ≡ true
    → growth graph txn.commands ≤ script_growth graph script
