-- A legal history: committed transactions that are those of a script, one after the other in the
-- order of their numbers.
use Rattle.std.specs.Prelude.{◌≡◌, ℕ, ◌+◌, ◌-◌, ◌<◌, ◌≤◌, Bool, false, List, length, map, filter, All, AllPairs, Any, IsPermutation, Option, Some, None, option_and_then, slice_get, ◌==◌, if◌then◌else◌}
use Rattle.std.specs.List.{range_with_len}
use Rattle.ostore_graph_model.specs.declared.commands.Txn.{Txn}
use Rattle.ostore_graph_model.specs.declared.commands.Script.{Script}
use Rattle.ostore_graph_model.specs.declared.history.Committed.{Committed}
use Rattle.ostore_graph_model.specs.Graph.{Graph}
use Rattle.ostore_graph_model.specs.Transaction.{Runs}

-- the transaction that a client (from 0) and an ordinal (from 1) name in a script
abbrev pub txn_at : Script → ℕ → ℕ → Option Txn
txn_at script client ordinal =
    if ordinal == 0 then None else option_and_then (λ txns. slice_get txns (ordinal - 1)) (slice_get script.clients client)

-- those of a list that are updates
abbrev pub updates : List Committed → List Committed
updates committed = filter (λ one. one.entry.update) committed

-- the number of the last update, or the first number where there is none
abbrev pub last_number : ℕ → List Committed → ℕ
last_number first committed = first + length (updates committed)

-- the number of the graph that a transaction began from
abbrev pub number_before : Bool → ℕ → ℕ
number_before update number = if update then number - 1 else number

-- One committed transaction is right by graphs that are numbered from first to last. It names a
-- transaction of the script that doesn't abort, and has its kind. From the graph before an update's
-- number the transaction gives the replies and the graph of that number; a read has its replies from
-- the graph of its number, and leaves it.
pub record IsRight (script : Script) (first last : ℕ) (graphs : ℕ → Graph) (one : Committed) : Type 0 where
  pub txn : Txn
  pub named : txn_at script one.entry.client.0 one.entry.ordinal ≡ Some txn
  pub kept : txn.aborts ≡ false
  pub kind : one.entry.update ≡ txn.update
  pub from : first ≤ one.number
  pub to : one.number ≤ last
  pub gives : Runs script.schema txn (graphs (number_before txn.update one.number)) one.entry.replies (graphs one.number)

-- of two transactions of one client the later one has the greater ordinal, and no smaller number
abbrev pub InOrder : Committed → Committed → Type 0
InOrder earlier later = earlier.entry.client ≡ later.entry.client → (earlier.entry.ordinal < later.entry.ordinal) × (earlier.number ≤ later.number)

-- A list of committed transactions is a legal history for a script, from a graph at the number first
-- to the graph last. Each client's transactions stand in it in the order of its calls.
pub record IsLegalHistory (script : Script) (first : ℕ) (graph : Graph) (committed : List Committed) (last : Graph) : Type 0 where
  -- the graph at each number
  pub graphs : ℕ → Graph
  pub begins : graphs first ≡ graph
  pub ends : graphs (last_number first committed) ≡ last
  -- the updates have the numbers after first, each once
  pub numbers : IsPermutation (map (λ one. one.number) (updates committed)) (range_with_len (first + 1) (length (updates committed)))
  pub right : All (IsRight script first (last_number first committed) graphs) committed
  pub order : AllPairs InOrder committed

-- of two transactions the later one began when the earlier one had committed
abbrev pub BeganAfter : Committed → Committed → Type 0
BeganAfter earlier later = earlier.number ≤ number_before later.entry.update later.number

-- the committed transactions ran one after the other, in the order of the list
abbrev pub IsSerial : List Committed → Type 0
IsSerial committed = AllPairs BeganAfter committed

-- a transaction of the script has committed
abbrev pub HasCommitted : ℕ → ℕ → List Committed → Type 0
HasCommitted client ordinal committed = Any (λ one. (one.entry.client.0 ≡ client) × (one.entry.ordinal ≡ ordinal)) committed

-- every transaction of the script that doesn't abort has committed
abbrev pub AllCommitted : Script → List Committed → Type 0
AllCommitted script committed =
    (client ordinal : ℕ) (txn : Txn) → txn_at script client ordinal ≡ Some txn → txn.aborts ≡ false → HasCommitted client ordinal committed
