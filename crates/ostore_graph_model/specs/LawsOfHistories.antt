-- Laws of legal histories: what may be added at their end, and that they determine their graphs.
use Rattle.std.specs.Prelude.{◌≡◌, ◌≢◌, ℕ, ◌+◌, ◌<◌, ◌≤◌, true, false, List, [], ◌∷◌, ◌++◌, map, All, Some}
use Rattle.ostore_base.specs.declared.numbers.ClientNo.{ClientNo}
use Rattle.ostore_graph_model.specs.declared.commands.Txn.{Txn}
use Rattle.ostore_graph_model.specs.declared.commands.Script.{Script}
use Rattle.ostore_graph_model.specs.declared.history.Committed.{Committed}
use Rattle.ostore_graph_model.specs.Graph.{Graph}
use Rattle.ostore_graph_model.specs.Transaction.{Runs}
use Rattle.ostore_graph_model.specs.History.{txn_at, last_number, IsLegalHistory, IsSerial}

-- ---- what is added at the end

-- A transaction that a client may add to those that committed: the script has it and doesn't abort it, and
-- its ordinal is above those of the client's earlier ones. From the graph last it gives its replies and
-- the graph next.
pub record MayFollow (script : Script) (committed : List Committed) (last : Graph) (one : Committed) (next : Graph) : Type 0 where
  pub txn : Txn
  pub named : txn_at script one.entry.client.0 one.entry.ordinal ≡ Some txn
  pub kept : txn.aborts ≡ false
  pub kind : one.entry.update ≡ txn.update
  pub rises : All
      (λ earlier. earlier.entry.client ≡ one.entry.client → earlier.entry.ordinal < one.entry.ordinal)
      committed
  pub gives : Runs script.schema txn last one.entry.replies next

-- an update with the next number
abbrev pub LawOfAddedUpdates : Type 0
LawOfAddedUpdates =
    (script : Script) (first : ℕ) (graph last next : Graph) (committed : List Committed)
    → IsLegalHistory script first graph committed last
    → (one : Committed) → MayFollow script committed last one next
    → one.entry.update ≡ true → one.number ≡ last_number first committed + 1
    → IsLegalHistory script first graph (committed ++ one ∷ []) next

-- a read with the number of the last update
abbrev pub LawOfAddedReads : Type 0
LawOfAddedReads =
    (script : Script) (first : ℕ) (graph last : Graph) (committed : List Committed)
    → IsLegalHistory script first graph committed last
    → (one : Committed) → MayFollow script committed last one last
    → one.entry.update ≡ false → one.number ≡ last_number first committed
    → IsLegalHistory script first graph (committed ++ one ∷ []) last

-- a list of a further client, which goes on where the history ends
abbrev pub LawOfAddedClients : Type 0
LawOfAddedClients =
    (script : Script) (first : ℕ) (graph mid last : Graph) (committed further : List Committed)
    → IsLegalHistory script first graph committed mid
    → IsLegalHistory script (last_number first committed) mid further last
    → (client : ClientNo)
    → All (λ one. one.entry.client ≢ client) committed
    → All (λ one. one.entry.client ≡ client) further
    → IsLegalHistory script first graph (committed ++ further) last

-- ---- what is determined

-- two legal histories of one list, from one graph, have the same graph at each of their numbers
abbrev pub LawOfGraphs : Type 0
LawOfGraphs =
    (script : Script) (first : ℕ) (graph last end : Graph) (committed : List Committed)
    → (one : IsLegalHistory script first graph committed last)
    → (other : IsLegalHistory script first graph committed end)
    → ((n : ℕ) → first ≤ n → n ≤ last_number first committed → one.graphs n ≡ other.graphs n)
    × (last ≡ end)

-- which transaction of the script it is
abbrev pub named_by : Committed → ClientNo × ℕ
named_by one = (one.entry.client, one.entry.ordinal)

-- of the same transactions, in the same order, there is one serial history from a graph
abbrev pub LawOfSerialHistories : Type 0
LawOfSerialHistories =
    (script : Script) (first : ℕ) (graph last end : Graph) (committed others : List Committed)
    → IsLegalHistory script first graph committed last
    → IsLegalHistory script first graph others end
    → IsSerial committed → IsSerial others → map named_by committed ≡ map named_by others
    → (committed ≡ others) × (last ≡ end)
