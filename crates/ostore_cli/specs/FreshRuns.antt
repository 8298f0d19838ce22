-- A job that runs on a fresh database, one client after the other.
use Rattle.std.specs.Prelude.{◌≡◌, ◌⊎◌, ℕ, ◌+◌, ◌<◌, ◌≤◌, Bool, true, false, List}
use Rattle.std.specs.List.{list_any, AllByRecursion}
use Rattle.ostore_graph_model.specs.declared.commands.Txn.{Txn}
use Rattle.ostore_graph_model.specs.declared.commands.Script.{Script}
use Rattle.ostore_graph_model.specs.Graph.{Graph, empty_graph}
use Rattle.ostore_graph_model.specs.Growth.{script_growth}
use Rattle.ostore_graph_model.specs.History.{IsLegalHistory, IsSerial}
use Rattle.ostore_job_text.specs.declared.job.JobClient.{JobClient}
use Rattle.ostore_run_report.specs.declared.results.TxnResult.{TxnResult}
use Rattle.ostore_run_report.specs.declared.results.TxnResult.TheVariants.{Commit, Read, Abort, GaveUp, NotRun}
use Rattle.ostore_run_report.specs.Results.{committed_of}
use Rattle.ostore_turns.specs.Alone.{IsMetByNone}
use Rattle.ostore_turns.specs.Bounds.{Bounds, IsBounded}
use Rattle.ostore_turns.specs.RightResults.{MayGiveUp}
use Rattle.ostore_turns.specs.TurnResults.{AllByClient, AllByTxn}

-- ---- a fresh database

-- its pages, and those of them that are free
abbrev pub all_pages : ℕ
all_pages = 1024

abbrev pub free_pages : ℕ
free_pages = 1014

-- how many pages a transaction of the script uses, at most: page 0, the page of roots, and those that updates may take
abbrev pub used_pages : Script → ℕ
used_pages script = 2 + script_growth empty_graph script

-- No space is found only where fewer pages are free than the script's updates may take, and a cache is full only where it
-- is below the pages that a transaction may use; no disk call fails.
abbrev pub fresh_bounds : Script → Bounds
fresh_bounds script = record {
  pages = all_pages;
  lacks = free_pages < script_growth empty_graph script;
  crowded = λ pages. pages < used_pages script;
  fails = ⊥;
}

-- a cache holds all pages, or those that a transaction may use
abbrev pub IsAmple : Script → ℕ → Type 0
IsAmple script cache = (all_pages ≤ cache) ⊎ (used_pages script ≤ cache)

-- The script's updates may take no more pages than are free; each client's cache is ample, and its frames hold all pages.
pub record HasRoom (script : Script) (clients : List JobClient) : Type 0 where
  pub growth : script_growth empty_graph script ≤ free_pages
  pub options : AllByRecursion (λ client. IsAmple script client.cache × (all_pages ≤ client.frames)) clients

-- ---- what becomes of transactions

-- At its first try an update is committed and a read has read, and one that its script aborts is aborted. Or it is
-- given up at a command, and within the bounds: for want of free pages where it is an update that makes an object, of room
-- in its client's cache, or of frames.
abbrev pub EndsAs : Bounds → JobClient → Txn → TxnResult → Type 0
EndsAs bounds client txn (Commit number tries replies) = (tries ≡ 1) × (txn.aborts ≡ false) × (txn.update ≡ true)
EndsAs bounds client txn (Read number tries replies) = (tries ≡ 1) × (txn.aborts ≡ false) × (txn.update ≡ false)
EndsAs bounds client txn (Abort tries) = (tries ≡ 1) × (txn.aborts ≡ true)
EndsAs bounds client txn (GaveUp tries cause) =
    (tries ≡ 1) × IsMetByNone cause × IsBounded bounds client cause × MayGiveUp false client txn tries cause
EndsAs bounds client txn NotRun = ⊥

-- each transaction of each client has one such result, in the order of the scripts
abbrev pub AllEnd : Bounds → List JobClient → List (List TxnResult) → Type 0
AllEnd bounds clients results =
    AllByClient (λ client mine. AllByTxn (EndsAs bounds client) client.txns mine) clients results

-- the transaction was given up
abbrev pub was_given_up : TxnResult → Bool
was_given_up (Commit number tries replies) = false
was_given_up (Read number tries replies) = false
was_given_up (Abort tries) = false
was_given_up (GaveUp tries cause) = true
was_given_up NotRun = false

-- one of the transactions was
abbrev pub any_given_up : List (List TxnResult) → Bool
any_given_up results = list_any (list_any was_given_up) results

-- ---- a run

-- The transactions that the results say have committed are a legal history from the empty graph at number 0. They ran
-- one after the other, client by client.
pub record HasRun (script : Script) (clients : List JobClient) (results : List (List TxnResult)) (last : Graph) : Type 0 where
  pub history : IsLegalHistory script 0 empty_graph (committed_of results) last
  pub serial : IsSerial (committed_of results)
  pub ends : AllEnd (fresh_bounds script) clients results
