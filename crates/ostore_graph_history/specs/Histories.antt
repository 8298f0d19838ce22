-- A history of pages is a history of graphs, also where its entries are told client by client.
use Rattle.std.specs.Prelude.{◌≡◌, ◌≤◌, ℕ, List, length, map, Some}
use Rattle.std.specs.List.{slice_get}
use Rattle.ostore_base.specs.Limits.{most_clients}
use Rattle.ostore_base.specs.declared.page.PageImage.{PageImage}
use Rattle.ostore_graph_model.specs.declared.commands.Script.{Script}
use Rattle.ostore_graph_model.specs.declared.history.Committed.{Committed}
use Rattle.ostore_graph_model.specs.declared.history.Entry.{Entry}
use Rattle.ostore_graph_model.specs.Graph.{Graph}
use Rattle.ostore_graph_model.specs.History.{IsLegalHistory, last_number}
use Rattle.ostore_graph_model.specs.StandsFor.{StandsFor}
use Rattle.ostore_graph_model.specs.Valid.{IsValid}
use Rattle.ostore_run_report.specs.declared.results.TxnResult.{TxnResult}
use Rattle.ostore_run_report.specs.Results.{committed_from, committed_of}
use Rattle.ostore_page_service.specs.History.{IsServed}
use Rattle.ostore_client_core.specs.Kinds.{graph_meaning}

-- ---- records and results

-- a record of a commit is an entry with its number
abbrev pub committed_entry : Entry × ℕ → Committed
committed_entry r = record { entry = r.0; number = r.1 }

-- Each client of the script has results, which say that exactly its records have committed, in their order.
pub record AreResultsOf (script : Script) (records : ℕ → List (Entry × ℕ)) (results : List (List TxnResult)) : Type 0 where
  pub few : length script.clients ≤ most_clients
  pub of_each : length results ≡ length script.clients
  pub committed : (client : ℕ) (mine : List TxnResult) → slice_get results client ≡ Some mine
      → map committed_entry (records client) ≡ committed_from client 1 mine

-- ---- from pages to pages

-- What has committed is a legal history for the script, from the graph for which the opened list stands at the number
-- first to that of the last list. Both lists are valid.
pub record IsHistoryTo (script : Script) (first : ℕ) (opened : List PageImage) (committed : List Committed) (last : List PageImage) : Type 0 where
  pub graph : Graph
  pub opened_valid : IsValid script.schema opened
  pub opened_stands : StandsFor script.schema opened graph
  pub last_graph : Graph
  pub valid : IsValid script.schema last
  pub stands : StandsFor script.schema last last_graph
  pub legal : IsLegalHistory script first graph committed last_graph

-- Where the last list is reached for every client at once, with their records, all that the results say has committed
-- is a history to it, and the number that is reached is that of the last update.
abbrev pub LawOfCommittedHistories : Type 0
LawOfCommittedHistories =
    (script : Script) (first n : ℕ) (opened last : List PageImage)
    → (records : ℕ → List (Entry × ℕ)) → IsServed graph_meaning script first opened records n last
    → (results : List (List TxnResult)) → AreResultsOf script records results
    → IsHistoryTo script first opened (committed_of results) last
    × (n ≡ last_number first (committed_of results))
