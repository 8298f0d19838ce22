-- What a run's results say of its history.
use Rattle.std.specs.Prelude.{◌≡◌, ℕ, ◌+◌, true, false, Bool, List, [], ◌∷◌, ◌++◌}
use Rattle.ostore_graph_model.specs.declared.history.Committed.{Committed}
use Rattle.ostore_graph_model.specs.declared.values.Reply.{Reply}
use Rattle.ostore_run_report.specs.declared.results.TxnResult.{TxnResult}
use Rattle.ostore_run_report.specs.declared.results.TxnResult.TheVariants.{Commit, Read, Abort, GaveUp, NotRun}

-- what a client's transaction committed
abbrev pub committed_as : ℕ → ℕ → Bool → ℕ → List Reply → Committed
committed_as client ordinal update number replies =
    record { entry = record { client = record { 0 = client }; ordinal = ordinal; update = update; replies = replies }; number = number }

-- the commits and reads of one client, whose next transaction has this ordinal
abbrev pub committed_from : ℕ → ℕ → List TxnResult → List Committed
committed_from client ordinal [] = []
committed_from client ordinal (Commit number tries replies ∷ results) = committed_as client ordinal true number replies ∷ committed_from client (ordinal + 1) results
committed_from client ordinal (Read number tries replies ∷ results) = committed_as client ordinal false number replies ∷ committed_from client (ordinal + 1) results
committed_from client ordinal (Abort tries ∷ results) = committed_from client (ordinal + 1) results
committed_from client ordinal (GaveUp tries cause ∷ results) = committed_from client (ordinal + 1) results
committed_from client ordinal (NotRun ∷ results) = committed_from client (ordinal + 1) results

-- the commits and reads of all clients, of which the next has this number
abbrev pub committed_by : ℕ → List (List TxnResult) → List Committed
committed_by client [] = []
committed_by client (results ∷ others) = committed_from client 1 results ++ committed_by (client + 1) others

-- the commits and reads of a run, client by client
abbrev pub committed_of : List (List TxnResult) → List Committed
committed_of results = committed_by 0 results

-- the transaction was tried once, and its script ended it
abbrev pub EndedAtOnce : TxnResult → Type 0
EndedAtOnce (Commit number tries replies) = tries ≡ 1
EndedAtOnce (Read number tries replies) = tries ≡ 1
EndedAtOnce (Abort tries) = tries ≡ 1
EndedAtOnce (GaveUp tries cause) = ⊥
EndedAtOnce NotRun = ⊥
