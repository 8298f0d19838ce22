-- What becomes of transactions by turns.
use Rattle.std.specs.Prelude.{◌+◌, ◌-◌, ◌==◌, ℕ, Bool, true, false, if◌then◌else◌, List, [], ◌∷◌, ◌++◌, length, replicate, Option, Some, None}
use Rattle.std.specs.List.{slice_get, filter_map}
use Rattle.std.specs.Option.{option_and_then}
use Rattle.ostore_graph_model.specs.declared.commands.Txn.{Txn}
use Rattle.ostore_graph_model.specs.declared.values.Reply.{Reply}
use Rattle.ostore_job_text.specs.declared.job.JobClient.{JobClient}
use Rattle.ostore_run_report.specs.declared.results.TxnResult.{TxnResult}
use Rattle.ostore_run_report.specs.declared.results.TxnResult.TheVariants.{Commit, Read, Abort, GaveUp, NotRun}
use Rattle.ostore_turns.specs.declared.attempts.Gave.{Gave}
use Rattle.ostore_turns.specs.declared.attempts.Gave.TheVariants.{Going, Committed, Aborted, Failed}
use Rattle.ostore_turns.specs.declared.place.Place.{Place}
use Rattle.ostore_turns.specs.Places.{is_retried}
use Rattle.ostore_turns.specs.Schedules.{Turn}

-- an update is committed, and a read has read
abbrev pub committed_as : Bool → ℕ → ℕ → List Reply → TxnResult
committed_as true number tries replies = Commit number tries replies
committed_as false number tries replies = Read number tries replies

-- what becomes of a transaction by a line that gave this, and none where the line doesn't end it
abbrev pub result_by : Bool → ℕ → Place → Gave → Option TxnResult
result_by update tries at Going = None
result_by update tries at (Committed number replies) = Some (committed_as update number (at.failed + 1) replies)
result_by update tries at Aborted = Some (Abort (at.failed + 1))
result_by update tries at (Failed cause) = if is_retried tries at cause then None else Some (GaveUp (at.failed + 1) cause)

-- by a turn of a client
abbrev pub result_at : ℕ → JobClient → Turn → Option TxnResult
result_at number client turn =
    if turn.client == number
    then option_and_then (λ (txn : Txn). result_by txn.update client.tries turn.at turn.gave) (slice_get client.txns turn.at.txn)
    else None

-- what the turns ended of a client's transactions
abbrev pub ended_by : ℕ → JobClient → List Turn → List TxnResult
ended_by number client turns = filter_map (result_at number client) turns

-- transactions that were not ended have not run
abbrev pub with_not_run : ℕ → List TxnResult → List TxnResult
with_not_run txns results = results ++ replicate (txns - length results) NotRun

-- what became of a client's transactions
abbrev pub results_of : ℕ → JobClient → List Turn → List TxnResult
results_of number client turns = with_not_run (length client.txns) (ended_by number client turns)

-- what became of the transactions of clients, of which the first has this number
abbrev pub results_from : ℕ → List JobClient → List Turn → List (List TxnResult)
results_from number [] turns = []
results_from number (client ∷ clients) turns = results_of number client turns ∷ results_from (number + 1) clients turns

-- it holds of each client with its results, and there are as many lists of results as clients
abbrev pub AllByClient : (JobClient → List TxnResult → Type 0) → List JobClient → List (List TxnResult) → Type 0
AllByClient P [] [] = Unit {0}
AllByClient P [] (mine ∷ others) = ⊥
AllByClient P (client ∷ clients) [] = ⊥
AllByClient P (client ∷ clients) (mine ∷ others) = P client mine × AllByClient P clients others

-- it holds of each transaction with its result, and there are as many results as transactions
abbrev pub AllByTxn : (Txn → TxnResult → Type 0) → List Txn → List TxnResult → Type 0
AllByTxn P [] [] = Unit {0}
AllByTxn P [] (result ∷ results) = ⊥
AllByTxn P (txn ∷ txns) [] = ⊥
AllByTxn P (txn ∷ txns) (result ∷ results) = P txn result × AllByTxn P txns results
