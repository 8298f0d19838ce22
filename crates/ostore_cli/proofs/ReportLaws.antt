-- A job that ran alone has the report that is promised.
use Rattle.std.proofs.Common.{◌≡◌, ℕ, zero, suc, ◌+◌, ◌-◌, Bool, List, map, length, Option, Some, None, refl, sym, ap, subst, ◌∙◌, arith}
use Rattle.std.specs.Prelude.{option_and_then, slice_get}
use Rattle.std.specs.Option.{option_map}
use Rattle.std.proofs.lemmas.Option.{slice_get-map}
use Rattle.std.proofs.Math.Dec.{eqb-suc-zero}
use Rattle.ostore_graph_model.specs.declared.commands.Txn.{Txn}
use Rattle.ostore_graph_model.specs.History.{txn_at, updates, HasCommitted, AllCommitted}
use Rattle.ostore_try_input.specs.declared.input.TryInput.{TryInput}
use Rattle.ostore_job_text.specs.declared.job.JobTurn.{JobTurn}
use Rattle.ostore_job_text.specs.declared.job.JobClient.{JobClient}
use Rattle.ostore_run_report.specs.declared.results.Tail.{Tail}
use Rattle.ostore_run_report.specs.declared.results.TxnResult.{TxnResult}
use Rattle.ostore_run_report.specs.Report.{report}
use Rattle.ostore_run_report.specs.Results.{committed_of}
use Rattle.ostore_try_input.specs.Scripts.{script_of}
use Rattle.ostore_try_input.specs.Spelling.{Says}
use Rattle.ostore_client_turns.specs.declared.run.Run.{Run}
use Rattle.ostore_cli.specs.FreshRuns.{fresh_bounds, any_given_up}
use Rattle.ostore_cli.specs.Promise.{IsReportOf, plain_tail}
use Rattle.ostore_cli.specs.inside.Runs.{IsRunAlone}
use Rattle.ostore_cli.proofs.ResultLaws.{JobEnds, job_ends, all_stand}

-- ---- the transactions of a job, by their ordinals

and_then_map : {A B C : Type 0} (f : B → Option C) (v : A → B) (o : Option A) → option_and_then f (option_map v o) ≡ option_and_then (λ x. f (v x)) o
and_then_map f v None = refl
and_then_map f v (Some x) = refl

txn_at_suc : (input : TryInput) (j i : ℕ) → txn_at (script_of input) j (suc i) ≡ option_and_then (λ client. slice_get client.txns i) (slice_get input.job.clients j)
txn_at_suc input j i =
    let less : suc i - 1 ≡ i = omega arith in
    let there : txn_at (script_of input) j (suc i) ≡ option_and_then (λ txns. slice_get txns i) (slice_get (map (λ client. client.txns) input.job.clients) j) = rw (eqb-suc-zero i, less) refl in
    there ∙ ap (λ (o : Option (List Txn)). option_and_then (λ txns. slice_get txns i) o) (slice_get-map (λ (client : JobClient). client.txns) input.job.clients j)
    ∙ and_then_map (λ (txns : List Txn). slice_get txns i) (λ (client : JobClient). client.txns) (slice_get input.job.clients j)

everyone : (input : TryInput) (results : List (List TxnResult)) → JobEnds input.job.clients results → AllCommitted (script_of input) (committed_of results)
everyone input results ends client zero txn there kept = absurd cc
everyone input results ends client (suc i) txn there kept =
    let ordinal : 1 + i ≡ suc i = omega arith in
    subst (λ (n : ℕ). HasCommitted client n (committed_of results)) ordinal
    (all_stand 0 input.job.clients results ends.aborted ends.at_once client i txn (sym (txn_at_suc input client i) ∙ there) kept client (omega arith))

-- ---- the report

-- what is printed of a job that ran alone is its report
pub report_of : (text : List ℕ) (input : TryInput) (turns : List JobTurn) (run : Run) (tail : Tail) (output : List ℕ) (given_up : Bool) → Says text input
    → IsRunAlone input.schema (record { clients = input.job.clients; turns = turns }) run
    → tail ≡ record { disk_fault_after = run.tail.disk_fault_after; commits = run.tail.commits; fetches = None }
    → output ≡ report (record { clients = input.job.clients; turns = turns }) run.results tail → given_up ≡ any_given_up run.results → IsReportOf text output given_up
report_of text input turns run tail output given_up says is tail_is printed told =
    let last_lines : tail ≡ plain_tail (length (updates (committed_of run.results))) = tail_is ∙ (λ i. record { disk_fault_after = is.faultless i; commits = is.commits i; fetches = None }) in
    record {
      input = input;
      says = says;
      results = run.results;
      last = is.last;
      ran = is.ran;
      told = sym told;
      everyone = λ none. everyone input run.results (job_ends (fresh_bounds (script_of input)) input.job.clients run.results is.ran.ends (sym told ∙ none));
      printed = printed ∙ ap (λ (t : Tail). report input.job run.results t) last_lines;
    }
