-- A job that ran on fresh pages, one client after the other, came to what is promised.
use Rattle.std.proofs.Common.{◌≡◌, ℕ, ◌+◌, ◌<◌, ◌≤◌, false, List, [], ◌∷◌, length, Result, Ok, Err, refl, ap, subst, ◌∙◌, arith}
use Rattle.std.specs.Prelude.{IfOk}
use Rattle.std.specs.List.{AllByRecursion}
use Rattle.std.proofs.lemmas.Bool.{false≢true}
use Rattle.std.proofs.lemmas.List.{length-append}
use Rattle.ostore_base.specs.declared.out_of_memory.OutOfMemory.{OutOfMemory}
use Rattle.ostore_base.specs.declared.page.PageImage.{PageImage}
use Rattle.ostore_page_tags.specs.declared.layout.TheConstants.{FIRST_OPEN_PAGE}
use Rattle.ostore_page_tags.specs.FreshPages.{plain_image, stored_schema, part_images, free_images, fresh_list}
use Rattle.ostore_page_tags.proofs.allocation.FreshPages.{length-part_images, length-free_images}
use Rattle.ostore_schema_layout.specs.declared.schema.Schema.{Schema}
use Rattle.ostore_schema_layout.specs.Spells.{Spells}
use Rattle.ostore_graph_model.specs.declared.commands.Script.{Script}
use Rattle.ostore_graph_model.specs.declared.commands.Txn.{Txn}
use Rattle.ostore_graph_model.specs.Graph.{Graph, empty_graph}
use Rattle.ostore_graph_model.specs.Growth.{script_growth}
use Rattle.ostore_graph_model.specs.History.{IsLegalHistory}
use Rattle.ostore_graph_model.specs.LawsOfFreshPages.{LawOfFreshPages}
use Rattle.ostore_graph_model.specs.LawsOfMeaning.{LawOfOneGraph}
use Rattle.ostore_graph_model.specs.StandsFor.{StandsFor}
use Rattle.ostore_job_text.specs.declared.job.Job.{Job}
use Rattle.ostore_job_text.specs.declared.job.JobClient.{JobClient}
use Rattle.ostore_job_text.specs.RunnableJobs.{CanRun}
use Rattle.ostore_run_report.specs.declared.results.Cause.{Cause}
use Rattle.ostore_run_report.specs.declared.results.Cause.TheVariants.{Busy, NoSpace, CacheFull, SpaceFull, Disk, Stopped}
use Rattle.ostore_run_report.specs.declared.results.Tail.{Tail}
use Rattle.ostore_run_report.specs.declared.results.TxnResult.{TxnResult}
use Rattle.ostore_run_report.specs.declared.results.TxnResult.TheVariants.{Commit, Read, Abort, GaveUp, NotRun}
use Rattle.ostore_run_report.specs.Results.{committed_of}
use Rattle.ostore_turns.specs.Alone.{ClientsRunAlone, WasAlone, AreOneAfterTheOther}
use Rattle.ostore_turns.specs.Bounds.{IsBounded, IsResultWithin, AreBounded}
use Rattle.ostore_turns.specs.RightResults.{IsRightResult, ResultsAreRight}
use Rattle.ostore_turns.specs.TurnResults.{AllByClient, AllByTxn}
use Rattle.ostore_graph_history.specs.Histories.{IsHistoryTo}
use Rattle.ostore_graph_history.specs.Space.{IsBelowScript}
use Rattle.ostore_client_turns.specs.declared.run.Run.{Run}
use Rattle.ostore_client_turns.specs.Runs.{bounds_of, first_moment, script_of}
use Rattle.ostore_cli.specs.FreshRuns.{all_pages, free_pages, used_pages, fresh_bounds, EndsAs, AllEnd}
use Rattle.ostore_cli.specs.inside.Runs.{IsFreshRun, IsRunAlone}
use Rattle.ostore_cli.proofs.FreshLaws.{fresh_frees}

-- ---- why a transaction is given up

fresh_long : (text : List ℕ) → length (fresh_list text all_pages) ≡ all_pages
unfolding fresh_list
fresh_long text =
    let parts = length-part_images (stored_schema text) 8 in
    let frees = length-free_images 1024 1014 in
    let all = length-append (plain_image 3 10 ∷ part_images (stored_schema text) 8) (plain_image 4 0 ∷ free_images 1024 1014) in
    omega (arith, parts, frees, all)

less : (a b c : ℕ) → a ≤ b → b < c → a < c
less a b c low high = omega (arith, low, high)

-- where all pages are free but the first ten, there is no data page
no_data : (cache free pages growth : ℕ) → free_pages ≤ free → pages ≡ all_pages → cache + FIRST_OPEN_PAGE + free < 2 + pages + growth → cache < 2 + growth
no_data cache free pages growth low all few = omega (arith, low, all, few)

module _ (script : Script) (text : List ℕ) (one : LawOfOneGraph) (stands : StandsFor script.schema (fresh_list text all_pages) empty_graph) where
  crowded_within : (cache : ℕ) → IsBelowScript script (fresh_list text all_pages) cache → cache < used_pages script
  crowded_within cache within =
      let same : within.graph ≡ empty_graph = one script.schema (fresh_list text all_pages) within.graph empty_graph within.stands stands in
      no_data cache (length within.free) (length (fresh_list text all_pages)) (script_growth empty_graph script)
      (fresh_frees text all_pages within.free (omega arith) (omega arith) within.has_free) (fresh_long text)
      (subst (λ (g : Graph). cache + FIRST_OPEN_PAGE + length within.free < 2 + length (fresh_list text all_pages) + script_growth g script) same within.below)

  -- a bound over the fresh list is the one that is promised
  cause_within : (client : JobClient) (cause : Cause) → IsBounded (bounds_of script (fresh_list text all_pages)) client cause → IsBounded (fresh_bounds script) client cause
  cause_within client (Busy page seen found) within = tt
  cause_within client (NoSpace segment need) within =
      let same : within.graph ≡ empty_graph = one script.schema (fresh_list text all_pages) within.graph empty_graph within.stands stands in
      let fewer : length within.free < script_growth empty_graph script = subst (λ (g : Graph). length within.free < script_growth g script) same within.lacks in
      less free_pages (length within.free) (script_growth empty_graph script) (fresh_frees text all_pages within.free (omega arith) (omega arith) within.has_free) fewer
  cause_within client (CacheFull used capacity) within = (within.0, within.1, subst (λ (n : ℕ). client.cache < n) (fresh_long text) within.2, crowded_within client.cache within.3)
  cause_within client (SpaceFull frames) within = (within.0, subst (λ (n : ℕ). client.frames < n) (fresh_long text) within.1)
  cause_within client Disk within = within
  cause_within client (Stopped after) within = within

  -- ---- how each transaction ended

  ends_as : (client : JobClient) (txn : Txn) (result : TxnResult) → IsRightResult false client txn result → WasAlone result → IsResultWithin (bounds_of script (fresh_list text all_pages)) client result → EndsAs (fresh_bounds script) client txn result
  ends_as client txn (Commit number tries replies) right alone within = (alone, right.0, right.1)
  ends_as client txn (Read number tries replies) right alone within = (alone, right.0, right.1)
  ends_as client txn (Abort tries) right alone within = (alone, right.0)
  ends_as client txn (GaveUp tries cause) right alone within = (alone.0, alone.1, cause_within client cause within, right.1)
  ends_as client txn NotRun right alone within = absurd (false≢true right)

  txns_end : (client : JobClient) (txns : List Txn) (results : List TxnResult) → AllByTxn (IsRightResult false client) txns results → AllByRecursion WasAlone results
      → AllByRecursion (IsResultWithin (bounds_of script (fresh_list text all_pages)) client) results → AllByTxn (EndsAs (fresh_bounds script) client) txns results
  txns_end client [] [] right alone within = tt
  txns_end client [] (result ∷ results) right alone within = absurd right
  txns_end client (txn ∷ txns) [] right alone within = absurd right
  txns_end client (txn ∷ txns) (result ∷ results) right alone within =
      (ends_as client txn result right.0 alone.0 within.0, txns_end client txns results right.1 alone.1 within.1)

  all_end : (clients : List JobClient) (results : List (List TxnResult)) → AllByClient (λ client mine. AllByTxn (IsRightResult false client) client.txns mine) clients results
      → AllByRecursion (AllByRecursion WasAlone) results → AreBounded (bounds_of script (fresh_list text all_pages)) clients results → AllEnd (fresh_bounds script) clients results
  all_end [] [] right alone within = tt
  all_end [] (mine ∷ others) right alone within = absurd right
  all_end (client ∷ clients) [] right alone within = absurd right
  all_end (client ∷ clients) (mine ∷ others) right alone within =
      (txns_end client client.txns mine right.0 alone.0 within.0, all_end clients others right.1 alone.1 within.1)

  -- the history begins with the empty graph
  legal : (results : List (List TxnResult)) (last : List PageImage) (history : IsHistoryTo script 0 (fresh_list text all_pages) (committed_of results) last) → IsLegalHistory script 0 empty_graph (committed_of results) history.last_graph
  legal results last history =
      subst (λ (g : Graph). IsLegalHistory script 0 g (committed_of results) history.last_graph)
      (one script.schema (fresh_list text all_pages) history.graph empty_graph history.opened_stands stands) history.legal

-- ---- the run

ran_alone : (text : List ℕ) (schema : Schema) (job : Job) (run : Run) → LawOfFreshPages → LawOfOneGraph → ResultsAreRight → ClientsRunAlone
    → Spells text schema → CanRun job → AreOneAfterTheOther job.clients job.turns → IsFreshRun text schema job run → IsRunAlone schema job run
ran_alone text schema job run fresh one right alone spelled can entries ran =
    let it = ran.is_run in
    let stands : StandsFor schema (fresh_list text all_pages) empty_graph = (fresh schema text all_pages spelled (omega arith) (omega arith)).1 in
    let lone = alone job (first_moment 0) it.after (record { results = run.results; disk_failed = false }) can entries (λ client. (refl, refl)) it.turns in
    let each = right job (first_moment 0) it.after (record { results = run.results; disk_failed = false }) can (λ client. (refl, refl)) it.turns in
    record {
      last = it.history.last_graph;
      ran = record {
        history = legal (script_of schema job) text one stands run.results ran.last it.history;
        serial = lone.serial;
        ends = all_end (script_of schema job) text one stands job.clients run.results each lone.alone it.bounded;
      };
      commits = ap (λ (t : Tail). t.commits) it.tail.tail_is ∙ it.number ∙ omega arith;
      faultless = ap (λ (t : Tail). t.disk_fault_after) it.tail.tail_is;
    }

pub run_ran_alone : (text : List ℕ) (schema : Schema) (job : Job) (result : Result Run OutOfMemory) → LawOfFreshPages → LawOfOneGraph → ResultsAreRight → ClientsRunAlone
    → Spells text schema → CanRun job → AreOneAfterTheOther job.clients job.turns → IfOk result (IsFreshRun text schema job) → IfOk result (IsRunAlone schema job)
run_ran_alone text schema job (Ok run) fresh one right alone spelled can entries ran = ran_alone text schema job run fresh one right alone spelled can entries ran
run_ran_alone text schema job (Err refused) fresh one right alone spelled can entries ran = tt
