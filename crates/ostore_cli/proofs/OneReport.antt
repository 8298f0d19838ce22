-- Two reports of one text are equal, where no transaction was given up.
use Rattle.std.proofs.Common.{◌≡◌, length, map, sym, ap, subst, ◌∙◌}
use Rattle.ostore_graph_model.specs.History.{IsLegalHistory, updates}
use Rattle.ostore_graph_model.specs.Graph.{empty_graph}
use Rattle.ostore_graph_model.proofs.SerialHistories.{serial_is_one}
use Rattle.ostore_try_input.specs.declared.input.TryInput.{TryInput}
use Rattle.ostore_run_report.specs.Report.{report}
use Rattle.ostore_run_report.specs.Results.{committed_of}
use Rattle.ostore_try_input.specs.Scripts.{script_of}
use Rattle.ostore_try_input.proofs.InputSaid.{says_one}
use Rattle.ostore_cli.specs.FreshRuns.{fresh_bounds}
use Rattle.ostore_cli.specs.Promise.{plain_tail}
use Rattle.ostore_cli.specs.LawsOfReports.{LawOfOneReport}
use Rattle.ostore_cli.proofs.ResultLaws.{JobEnds, job_ends, same_names, same_results, was_aborted}

-- ---- an input has one report

pub one_report : LawOfOneReport
one_report text output other a b =
    let same : a.input ≡ b.input = says_one text a.input b.input a.says b.says in
    let mine : JobEnds a.input.job.clients a.results = job_ends (fresh_bounds (script_of a.input)) a.input.job.clients a.results a.ran.ends a.told in
    let theirs : JobEnds b.input.job.clients b.results = job_ends (fresh_bounds (script_of b.input)) b.input.job.clients b.results b.ran.ends b.told in
    let aborted : map (map was_aborted) a.results ≡ map (map was_aborted) b.results =
    mine.aborted ∙ ap (λ (input : TryInput). map (λ client. map (λ txn. txn.aborts) client.txns) input.job.clients) same ∙ sym theirs.aborted in
    let committed = serial_is_one (script_of a.input) 0 empty_graph a.last b.last (committed_of a.results) (committed_of b.results) a.ran.history
    (subst (λ (input : TryInput). IsLegalHistory (script_of input) 0 empty_graph (committed_of b.results) b.last) (sym same) b.ran.history) a.ran.serial b.ran.serial
    (same_names 0 a.results b.results aborted mine.at_once theirs.at_once) in
    let results : a.results ≡ b.results = same_results a.results b.results aborted mine.at_once theirs.at_once committed.0 in
    a.printed ∙ (λ i. report (same i).job (results i) (plain_tail (length (updates (committed_of (results i)))))) ∙ sym b.printed
