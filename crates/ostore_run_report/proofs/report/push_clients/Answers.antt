use Rattle.std.proofs.Common.{◌≡◌, length, List, [], ◌∷◌, refl, arith, append-nil}
use mathlib.Core.Logic.{inl, inr}
use Rattle.ostore_job_text.specs.declared.job.JobClient.{JobClient}
use Rattle.ostore_run_report.specs.declared.results.TxnResult.{TxnResult}
use Rattle.ostore_run_report.specs.Report.{clients_text}
use Rattle.ostore_run_report.proofs.report.push_clients.Goals as goal

clients_text-no_clients : (clients : List JobClient) (results : List (List TxnResult)) → length clients ≡ 0 → clients_text clients results ≡ []
clients_text-no_clients [] results none = refl
clients_text-no_clients (client ∷ clients) results none = absurd (omega arith)

clients_text-no_results : (clients : List JobClient) (results : List (List TxnResult)) → length results ≡ 0 → clients_text clients results ≡ []
clients_text-no_results [] results none = refl
clients_text-no_results (client ∷ clients) [] none = refl
clients_text-no_results (client ∷ clients) (first ∷ results) none = absurd (omega arith)

-- either list has ended, so that nothing is left to print
pub returns : goal.returns
returns c = elim c.in-None.ensures.steps [
  | inl none ↦ rw (clients_text-no_clients c.loop-client.client-iterator.a.rest.now c.loop-client.client-iterator.b.rest.now none.1.0, append-nil) at c.loop-client.invariant
  | inr none ↦ rw (clients_text-no_results c.loop-client.client-iterator.a.rest.now c.loop-client.client-iterator.b.rest.now none.1.0, append-nil) at c.loop-client.invariant
]
