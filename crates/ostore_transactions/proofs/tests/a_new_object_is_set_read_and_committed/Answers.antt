use Rattle.std.proofs.Common.{sym, ap, subst}
use Rattle.ostore_base.specs.declared.numbers.ClientNo.{ClientNo}
use Rattle.ostore_page_service.specs.Holding.{IsEmpty}
use Rattle.ostore_page_service.specs.Servers.{side_of, Serves}
use Rattle.ostore_client_core.specs.Clients.{ClientView}
use Rattle.ostore_client_core.proofs.TestLaws.{fresh_script, nothing_held}
use Rattle.ostore_client_access.proofs.TestLaws.{fresh_first}
use Rattle.ostore_transactions.proofs.tests.a_new_object_is_set_read_and_committed.Goals as goal

pub fresh_is_own-requires-clause-script : goal.fresh_is_own-requires-clause-script
fresh_is_own-requires-clause-script g c =
    let s = c.as_client-service in
    fresh_script (λ t is. subst (λ x. Serves x t) (sym s.ensures.same) (c.in_ok-server.ensures.served t is)) (ap (λ (v : ClientView). v.schema) c.in_ok-client.ensures.made)

pub fresh_is_own-requires-clause-nothing : goal.fresh_is_own-requires-clause-nothing
fresh_is_own-requires-clause-nothing g c =
    let s = c.as_client-service in
    nothing_held (subst (λ (n : ClientNo). IsEmpty (side_of s.result.server.now n.0)) (sym s.ensures.client) (subst (λ x. IsEmpty (side_of x 0)) (sym s.ensures.same) (c.in_ok-server.ensures.empty 0)))

pub commit_first-done-requires-clause-none : goal.commit_first-done-requires-clause-none
commit_first-done-requires-clause-none g c =
    let s = c.as_client-service in
    (subst (λ (n : ClientNo). IsEmpty (side_of s.result.server.now n.0)) (sym s.ensures.client) (subst (λ x. IsEmpty (side_of x 0)) (sym s.ensures.same) (c.in_ok-server.ensures.empty 0))).records

pub commit_first-done-requires-clause-script : goal.commit_first-done-requires-clause-script
commit_first-done-requires-clause-script g c =
    let s = c.as_client-service in
    fresh_first _ (λ t is. subst (λ x. Serves x t) (sym s.ensures.same) (c.in_ok-server.ensures.served t is)) (ap (λ (v : ClientView). v.schema) c.in_ok-client.ensures.made)
