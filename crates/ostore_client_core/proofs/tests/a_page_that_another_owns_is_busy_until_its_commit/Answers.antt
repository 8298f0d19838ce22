use Rattle.std.proofs.Common.{rules, ◌≡◌, ◌<◌, ℕ, List, length, refl, sym, ap, subst, ◌∙◌, arith}
use Rattle.ostore_base.specs.declared.numbers.ClientNo.{ClientNo}
use Rattle.ostore_base.specs.declared.page.PageImage.{PageImage}
use Rattle.ostore_page_service.specs.Holding.{IsEmpty}
use Rattle.ostore_page_service.specs.Servers.{side_of, opened_of, Serves}
use Rattle.ostore_page_service.specs.Told.{Undisturbed}
use Rattle.ostore_client_core.specs.Clients.{ClientView, IsAbsent}
use Rattle.ostore_client_core.proofs.StayLaws.{stays_absent}
use Rattle.ostore_client_core.proofs.TestLaws.{fresh_named, fresh_script, nothing_held, nothing_there, own_there, owned_fits, running_there, undisturbed_at}
use Rattle.ostore_client_core.proofs.tests.a_page_that_another_owns_is_busy_until_its_commit.Given.{Over}
use Rattle.ostore_client_core.proofs.tests.a_page_that_another_owns_is_busy_until_its_commit.Goals.{After-as_client-readers, After-as_client-owners_again}
use Rattle.ostore_client_core.proofs.tests.a_page_that_another_owns_is_busy_until_its_commit.Goals as goal

pub fresh_is_own-requires-clause-script : goal.fresh_is_own-requires-clause-script
fresh_is_own-requires-clause-script g c =
    let s = c.as_client-owners in
    fresh_script (λ t is. subst (λ x. Serves x t) (sym s.ensures.same) (c.in_ok-server.ensures.served t is)) (ap (λ (v : ClientView). v.schema) c.in_ok-owner.ensures.made)

pub fresh_is_own-requires-clause-nothing : goal.fresh_is_own-requires-clause-nothing
fresh_is_own-requires-clause-nothing g c =
    let s = c.as_client-owners in
    nothing_held (subst (λ (n : ClientNo). IsEmpty (side_of s.result.server.now n.0)) (sym s.ensures.client) (subst (λ x. IsEmpty (side_of x 0)) (sym s.ensures.same) (c.in_ok-server.ensures.empty 0)))

-- ---- the reader, after the owner's attempt

readers_are : (g : Over) (c : After-as_client-readers g) → c.as_client-readers.result.server.now ≡ c.own_alone.new.service.server.now
readers_are g c = search (rules, c.own_alone.ensures.same.service.behind, c.as_client-owners.ensures.same_reference, c.as_client-readers.ensures.same)

owners_again_are : (g : Over) (c : After-as_client-owners_again g) → c.as_client-owners_again.result.server.now ≡ c.visit.new.service.server.now
owners_again_are g c = search (rules, c.visit.ensures.same.service.behind, c.as_client-readers.ensures.same_reference, c.as_client-owners_again.ensures.same)

pub fresh_is_own-requires-2-clause-script : goal.fresh_is_own-requires-2-clause-script
fresh_is_own-requires-2-clause-script g c =
    let s = c.as_client-owners in
    let r : c.as_client-readers.result.server.now ≡ c.own_alone.new.service.server.now = search rules in
    fresh_script (λ t is. subst (λ x. Serves x t) (sym r) (c.own_alone.ensures.served t (subst (λ x. Serves x t) (sym s.ensures.same) (c.in_ok-server.ensures.served t is)))) (ap (λ (v : ClientView). v.schema) c.in_ok-reader.ensures.made)

pub fresh_is_own-requires-2-clause-nothing : goal.fresh_is_own-requires-2-clause-nothing
fresh_is_own-requires-2-clause-nothing g c = λ page.
    let s = c.as_client-owners in
    let r : c.as_client-readers.result.server.now ≡ c.own_alone.new.service.server.now = search rules in
    let is : s.result.seat.client.0 ≡ 0 = ap (λ (n : ClientNo). n.0) s.ensures.client in
    let before : IsEmpty (side_of s.result.server.now 1) = subst (λ x. IsEmpty (side_of x 1)) (sym s.ensures.same) (c.in_ok-server.ensures.empty 1) in
    let left = c.own_alone.ensures.same.service.others 1 (omega arith) (λ e. absurd (omega (arith, e, is))) in
    let after = stays_absent left (nothing_held before page) in
    subst (λ (n : ClientNo). IsAbsent (side_of c.as_client-readers.result.server.now n.0) page) (sym c.as_client-readers.ensures.client) (subst (λ x. IsAbsent (side_of x 1) page) (sym r) after)

-- ---- the owner, after the reader's attempt

pub finish-requires-clause-runs : goal.finish-requires-clause-runs
finish-requires-clause-runs g c =
    let r : c.as_client-readers.result.server.now ≡ c.own_alone.new.service.server.now = readers_are g (goal.at.finish-requires-clause-runs g c).After-as_client-readers in
    let a : c.as_client-owners_again.result.server.now ≡ c.visit.new.service.server.now = owners_again_are g (goal.at.finish-requires-clause-runs g c).After-as_client-owners_again in
    let was : c.own_alone.new.service.seat.client.0 ≡ 0 = c.own_alone.ensures.same.service.client ∙ ap (λ (n : ClientNo). n.0) c.as_client-owners.ensures.client in
    let is : c.as_client-owners_again.result.seat.client.0 ≡ 0 = ap (λ (n : ClientNo). n.0) c.as_client-owners_again.ensures.client in
    let mine : Undisturbed (side_of c.own_alone.new.service.server.now c.own_alone.new.service.seat.client.0) (side_of c.as_client-owners_again.result.server.now c.as_client-owners_again.result.seat.client.0) =
    undisturbed_at c.own_alone.new.service.server.now c.as_client-readers.result.server.now c.visit.new.service.server.now c.as_client-owners_again.result.server.now r a 0 1 was is
    (ap (λ (n : ClientNo). n.0) c.as_client-readers.ensures.client) (omega arith) (λ e. absurd (omega (arith, e))) c.visit.ensures.same.service.others in
    let opened : opened_of c.as_client-owners_again.result.server.now ≡ opened_of c.own_alone.new.service.server.now = ap (λ x. opened_of x) a ∙ c.visit.ensures.same.service.opened ∙ ap (λ x. opened_of x) r in
    running_there c.in_ok-own_alone.ensures.runs (is ∙ sym was) opened mine
    (fresh_script (λ t is. subst (λ x. Serves x t) (sym a) (c.visit.ensures.served t (subst (λ x. Serves x t) (sym r) (c.own_alone.ensures.served t (subst (λ x. Serves x t) (sym c.as_client-owners.ensures.same) (c.in_ok-server.ensures.served t is))))))
    (c.own_alone.ensures.same_client.schema ∙ ap (λ (v : ClientView). v.schema) c.in_ok-owner.ensures.made))

pub finish-requires-clause-room : goal.finish-requires-clause-room
finish-requires-clause-room g c =
    let r : c.as_client-readers.result.server.now ≡ c.own_alone.new.service.server.now = readers_are g (goal.at.finish-requires-clause-room g c).After-as_client-readers in
    let a : c.as_client-owners_again.result.server.now ≡ c.visit.new.service.server.now = owners_again_are g (goal.at.finish-requires-clause-room g c).After-as_client-owners_again in
    let was : c.own_alone.new.service.seat.client.0 ≡ 0 = c.own_alone.ensures.same.service.client ∙ ap (λ (n : ClientNo). n.0) c.as_client-owners.ensures.client in
    let is : c.as_client-owners_again.result.seat.client.0 ≡ 0 = ap (λ (n : ClientNo). n.0) c.as_client-owners_again.ensures.client in
    let mine : Undisturbed (side_of c.own_alone.new.service.server.now c.own_alone.new.service.seat.client.0) (side_of c.as_client-owners_again.result.server.now c.as_client-owners_again.result.seat.client.0) =
    undisturbed_at c.own_alone.new.service.server.now c.as_client-readers.result.server.now c.visit.new.service.server.now c.as_client-owners_again.result.server.now r a 0 1 was is
    (ap (λ (n : ClientNo). n.0) c.as_client-readers.ensures.client) (omega arith) (λ e. absurd (omega (arith, e))) c.visit.ensures.same.service.others in
    subst (λ (n : ℕ). 0 < n) (sym mine.room) c.in_ok-own_alone.ensures.room

pub finish-requires-clause-fits : goal.finish-requires-clause-fits
finish-requires-clause-fits g c =
    let r : c.as_client-readers.result.server.now ≡ c.own_alone.new.service.server.now = readers_are g (goal.at.finish-requires-clause-fits g c).After-as_client-readers in
    let a : c.as_client-owners_again.result.server.now ≡ c.visit.new.service.server.now = owners_again_are g (goal.at.finish-requires-clause-fits g c).After-as_client-owners_again in
    let was : c.own_alone.new.service.seat.client.0 ≡ 0 = c.own_alone.ensures.same.service.client ∙ ap (λ (n : ClientNo). n.0) c.as_client-owners.ensures.client in
    let is : c.as_client-owners_again.result.seat.client.0 ≡ 0 = ap (λ (n : ClientNo). n.0) c.as_client-owners_again.ensures.client in
    let mine : Undisturbed (side_of c.own_alone.new.service.server.now c.own_alone.new.service.seat.client.0) (side_of c.as_client-owners_again.result.server.now c.as_client-owners_again.result.seat.client.0) =
    undisturbed_at c.own_alone.new.service.server.now c.as_client-readers.result.server.now c.visit.new.service.server.now c.as_client-owners_again.result.server.now r a 0 1 was is
    (ap (λ (n : ClientNo). n.0) c.as_client-readers.ensures.client) (omega arith) (λ e. absurd (omega (arith, e))) c.visit.ensures.same.service.others in
    let opened : opened_of c.as_client-owners_again.result.server.now ≡ opened_of c.own_alone.new.service.server.now = ap (λ x. opened_of x) a ∙ c.visit.ensures.same.service.opened ∙ ap (λ x. opened_of x) r in
    let s = c.as_client-owners in
    let empty : IsEmpty (side_of s.result.server.now s.result.seat.client.0) = subst (λ (n : ClientNo). IsEmpty (side_of s.result.server.now n.0)) (sym s.ensures.client) (subst (λ x. IsEmpty (side_of x 0)) (sym s.ensures.same) (c.in_ok-server.ensures.empty 0)) in
    let named = fresh_named _ refl refl (λ t is. subst (λ x. Serves x t) (sym a) (c.visit.ensures.served t (subst (λ x. Serves x t) (sym r) (c.own_alone.ensures.served t (subst (λ x. Serves x t) (sym c.as_client-owners.ensures.same) (c.in_ok-server.ensures.served t is))))))
    (c.own_alone.ensures.same_client.schema ∙ ap (λ (v : ClientView). v.schema) c.in_ok-owner.ensures.made) in
    owned_fits _ _ _ named.0 _ named.1 named.2 (sym is) (mine.records ∙ c.own_alone.ensures.same.records ∙ empty.records) c.new-3.ensures refl named.3
    (nothing_there c.in_ok-own_alone.ensures.runs c.in_ok-own_alone.ensures.nothing (is ∙ sym was) opened mine (named.0, named.1, named.2))

-- ---- the reader, after the owner's commit

pub visit-requires-2-clause-own : goal.visit-requires-2-clause-own
visit-requires-2-clause-own g c =
    let a : c.as_client-owners_again.result.server.now ≡ c.visit.new.service.server.now = owners_again_are g (goal.at.visit-requires-2-clause-own g c).After-as_client-owners_again in
    let q : c.as_client-readers_again.result.server.now ≡ c.finish.new.service.server.now = search (rules, c.in_ok-number.ensures.done.service.behind, c.as_client-owners_again.ensures.same_reference, c.as_client-readers_again.ensures.same) in
    let script = c.finish.ensures.own.script in
    let owners : c.finish.new.self.schema ≡ c.in_ok-schema.schema = c.finish.ensures.same_client.schema ∙ c.own_alone.ensures.same_client.schema ∙ ap (λ (v : ClientView). v.schema) c.in_ok-owner.ensures.made in
    let readers : c.visit.new.client.schema ≡ c.in_ok-schema.schema = c.visit.ensures.same_client.schema ∙ ap (λ (v : ClientView). v.schema) c.in_ok-reader.ensures.made in
    let was : c.visit.new.service.seat.client.0 ≡ 1 = c.visit.ensures.same.service.client ∙ ap (λ (n : ClientNo). n.0) c.as_client-readers.ensures.client in
    let is : c.as_client-readers_again.result.seat.client.0 ≡ 1 = ap (λ (n : ClientNo). n.0) c.as_client-readers_again.ensures.client in
    let mine : Undisturbed (side_of c.visit.new.service.server.now c.visit.new.service.seat.client.0) (side_of c.as_client-readers_again.result.server.now c.as_client-readers_again.result.seat.client.0) =
    undisturbed_at c.visit.new.service.server.now c.as_client-owners_again.result.server.now c.finish.new.service.server.now c.as_client-readers_again.result.server.now a q 1 0 was is
    (ap (λ (n : ClientNo). n.0) c.as_client-owners_again.ensures.client) (omega arith) (λ e. absurd (omega (arith, e))) c.in_ok-number.ensures.done.service.others in
    own_there c.visit.ensures.own (is ∙ sym was) (ap (λ x. opened_of x) q ∙ c.in_ok-number.ensures.done.service.opened ∙ ap (λ x. opened_of x) a) mine
    (script.0, subst (λ x. Serves x script.0) (sym q) script.1, script.2 ∙ owners ∙ sym readers)

pub visit-requires-2-clause-known : goal.visit-requires-2-clause-known
visit-requires-2-clause-known g c =
    let r : c.as_client-readers.result.server.now ≡ c.own_alone.new.service.server.now = readers_are g (goal.at.visit-requires-2-clause-known g c).After-as_client-readers in
    let a : c.as_client-owners_again.result.server.now ≡ c.visit.new.service.server.now = owners_again_are g (goal.at.visit-requires-2-clause-known g c).After-as_client-owners_again in
    let q : c.as_client-readers_again.result.server.now ≡ c.finish.new.service.server.now = search (rules, c.in_ok-number.ensures.done.service.behind, c.as_client-owners_again.ensures.same_reference, c.as_client-readers_again.ensures.same) in
    let chain : opened_of c.as_client-readers_again.result.server.now ≡ opened_of c.in_ok-server.server = ap (λ x. opened_of x) q ∙ c.in_ok-number.ensures.done.service.opened ∙ ap (λ x. opened_of x) a ∙ c.visit.ensures.same.service.opened
    ∙ ap (λ x. opened_of x) r ∙ c.own_alone.ensures.same.service.opened ∙ ap (λ x. opened_of x) c.as_client-owners.ensures.same in
    let pages = c.in_ok-server.ensures.pages in
    let long : length (opened_of c.as_client-readers_again.result.server.now) ≡ length (opened_of c.in_ok-server.server) = ap (λ (l : List PageImage). length l) chain in
    omega arith
