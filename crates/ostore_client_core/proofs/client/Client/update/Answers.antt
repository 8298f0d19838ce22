use Rattle.std.proofs.Common.{◌≡◌, Bool, true, ℕ, false, sym, ap, subst, ◌∙◌, arith}
use Rattle.ostore_client_cache.specs.Entries.{is_in_use}
use Rattle.ostore_page_service.specs.Told.{Numbers}
use Rattle.ostore_client_core.specs.declared.release.Ending.TheVariants.{Committed}
use Rattle.ostore_client_core.specs.Clients.{ClientView, entry_of, stored_image, IsOwn}
use Rattle.ostore_client_core.specs.Retaining.{IsReleased}
use Rattle.ostore_client_core.specs.Calls.{SameClient}
use Rattle.ostore_client_core.specs.inside.Releasing.{EndsWith}
use Rattle.ostore_client_core.proofs.CommitLaws.{fits}
use Rattle.ostore_client_core.proofs.OwnLaws.{ended, same_with}
use Rattle.ostore_client_core.proofs.GoesLaws.{own_still}
use Rattle.ostore_client_core.proofs.FinishLaws.{owned_are_fit, own_mid, ends_mid, finishes, serves_still}
use Rattle.ostore_client_core.proofs.client.Client.update.Goals as goal

pub draft-requires-clause-fit : goal.draft-requires-clause-fit
draft-requires-clause-fit g c =
    owned_are_fit (g.S.PageClaims.serves c.args.service.now) (g.S.PageClaims.tells c.args.service.now) c.args.self.now c.args.entry c.requires.runs c.requires.fits c.requires.updates

pub commit-requires-clause-fits : goal.commit-requires-clause-fits
commit-requires-clause-fits g c = (
  c.requires.fits.script,
  c.requires.fits.served,
  fits (g.S.PageClaims.serves c.args.service.now) (g.S.PageClaims.tells c.args.service.now) c.args.self.now c.requires.runs c.in-Ok.rec.pages c.in-Ok.ensures.writes c.requires.fits.script c.args.entry c.requires.fits.schema c.requires.fits.fits,
)

pub returns-in-Ok-commit-clause-own : goal.returns-in-Ok-commit-clause-own
returns-in-Ok-commit-clause-own g c =
    let serves = g.S.PageClaims.serves c.args.service.now in
    let told = g.S.PageClaims.tells c.args.service.now in
    let middle = g.S.PageClaims.serves c.commit.new.self in
    let mid = g.S.PageClaims.tells c.commit.new.self in
    let client = c.args.self.now in
    let same = c.draft.ensures.same in
    let e = c.release_used.ensures in
    let own = own_mid serves middle told mid client c.args.entry c.in-Ok-commit.number c.in-Ok.rec.pages c.requires.runs c.requires.fits c.in-Ok.ensures.writes c.in-Ok-commit.ensures.added c.in-Ok-commit.ensures.served in
    let ends = ends_mid serves middle told mid client c.args.entry c.in-Ok-commit.number c.in-Ok.rec.pages c.requires.runs c.requires.fits c.in-Ok.ensures.writes c.in-Ok-commit.ensures.added c.in-Ok-commit.ensures.served in
    let own_now = subst (λ (v : ClientView). IsOwn middle mid v) (sym same) own in
    let ends_now = subst (λ (v : ClientView). EndsWith Committed (stored_image v) mid.mine v.pages) (sym same) ends in
    let long = e.long in
    let short = own_now.short in
    ended middle (g.S.PageClaims.serves c.release_used.new.service) mid (g.S.PageClaims.tells c.release_used.new.service) c.draft.new.self c.release_used.new.self Committed _
    own_now e.served e.same.service e.released.pages e.images (e.ends (stored_image c.draft.new.self) ends_now) (omega arith) e.first

pub returns-in-Ok-commit-clause-done : goal.returns-in-Ok-commit-clause-done
returns-in-Ok-commit-clause-done g c =
    let told = g.S.PageClaims.tells c.args.service.now in
    let mid = g.S.PageClaims.tells c.commit.new.self in
    finishes (g.S.PageClaims.serves c.args.service.now) (g.S.PageClaims.serves c.commit.new.self) told mid c.args.self.now c.args.entry c.in-Ok-commit.number c.in-Ok.rec.pages c.requires.runs c.requires.fits c.in-Ok.ensures.writes c.in-Ok-commit.ensures.added c.in-Ok-commit.ensures.served
    (g.S.PageClaims.tells c.release_used.new.service) (subst (λ (b : Bool). Numbers b told mid c.in-Ok-commit.number) (sym c.requires.updates) c.in-Ok-commit.ensures.numbered) c.release_used.ensures.same c.release_used.ensures.calm

pub returns-in-Ok-commit-clause-served : goal.returns-in-Ok-commit-clause-served
returns-in-Ok-commit-clause-served g c =
    serves_still (g.S.PageClaims.serves c.args.service.now) (g.S.PageClaims.serves c.commit.new.self) (g.S.PageClaims.tells c.args.service.now) (g.S.PageClaims.tells c.commit.new.self) c.args.self.now c.args.entry c.in-Ok-commit.number c.in-Ok.rec.pages c.requires.runs c.requires.fits c.in-Ok.ensures.writes c.in-Ok-commit.ensures.added c.in-Ok-commit.ensures.served
    (g.S.PageClaims.serves c.release_used.new.service) c.release_used.ensures.served

pub returns-in-Ok-commit-clause-same_client : goal.returns-in-Ok-commit-clause-same_client
returns-in-Ok-commit-clause-same_client g c = subst (λ (v : ClientView). SameClient v c.release_used.new.self) c.draft.ensures.same (same_with c.release_used.ensures.released.pages)

pub returns-clause-own : goal.returns-clause-own
returns-clause-own g c =
    let told = g.S.PageClaims.tells c.args.service.now in
    let later = g.S.PageClaims.serves c.commit.new.self in
    let now = g.S.PageClaims.tells c.commit.new.self in
    let e = c.in-Err.ensures in
    subst (λ (v : ClientView). IsOwn later now v) (sym c.draft.ensures.same)
    (own_still (g.S.PageClaims.serves c.args.service.now) later told now c.args.self.now c.requires.runs.own e.still e.failed.service e.failed.pages)

pub returns-in-Ok-commit-clause-answered : goal.returns-in-Ok-commit-clause-answered
returns-in-Ok-commit-clause-answered g c =
    subst (λ (v : ClientView). (page : ℕ) → is_in_use (entry_of v page) ≡ true → IsReleased g.S.PageClaims.releases false (g.S.PageClaims.tells c.release_used.new.service).mine page) c.draft.ensures.same c.release_used.ensures.answered

pub returns-in-Ok-commit-clause-copies : goal.returns-in-Ok-commit-clause-copies
returns-in-Ok-commit-clause-copies g c = λ page idle.
    c.release_used.ensures.copies page (ap (λ (v : ClientView). is_in_use (entry_of v page)) c.draft.ensures.same ∙ idle) ∙ c.in-Ok-commit.ensures.added.kept page

pub returns-clause-copies : goal.returns-clause-copies
returns-clause-copies g c = λ page idle. c.in-Err.ensures.failed.pages.kept page
