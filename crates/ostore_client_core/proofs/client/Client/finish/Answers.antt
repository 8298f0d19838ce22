use Rattle.std.proofs.Common.{Bool, [], sym, subst, ◌∙◌, arith}
use Rattle.ostore_page_service.specs.Told.{Numbers}
use Rattle.ostore_client_core.specs.declared.release.Ending.TheVariants.{Committed}
use Rattle.ostore_client_core.specs.Clients.{stored_image}
use Rattle.ostore_client_core.specs.Commits.{WritesOwned}
use Rattle.ostore_client_core.proofs.CommitLaws.{fits}
use Rattle.ostore_client_core.proofs.OwnLaws.{ended, same_with}
use Rattle.ostore_client_core.proofs.FinishLaws.{none_written, own_mid, ends_mid, finishes, serves_still}
use Rattle.ostore_client_core.proofs.client.Client.finish.Goals as goal

pub commit_read-number-requires-clause-fits : goal.commit_read-number-requires-clause-fits
commit_read-number-requires-clause-fits g c = (
  c.requires.fits.script,
  c.requires.fits.served,
  fits (g.S.PageClaims.serves c.args.service.now) (g.S.PageClaims.tells c.args.service.now) c.args.self.now c.requires.runs [] (none_written c.args.self.now (c.requires.fits.fits.reads c.if-entry.false)) c.requires.fits.script c.args.entry c.requires.fits.schema c.requires.fits.fits,
)

pub returns-clause-own : goal.returns-clause-own
returns-clause-own g c =
    let serves = g.S.PageClaims.serves c.args.service.now in
    let told = g.S.PageClaims.tells c.args.service.now in
    let middle = g.S.PageClaims.serves c.commit_read-number.new.self in
    let mid = g.S.PageClaims.tells c.commit_read-number.new.self in
    let client = c.args.self.now in
    let none : WritesOwned client [] = none_written client (c.requires.fits.fits.reads c.if-entry.false) in
    let e = c.release_used.ensures in
    let own = own_mid serves middle told mid client c.args.entry c.commit_read-number.result [] c.requires.runs c.requires.fits none c.commit_read-number.ensures.added c.commit_read-number.ensures.served in
    let ends = ends_mid serves middle told mid client c.args.entry c.commit_read-number.result [] c.requires.runs c.requires.fits none c.commit_read-number.ensures.added c.commit_read-number.ensures.served in
    let long = e.long in
    let short = own.short in
    ended middle (g.S.PageClaims.serves c.release_used.new.service) mid (g.S.PageClaims.tells c.release_used.new.service) client c.release_used.new.self Committed _
    own e.served e.same.service e.released.pages e.images (e.ends (stored_image client) ends) (omega arith) e.first

pub returns-clause-done : goal.returns-clause-done
returns-clause-done g c =
    let told = g.S.PageClaims.tells c.args.service.now in
    let mid = g.S.PageClaims.tells c.commit_read-number.new.self in
    let none : WritesOwned c.args.self.now [] = none_written c.args.self.now (c.requires.fits.fits.reads c.if-entry.false) in
    finishes (g.S.PageClaims.serves c.args.service.now) (g.S.PageClaims.serves c.commit_read-number.new.self) told mid c.args.self.now c.args.entry c.commit_read-number.result [] c.requires.runs c.requires.fits none c.commit_read-number.ensures.added c.commit_read-number.ensures.served
    (g.S.PageClaims.tells c.release_used.new.service) (subst (λ (b : Bool). Numbers b told mid c.commit_read-number.result) (sym c.if-entry.false) c.commit_read-number.ensures.numbered) c.release_used.ensures.same c.release_used.ensures.calm

pub returns-clause-served : goal.returns-clause-served
returns-clause-served g c =
    let none : WritesOwned c.args.self.now [] = none_written c.args.self.now (c.requires.fits.fits.reads c.if-entry.false) in
    serves_still (g.S.PageClaims.serves c.args.service.now) (g.S.PageClaims.serves c.commit_read-number.new.self) (g.S.PageClaims.tells c.args.service.now) (g.S.PageClaims.tells c.commit_read-number.new.self) c.args.self.now c.args.entry c.commit_read-number.result [] c.requires.runs c.requires.fits none c.commit_read-number.ensures.added c.commit_read-number.ensures.served
    (g.S.PageClaims.serves c.release_used.new.service) c.release_used.ensures.served

pub returns-clause-same_client : goal.returns-clause-same_client
returns-clause-same_client g c = same_with c.release_used.ensures.released.pages

pub returns-clause-answered : goal.returns-clause-answered
returns-clause-answered g c = c.release_used.ensures.answered

pub returns-clause-copies : goal.returns-clause-copies
returns-clause-copies g c = λ page idle. c.release_used.ensures.copies page idle ∙ c.commit_read-number.ensures.added.kept page
