use Rattle.std.proofs.Common.{arith}
use Rattle.ostore_client_core.specs.Clients.{stored_image}
use Rattle.ostore_client_core.specs.declared.release.Ending.TheVariants.{Aborted}
use Rattle.ostore_client_core.proofs.OwnLaws.{aborts, ended, same_with}
use Rattle.ostore_client_core.proofs.client.Client.abort.Goals as goal

pub returns-clause-own : goal.returns-clause-own
returns-clause-own g c =
    let own = c.requires.own in
    let e = c.release_used.ensures in
    let long = e.long in
    let short = own.short in
    ended (g.S.PageClaims.serves c.args.service.now) (g.S.PageClaims.serves c.release_used.new.service) (g.S.PageClaims.tells c.args.service.now) (g.S.PageClaims.tells c.release_used.new.service) c.args.self.now c.release_used.new.self Aborted _
    own e.served e.same.service e.released.pages e.images (e.ends (stored_image c.args.self.now) (aborts (g.S.PageClaims.serves c.args.service.now) (g.S.PageClaims.tells c.args.service.now) c.args.self.now own)) (omega arith) e.first

pub returns-clause-same_client : goal.returns-clause-same_client
returns-clause-same_client g c = same_with c.release_used.ensures.released.pages

pub returns-clause-answered : goal.returns-clause-answered
returns-clause-answered g c = c.release_used.ensures.answered

pub returns-clause-copies : goal.returns-clause-copies
returns-clause-copies g c = c.release_used.ensures.copies
