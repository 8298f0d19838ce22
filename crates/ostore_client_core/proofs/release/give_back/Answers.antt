use Rattle.ostore_client_core.proofs.RetainLaws.{given_up, dropped}
use Rattle.ostore_client_core.proofs.release.give_back.Goals as goal

pub returns-in-GivenUp-clause-answered : goal.returns-in-GivenUp-clause-answered
returns-in-GivenUp-clause-answered g c =
    given_up g.S.PageClaims.releases c.args.service.now c.release.new.self (g.S.PageClaims.tells c.args.service.now) (g.S.PageClaims.tells c.release.new.self) c.args.page.0 c.release.result c.release.ensures.exact c.release.ensures.released c.args.void c.in-GivenUp.is

pub returns-then-void-clause-answered : goal.returns-then-void-clause-answered
returns-then-void-clause-answered g c =
    dropped g.S.PageClaims.releases c.args.service.now c.release.new.self (g.S.PageClaims.tells c.args.service.now) (g.S.PageClaims.tells c.release.new.self) c.args.page.0 c.release.result c.release.ensures.exact c.release.ensures.released (g.S.PageClaims.tells c.drop_kept.new.self) c.args.void c.if-void.true c.drop_kept.ensures.dropped
