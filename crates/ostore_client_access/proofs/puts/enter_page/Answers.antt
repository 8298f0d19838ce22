use Rattle.ostore_client_access.proofs.PassLaws.{enter_fails}
use Rattle.ostore_client_access.proofs.ViewLaws.{enter_stays}
use Rattle.ostore_client_access.proofs.puts.enter_page.Goals as goal

pub returns-clause-stays : goal.returns-clause-stays
returns-clause-stays g c = enter_stays c.enter.result c.args.client.now c.enter.new.self c.args.page (g.S.PageClaims.tells c.args.service.now) (g.S.PageClaims.tells c.enter.new.service) c.enter.ensures.refused

pub returns-clause-fails : goal.returns-clause-fails
returns-clause-fails g c = enter_fails (g.S.PageClaims.serves c.args.service.now) (g.S.PageClaims.serves c.enter.new.service) (g.S.PageClaims.tells c.args.service.now) (g.S.PageClaims.tells c.enter.new.service) c.args.client.now c.enter.new.self c.args.page c.enter.result c.enter.ensures.refused c.enter.ensures.own c.enter.ensures.same c.enter.ensures.served c.enter.ensures.same_client c.enter.ensures.owned
