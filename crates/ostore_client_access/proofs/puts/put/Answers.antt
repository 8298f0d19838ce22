use Rattle.ostore_client_access.proofs.PassLaws.{puts_into}
use Rattle.ostore_client_access.proofs.puts.put.Goals as goal

pub returns-clause-puts : goal.returns-clause-puts
returns-clause-puts g c = puts_into (g.S.PageClaims.serves c.args.service.now) (g.S.PageClaims.serves c.own_page.new.service) (g.S.PageClaims.tells c.args.service.now) (g.S.PageClaims.tells c.own_page.new.service) c.args.client.now c.own_page.new.client c.store.new.self c.args.page.0 c.in-Ok.address c.args.at c.from.result c.args.bytes.now c.from.ensures
    c.in-Ok.ensures.narrows c.in-Ok.ensures.brings c.in-Ok.ensures.owns c.in-Ok.ensures.owned c.in-Ok.ensures.address c.requires.some c.store.ensures
