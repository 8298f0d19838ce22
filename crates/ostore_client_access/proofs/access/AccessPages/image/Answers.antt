use Rattle.ostore_client_access.proofs.AccessLaws.{sees}
use Rattle.ostore_client_access.proofs.access.AccessPages.image.Goals as goal

pub returns : goal.returns
returns g c = λ base list may there.
    sees (g.S.PageClaims.serves c.args.self.now.service.now) (g.S.PageClaims.tells c.args.self.now.service.now) c.args.self.now.client.now c.args.page.0 c.in-Some.image.now base list may there c.requires c.in-Some.ensures
