use Rattle.ostore_client_access.proofs.LineLaws.{lines_made}
use Rattle.ostore_client_access.proofs.lines.lines_have_made.Goals as goal

pub returns : goal.returns
returns g c = lines_made (g.S.PageClaims.serves c.args.service.now) (g.S.PageClaims.tells c.args.service.now) c.args.client.now c.args.txn.now c.args.progress.now c.requires.lines c.requires.end
