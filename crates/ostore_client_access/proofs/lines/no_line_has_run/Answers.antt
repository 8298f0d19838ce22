use Rattle.ostore_client_access.proofs.LineLaws.{no_line_ran}
use Rattle.ostore_client_access.proofs.lines.no_line_has_run.Goals as goal

pub returns : goal.returns
returns g c = no_line_ran (g.S.PageClaims.serves c.args.service.now) (g.S.PageClaims.tells c.args.service.now) c.args.client.now c.args.txn.now c.args.progress.now c.requires.runs c.requires.idle c.requires.replies c.requires.vars
