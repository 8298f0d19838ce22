use Rattle.ostore_client_access.proofs.MadeLaws.{fits, fits_named}
use Rattle.ostore_client_access.proofs.executing.made_fits.Goals as goal

pub returns-clause-fits : goal.returns-clause-fits
returns-clause-fits g c = fits (g.S.PageClaims.serves c.args.service.now) (g.S.PageClaims.tells c.args.service.now) c.args.client.now c.args.txn.now c.args.entry.now c.requires.made c.requires.entry

pub returns-clause-named : goal.returns-clause-named
returns-clause-named g c = fits_named (g.S.PageClaims.serves c.args.service.now) (g.S.PageClaims.tells c.args.service.now) c.args.client.now c.args.txn.now c.args.entry.now c.requires.made c.requires.entry
