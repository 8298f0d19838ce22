use Rattle.std.proofs.Common.{subst}
use Rattle.ostore_address_space.specs.Frames.{ArePaired}
use Rattle.ostore_client_core.specs.Clients.{ClientView}
use Rattle.ostore_client_core.proofs.BeginLaws.{fresh_own}
use Rattle.ostore_client_core.proofs.client.Client.fresh_is_own.Goals as goal

pub returns : goal.returns
returns g c =
    fresh_own (g.S.PageClaims.serves c.args.service.now) (g.S.PageClaims.tells c.args.service.now) c.args.self.now c.requires.number c.requires.script c.requires.without c.requires.unframed c.requires.nothing
    (subst (λ (v : ClientView). ArePaired v.frames.pages) c.self.view_is c.frames_are_paired.ensures)
