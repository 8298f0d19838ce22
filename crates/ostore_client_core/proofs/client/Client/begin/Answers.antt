use Rattle.ostore_client_core.proofs.KeptLaws.{on_ok}
use Rattle.ostore_client_core.proofs.GoesLaws.{own_still}
use Rattle.ostore_client_core.proofs.BeginLaws.{begins}
use Rattle.ostore_client_core.proofs.client.Client.begin.Goals as goal

pub returns-clause-own : goal.returns-clause-own
returns-clause-own g c =
    own_still (g.S.PageClaims.serves c.args.service.now) (g.S.PageClaims.serves c.reserve.new.self) (g.S.PageClaims.tells c.args.service.now) (g.S.PageClaims.tells c.reserve.new.self) c.args.self.now c.requires.own c.reserve.ensures.served c.reserve.ensures.same.service c.reserve.ensures.pages

pub returns-clause-runs : goal.returns-clause-runs
returns-clause-runs g c =
    on_ok _ c.reserve.result
    (begins (g.S.PageClaims.serves c.args.service.now) (g.S.PageClaims.serves c.reserve.new.self) (g.S.PageClaims.tells c.args.service.now) (g.S.PageClaims.tells c.reserve.new.self) c.args.self.now c.requires.own c.requires.idle c.reserve.ensures.served c.reserve.ensures.same.service c.reserve.ensures.pages c.reserve.ensures.valid c.reserve.ensures.most)

pub returns-clause-copies : goal.returns-clause-copies
returns-clause-copies g c = λ page any. c.reserve.ensures.pages.kept page
