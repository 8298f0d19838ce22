use Rattle.ostore_client_access.proofs.AccessLaws.{stands_runs, stands_range, becomes_narrows}
use Rattle.std.proofs.Common.{refl}
use Rattle.ostore_client_access.proofs.PassLaws.{passes_any, fails_any}
use Rattle.ostore_client_access.proofs.ViewLaws.{brings_view, rests}
use Rattle.ostore_client_access.proofs.OwnLaws.{enters_owns}
use Rattle.ostore_client_access.proofs.access.AccessPages.enter.Goals as goal

pub enter_page-requires-clause-known : goal.enter_page-requires-clause-known
enter_page-requires-clause-known g c = stands_range (g.S.PageClaims.serves c.args.self.now.service.now) (g.S.PageClaims.tells c.args.self.now.service.now) c.args.self.now.client.now c.args.page.0 (λ list below. below) c.requires

pub returns-in-Ok-clause-lists : goal.returns-in-Ok-clause-lists
returns-in-Ok-clause-lists g c =
    becomes_narrows (g.S.PageClaims.serves c.args.self.now.service.now) (g.S.PageClaims.serves c.enter_page.new.service) (g.S.PageClaims.tells c.args.self.now.service.now) (g.S.PageClaims.tells c.enter_page.new.service) c.args.self.now.client.now c.enter_page.new.client
    (stands_runs _ _ _ c.requires) c.in-Ok.ensures.narrows

pub returns-in-Ok-clause-passes : goal.returns-in-Ok-clause-passes
returns-in-Ok-clause-passes g c = (refl, passes_any c.args.self.now.updates (g.S.PageClaims.serves c.args.self.now.service.now) (g.S.PageClaims.serves c.enter_page.new.service) (g.S.PageClaims.tells c.args.self.now.service.now) (g.S.PageClaims.tells c.enter_page.new.service) c.args.self.now.client.now c.enter_page.new.client c.in-Ok.ensures.passes)

pub returns-in-Err-clause-fails : goal.returns-in-Err-clause-fails
returns-in-Err-clause-fails g c = (refl, fails_any c.args.self.now.updates c.in-Err.fault (g.S.PageClaims.serves c.args.self.now.service.now) (g.S.PageClaims.serves c.enter_page.new.service) (g.S.PageClaims.tells c.args.self.now.service.now) (g.S.PageClaims.tells c.enter_page.new.service) c.args.self.now.client.now c.enter_page.new.client c.in-Err.ensures.fails)

pub returns-in-Ok-clause-brings : goal.returns-in-Ok-clause-brings
returns-in-Ok-clause-brings g c = brings_view (g.S.PageClaims.serves c.args.self.now.service.now) (g.S.PageClaims.serves c.enter_page.new.service) (g.S.PageClaims.tells c.args.self.now.service.now) (g.S.PageClaims.tells c.enter_page.new.service) c.args.self.now.client.now c.enter_page.new.client c.args.page.0 (stands_runs _ _ _ c.requires) c.in-Ok.ensures.brings

pub returns-in-Err-clause-stays : goal.returns-in-Err-clause-stays
returns-in-Err-clause-stays g c = λ stays. rests (g.S.PageClaims.serves c.args.self.now.service.now) (g.S.PageClaims.serves c.enter_page.new.service) (g.S.PageClaims.tells c.args.self.now.service.now) (g.S.PageClaims.tells c.enter_page.new.service) c.args.self.now.client.now c.enter_page.new.client (stands_runs _ _ _ c.requires) c.in-Err.ensures.fails.own (c.in-Err.ensures.stays stays)

pub returns-in-Ok-clause-owns : goal.returns-in-Ok-clause-owns
returns-in-Ok-clause-owns g c = enters_owns (g.S.PageClaims.serves c.args.self.now.service.now) (g.S.PageClaims.serves c.enter_page.new.service) (g.S.PageClaims.tells c.args.self.now.service.now) (g.S.PageClaims.tells c.enter_page.new.service) c.args.self.now.client.now c.enter_page.new.client c.in-Ok.ensures.owns
