use Rattle.std.proofs.Common.{true, sym, ◌/◌}
use Rattle.std.proofs.lemmas.Bool.{false≢true}
use Rattle.ostore_client_access.specs.inside.Passing.{passes_then, fails_then}
use Rattle.ostore_client_access.proofs.PassLaws.{narrows_then, passes_any, fails_any, own_fails}
use Rattle.ostore_client_access.proofs.ViewLaws.{brings_owned, own_moves}
use Rattle.ostore_address_space.specs.Frames.{page_in}
use Rattle.ostore_client_access.proofs.OwnLaws.{owns_owned}
use Rattle.ostore_client_access.proofs.puts.own_page.Goals as goal

pub returns-in-Ok-own-clause-narrows : goal.returns-in-Ok-own-clause-narrows
returns-in-Ok-own-clause-narrows g c = narrows_then (g.S.PageClaims.serves c.args.service.now) (g.S.PageClaims.serves c.enter_page.new.service) (g.S.PageClaims.serves c.own.new.service) (g.S.PageClaims.tells c.args.service.now) (g.S.PageClaims.tells c.enter_page.new.service)
    (g.S.PageClaims.tells c.own.new.service) c.args.client.now c.enter_page.new.client c.own.new.self c.in-Ok.ensures.narrows c.in-Ok-own.ensures.narrows

pub returns-in-Ok-own-clause-passes : goal.returns-in-Ok-own-clause-passes
returns-in-Ok-own-clause-passes g c = passes_then true (g.S.PageClaims.serves c.args.service.now) (g.S.PageClaims.serves c.enter_page.new.service) (g.S.PageClaims.serves c.own.new.service) (g.S.PageClaims.tells c.args.service.now) (g.S.PageClaims.tells c.enter_page.new.service)
    (g.S.PageClaims.tells c.own.new.service) c.args.client.now c.enter_page.new.client c.own.new.self (passes_any true (g.S.PageClaims.serves c.args.service.now) (g.S.PageClaims.serves c.enter_page.new.service) (g.S.PageClaims.tells c.args.service.now) (g.S.PageClaims.tells c.enter_page.new.service) c.args.client.now c.enter_page.new.client c.in-Ok.ensures.passes)
    (record { same = c.in-Ok-own.ensures.same; served = c.in-Ok-own.ensures.served; calm = c.in-Ok-own.ensures.calm; client = c.in-Ok-own.ensures.same_client; owned = λ reads. absurd (false≢true (sym reads)) })

pub returns-in-Err-clause-fails : goal.returns-in-Err-clause-fails
returns-in-Err-clause-fails g c = fails_any true c.in-Err.fault (g.S.PageClaims.serves c.args.service.now) (g.S.PageClaims.serves c.enter_page.new.service) (g.S.PageClaims.tells c.args.service.now) (g.S.PageClaims.tells c.enter_page.new.service) c.args.client.now c.enter_page.new.client c.in-Err.ensures.fails

pub returns-in-Err-own-clause-fails : goal.returns-in-Err-own-clause-fails
returns-in-Err-own-clause-fails g c = fails_then true (g.S.PageClaims.serves c.args.service.now) (g.S.PageClaims.serves c.enter_page.new.service) (g.S.PageClaims.serves c.own.new.service) (g.S.PageClaims.tells c.args.service.now) (g.S.PageClaims.tells c.enter_page.new.service)
    (g.S.PageClaims.tells c.own.new.service) c.args.client.now c.enter_page.new.client c.own.new.self c.in-Err-own.fault (passes_any true (g.S.PageClaims.serves c.args.service.now) (g.S.PageClaims.serves c.enter_page.new.service) (g.S.PageClaims.tells c.args.service.now) (g.S.PageClaims.tells c.enter_page.new.service) c.args.client.now c.enter_page.new.client c.in-Ok.ensures.passes)
    (own_fails (g.S.PageClaims.serves c.enter_page.new.service) (g.S.PageClaims.serves c.own.new.service) (g.S.PageClaims.tells c.enter_page.new.service) (g.S.PageClaims.tells c.own.new.service) c.in-Err-own.fault c.enter_page.new.client c.own.new.self c.args.page (c.in-Ok.address / 4096)
    c.in-Ok.ensures.address.leads c.in-Err-own.ensures.refused c.in-Err-own.ensures.own c.in-Err-own.ensures.same c.in-Err-own.ensures.served c.in-Err-own.ensures.same_client)

pub returns-in-Ok-own-clause-brings : goal.returns-in-Ok-own-clause-brings
returns-in-Ok-own-clause-brings g c = brings_owned c.args.client.now c.enter_page.new.client c.own.new.self c.args.page (page_in c.enter_page.new.client.frames.pages (c.in-Ok.address / 4096)) c.in-Ok.ensures.address.leads c.in-Ok.ensures.brings c.in-Ok-own.ensures.owned

pub returns-in-Err-own-clause-stays : goal.returns-in-Err-own-clause-stays
returns-in-Err-own-clause-stays g c = λ stays. absurd (own_moves c.in-Err-own.fault (g.S.PageClaims.tells c.enter_page.new.service) (g.S.PageClaims.tells c.own.new.service) c.enter_page.new.client c.own.new.self c.args.page (page_in c.enter_page.new.client.frames.pages (c.in-Ok.address / 4096)) c.in-Ok.ensures.address.leads c.in-Err-own.ensures.refused stays)

pub returns-in-Ok-own-clause-owns : goal.returns-in-Ok-own-clause-owns
returns-in-Ok-own-clause-owns g c = owns_owned c.args.client.now c.enter_page.new.client c.own.new.self c.args.page (page_in c.enter_page.new.client.frames.pages (c.in-Ok.address / 4096)) c.in-Ok.ensures.address.leads c.in-Ok.ensures.owns c.in-Ok-own.ensures.owned
