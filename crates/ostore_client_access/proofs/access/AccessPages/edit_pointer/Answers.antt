use Rattle.std.proofs.Common.{true, length, ap, ◌∙◌, arith}
use Rattle.byteorder.specs.Numbers.{length-bytes_low_first}
use Rattle.ostore_client_access.proofs.AccessLaws.{stands_runs, stands_range}
use Rattle.ostore_client_access.proofs.EditLaws.{pointed, ok_map}
use Rattle.ostore_client_access.proofs.PassLaws.{holder_updates, holder_writes, holder_passed, holder_failed}
use Rattle.ostore_client_access.proofs.ViewLaws.{puts_view, holder_rests}
use Rattle.ostore_client_access.proofs.OwnLaws.{puts_owns}
use Rattle.ostore_client_access.proofs.access.AccessPages.edit_pointer.Goals as goal

pub put-requires-clause-known : goal.put-requires-clause-known
put-requires-clause-known g c = stands_range (g.S.PageClaims.serves c.args.self.now.service.now) (g.S.PageClaims.tells c.args.self.now.service.now) c.args.self.now.client.now c.args.page.0 (λ list has. has.there) c.requires.there

pub put-requires-clause-some : goal.put-requires-clause-some
put-requires-clause-some g c =
    let has = c.requires.there.each c.requires.there.some.0 c.requires.there.some.1 c.requires.there.some.2 in
    let within = has.within in
    omega arith

pub put-requires-clause-within : goal.put-requires-clause-within
put-requires-clause-within g c =
    let has = c.requires.there.each c.requires.there.some.0 c.requires.there.some.1 c.requires.there.some.2 in
    let within = has.within in
    let long = ap (λ bytes. length bytes) c.to_le_bytes.ensures ∙ length-bytes_low_first 0 4 c.args.pointer in
    omega arith

pub returns-clause-lists : goal.returns-clause-lists
returns-clause-lists g c = ok_map _ _ c.put.result (pointed (g.S.PageClaims.serves c.args.self.now.service.now) (g.S.PageClaims.serves c.put.new.service) (g.S.PageClaims.tells c.args.self.now.service.now) (g.S.PageClaims.tells c.put.new.service) _ _
    c.args.self.now.client.now c.put.new.client c.args.page.0 c.args.at c.args.pointer _ c.to_le_bytes.ensures c.ranges.pointer.fits c.requires.leads c.requires.there) c.put.ensures.puts

pub put-requires-clause-writer : goal.put-requires-clause-writer
put-requires-clause-writer g c = holder_writes _ _ c.requires.may

pub returns-clause-passes : goal.returns-clause-passes
returns-clause-passes g c = holder_passed c.args.self.now.updates (g.S.PageClaims.serves c.args.self.now.service.now) (g.S.PageClaims.serves c.put.new.service) (g.S.PageClaims.tells c.args.self.now.service.now) (g.S.PageClaims.tells c.put.new.service) c.args.self.now.client.now c.put.new.client c.put.result
    (holder_updates _ _ c.requires.may) c.put.ensures.passes

pub returns-clause-fails : goal.returns-clause-fails
returns-clause-fails g c = holder_failed c.args.self.now.updates (g.S.PageClaims.serves c.args.self.now.service.now) (g.S.PageClaims.serves c.put.new.service) (g.S.PageClaims.tells c.args.self.now.service.now) (g.S.PageClaims.tells c.put.new.service) c.args.self.now.client.now c.put.new.client c.put.result
    (holder_updates _ _ c.requires.may) c.put.ensures.fails

pub returns-clause-brings : goal.returns-clause-brings
returns-clause-brings g c = ok_map _ _ c.put.result (puts_view (g.S.PageClaims.serves c.args.self.now.service.now) (g.S.PageClaims.serves c.put.new.service) (g.S.PageClaims.tells c.args.self.now.service.now) (g.S.PageClaims.tells c.put.new.service) c.args.self.now.client.now c.put.new.client c.args.page.0 c.args.at _ (stands_runs _ _ _ c.requires.there)) c.put.ensures.puts

pub returns-clause-stays : goal.returns-clause-stays
returns-clause-stays g c = holder_rests true (g.S.PageClaims.serves c.args.self.now.service.now) (g.S.PageClaims.serves c.put.new.service) (g.S.PageClaims.tells c.args.self.now.service.now) (g.S.PageClaims.tells c.put.new.service) c.args.self.now.client.now c.put.new.client c.put.result (stands_runs _ _ _ c.requires.there) c.put.ensures.fails c.put.ensures.stays

pub returns-clause-owns : goal.returns-clause-owns
returns-clause-owns g c = ok_map _ _ c.put.result (puts_owns (g.S.PageClaims.serves c.args.self.now.service.now) (g.S.PageClaims.serves c.put.new.service) (g.S.PageClaims.tells c.args.self.now.service.now) (g.S.PageClaims.tells c.put.new.service) c.args.self.now.client.now c.put.new.client c.args.page.0 c.args.at _) c.put.ensures.puts
