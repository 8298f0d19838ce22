use Rattle.std.proofs.Common.{true, length, sym, ◌∙◌, arith}
use Rattle.std.proofs.lemmas.Bool.{eqb-true}
use Rattle.ostore_client_access.proofs.AccessLaws.{stands_runs, stands_range, becomes_none}
use Rattle.ostore_client_access.proofs.EditLaws.{edited, ok_map, some_bytes}
use Rattle.ostore_client_access.proofs.PassLaws.{holder_updates, holder_writes, holder_passed, holder_failed}
use Rattle.ostore_client_access.proofs.ViewLaws.{puts_view, holder_rests, brings_none}
use Rattle.ostore_segments.proofs.OwnLaws.{owns_nothing}
use Rattle.ostore_client_access.proofs.OwnLaws.{puts_owns}
use Rattle.ostore_client_access.proofs.access.AccessPages.edit.Goals as goal

pub returns-then-is_empty-clause-lists : goal.returns-then-is_empty-clause-lists
returns-then-is_empty-clause-lists g c = becomes_none (g.S.PageClaims.serves c.args.self.now.service.now) (g.S.PageClaims.tells c.args.self.now.service.now) c.args.self.now.client.now c.args.page.0 c.args.at c.args.bytes.now (eqb-true (length c.args.bytes.now) 0 (sym c.is_empty.ensures ∙ c.if-is_empty.true)) c.requires.puts

pub put-requires-clause-known : goal.put-requires-clause-known
put-requires-clause-known g c = stands_range (g.S.PageClaims.serves c.args.self.now.service.now) (g.S.PageClaims.tells c.args.self.now.service.now) c.args.self.now.client.now c.args.page.0 (λ list can. can.there) c.requires.puts

pub put-requires-clause-some : goal.put-requires-clause-some
put-requires-clause-some g c =
    let can = c.requires.puts.each c.requires.puts.some.0 c.requires.puts.some.1 c.requires.puts.some.2 in
    let rows = can.puts.rows in
    let some = some_bytes (length c.args.bytes.now) (sym c.is_empty.ensures ∙ c.if-is_empty.false) in
    omega arith

pub put-requires-clause-within : goal.put-requires-clause-within
put-requires-clause-within g c =
    let can = c.requires.puts.each c.requires.puts.some.0 c.requires.puts.some.1 c.requires.puts.some.2 in
    let rows = can.puts.rows in
    omega arith

pub returns-clause-lists : goal.returns-clause-lists
returns-clause-lists g c = ok_map _ _ c.put.result (edited (g.S.PageClaims.serves c.args.self.now.service.now) (g.S.PageClaims.serves c.put.new.service) (g.S.PageClaims.tells c.args.self.now.service.now) (g.S.PageClaims.tells c.put.new.service) _ _
    c.args.self.now.client.now c.put.new.client c.args.page.0 c.args.at c.args.bytes.now c.requires.puts) c.put.ensures.puts

pub put-requires-clause-writer : goal.put-requires-clause-writer
put-requires-clause-writer g c = holder_writes _ _ c.requires.may

pub returns-clause-passes : goal.returns-clause-passes
returns-clause-passes g c = holder_passed c.args.self.now.updates (g.S.PageClaims.serves c.args.self.now.service.now) (g.S.PageClaims.serves c.put.new.service) (g.S.PageClaims.tells c.args.self.now.service.now) (g.S.PageClaims.tells c.put.new.service) c.args.self.now.client.now c.put.new.client c.put.result
    (holder_updates _ _ c.requires.may) c.put.ensures.passes

pub returns-clause-fails : goal.returns-clause-fails
returns-clause-fails g c = holder_failed c.args.self.now.updates (g.S.PageClaims.serves c.args.self.now.service.now) (g.S.PageClaims.serves c.put.new.service) (g.S.PageClaims.tells c.args.self.now.service.now) (g.S.PageClaims.tells c.put.new.service) c.args.self.now.client.now c.put.new.client c.put.result
    (holder_updates _ _ c.requires.may) c.put.ensures.fails

pub returns-then-is_empty-clause-brings : goal.returns-then-is_empty-clause-brings
returns-then-is_empty-clause-brings g c = brings_none (g.S.PageClaims.serves c.args.self.now.service.now) (g.S.PageClaims.tells c.args.self.now.service.now) c.args.self.now.client.now c.args.page.0

pub returns-clause-brings : goal.returns-clause-brings
returns-clause-brings g c = ok_map _ _ c.put.result (puts_view (g.S.PageClaims.serves c.args.self.now.service.now) (g.S.PageClaims.serves c.put.new.service) (g.S.PageClaims.tells c.args.self.now.service.now) (g.S.PageClaims.tells c.put.new.service) c.args.self.now.client.now c.put.new.client c.args.page.0 c.args.at c.args.bytes.now (stands_runs _ _ _ c.requires.puts)) c.put.ensures.puts

pub returns-clause-stays : goal.returns-clause-stays
returns-clause-stays g c = holder_rests true (g.S.PageClaims.serves c.args.self.now.service.now) (g.S.PageClaims.serves c.put.new.service) (g.S.PageClaims.tells c.args.self.now.service.now) (g.S.PageClaims.tells c.put.new.service) c.args.self.now.client.now c.put.new.client c.put.result (stands_runs _ _ _ c.requires.puts) c.put.ensures.fails c.put.ensures.stays

pub returns-then-is_empty-clause-owns : goal.returns-then-is_empty-clause-owns
returns-then-is_empty-clause-owns g c = owns_nothing

pub returns-clause-owns : goal.returns-clause-owns
returns-clause-owns g c = ok_map _ _ c.put.result (puts_owns (g.S.PageClaims.serves c.args.self.now.service.now) (g.S.PageClaims.serves c.put.new.service) (g.S.PageClaims.tells c.args.self.now.service.now) (g.S.PageClaims.tells c.put.new.service) c.args.self.now.client.now c.put.new.client c.args.page.0 c.args.at c.args.bytes.now) c.put.ensures.puts
