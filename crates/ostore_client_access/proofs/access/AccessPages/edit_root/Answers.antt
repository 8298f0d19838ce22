use Rattle.std.proofs.Common.{true}
use Rattle.ostore_client_access.proofs.AccessLaws.{stands_runs}
use Rattle.ostore_client_access.proofs.EditLaws.{ok_map}
use Rattle.ostore_client_access.proofs.RootWrites.{rooted}
use Rattle.ostore_client_access.proofs.PassLaws.{holder_updates, holder_writes, holder_passed, holder_failed}
use Rattle.ostore_page_tags.specs.declared.layout.TheConstants.{ROOTS_PAGE}
use Rattle.ostore_client_access.proofs.ViewLaws.{puts_view, holder_rests}
use Rattle.ostore_client_access.proofs.OwnLaws.{puts_owns}
use Rattle.ostore_client_access.proofs.access.AccessPages.edit_root.Goals as goal

pub returns-clause-lists : goal.returns-clause-lists
returns-clause-lists g c = ok_map _ _ c.put.result (rooted (g.S.PageClaims.serves c.args.self.now.service.now) (g.S.PageClaims.serves c.put.new.service) (g.S.PageClaims.tells c.args.self.now.service.now) (g.S.PageClaims.tells c.put.new.service)
    c.args.self.now.client.now c.put.new.client c.args.i c.args.name.now c.args.pointer _ c.root_row-row.ensures c.requires.there c.requires.row c.ranges.pointer.fits c.requires.leads (stands_runs _ _ _ c.requires.some)) c.put.ensures.puts

pub put-requires-clause-writer : goal.put-requires-clause-writer
put-requires-clause-writer g c = holder_writes _ _ c.requires.may

pub returns-clause-passes : goal.returns-clause-passes
returns-clause-passes g c = holder_passed c.args.self.now.updates (g.S.PageClaims.serves c.args.self.now.service.now) (g.S.PageClaims.serves c.put.new.service) (g.S.PageClaims.tells c.args.self.now.service.now) (g.S.PageClaims.tells c.put.new.service) c.args.self.now.client.now c.put.new.client c.put.result
    (holder_updates _ _ c.requires.may) c.put.ensures.passes

pub returns-clause-fails : goal.returns-clause-fails
returns-clause-fails g c = holder_failed c.args.self.now.updates (g.S.PageClaims.serves c.args.self.now.service.now) (g.S.PageClaims.serves c.put.new.service) (g.S.PageClaims.tells c.args.self.now.service.now) (g.S.PageClaims.tells c.put.new.service) c.args.self.now.client.now c.put.new.client c.put.result
    (holder_updates _ _ c.requires.may) c.put.ensures.fails

pub returns-clause-brings : goal.returns-clause-brings
returns-clause-brings g c = ok_map _ _ c.put.result (puts_view (g.S.PageClaims.serves c.args.self.now.service.now) (g.S.PageClaims.serves c.put.new.service) (g.S.PageClaims.tells c.args.self.now.service.now) (g.S.PageClaims.tells c.put.new.service) c.args.self.now.client.now c.put.new.client ROOTS_PAGE _ _ (stands_runs _ _ _ c.requires.some)) c.put.ensures.puts

pub returns-clause-stays : goal.returns-clause-stays
returns-clause-stays g c = holder_rests true (g.S.PageClaims.serves c.args.self.now.service.now) (g.S.PageClaims.serves c.put.new.service) (g.S.PageClaims.tells c.args.self.now.service.now) (g.S.PageClaims.tells c.put.new.service) c.args.self.now.client.now c.put.new.client c.put.result (stands_runs _ _ _ c.requires.some) c.put.ensures.fails c.put.ensures.stays

pub returns-clause-owns : goal.returns-clause-owns
returns-clause-owns g c = ok_map _ _ c.put.result (puts_owns (g.S.PageClaims.serves c.args.self.now.service.now) (g.S.PageClaims.serves c.put.new.service) (g.S.PageClaims.tells c.args.self.now.service.now) (g.S.PageClaims.tells c.put.new.service) c.args.self.now.client.now c.put.new.client ROOTS_PAGE _ _) c.put.ensures.puts
