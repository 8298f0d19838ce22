use Rattle.ostore_client_access.proofs.CrowdLaws.{stop_crowds}
use Rattle.ostore_client_access.proofs.LineLaws.{lines_stand, line_ok, line_adds, line_lacks, line_crowds, line_place, line_found, line_updates}
use Rattle.ostore_client_access.proofs.MadeLaws.{kind_passed, kind_stopped, client_kept, own_line, space_lacks, space_map, may_change}
use Rattle.ostore_client_access.proofs.lines.execute_line_on.Goals as goal

pub run_line-done-requires-clause-stands : goal.run_line-done-requires-clause-stands
run_line-done-requires-clause-stands g c = lines_stand (g.S.PageClaims.serves c.args.access.now.service.now) (g.S.PageClaims.tells c.args.access.now.service.now) c.args.access.now.client.now c.args.schema.now c.args.txn.now c.args.progress.now c.requires.schema c.requires.lines

pub run_line-done-requires-clause-may : goal.run_line-done-requires-clause-may
run_line-done-requires-clause-may g c = may_change c.args.access.now.updates c.args.txn.now.update (g.S.PageClaims.tells c.args.access.now.service.now).may_write c.requires.kind c.requires.writer

pub returns-clause-passes : goal.returns-clause-passes
returns-clause-passes g c = kind_passed c.args.access.now.updates c.run_line-done.new.pages.updates c.args.txn.now.update (g.S.PageClaims.serves c.args.access.now.service.now) (g.S.PageClaims.serves c.run_line-done.new.pages.service.now) (g.S.PageClaims.tells c.args.access.now.service.now) (g.S.PageClaims.tells c.run_line-done.new.pages.service.now) c.args.access.now.client.now c.run_line-done.new.pages.client.now c.run_line-done.result c.requires.kind c.run_line-done.ensures.passes

pub returns-clause-stops : goal.returns-clause-stops
returns-clause-stops g c = kind_stopped c.args.access.now.updates c.run_line-done.new.pages.updates c.args.txn.now.update (g.S.PageClaims.serves c.args.access.now.service.now) (g.S.PageClaims.serves c.run_line-done.new.pages.service.now) (g.S.PageClaims.tells c.args.access.now.service.now) (g.S.PageClaims.tells c.run_line-done.new.pages.service.now) c.args.access.now.client.now c.run_line-done.new.pages.client.now c.run_line-done.result c.requires.kind c.run_line-done.ensures.stops

pub returns-clause-client : goal.returns-clause-client
returns-clause-client g c = client_kept c.args.access.now.updates c.run_line-done.new.pages.updates (g.S.PageClaims.serves c.args.access.now.service.now) (g.S.PageClaims.serves c.run_line-done.new.pages.service.now) (g.S.PageClaims.tells c.args.access.now.service.now) (g.S.PageClaims.tells c.run_line-done.new.pages.service.now) c.args.access.now.client.now c.run_line-done.new.pages.client.now c.run_line-done.result c.run_line-done.ensures.passes c.run_line-done.ensures.stops

pub returns-clause-own : goal.returns-clause-own
returns-clause-own g c = own_line _ _ _ c.args.access.now.updates c.run_line-done.new.pages.updates (g.S.PageClaims.serves c.args.access.now.service.now) (g.S.PageClaims.serves c.run_line-done.new.pages.service.now) (g.S.PageClaims.tells c.args.access.now.service.now) (g.S.PageClaims.tells c.run_line-done.new.pages.service.now) c.args.access.now.client.now c.run_line-done.new.pages.client.now c.run_line-done.result c.run_line-done.ensures.lists c.run_line-done.ensures.stops c.run_line-done.ensures.space c.run_line-done.ensures.memory

pub returns-clause-lines : goal.returns-clause-lines
returns-clause-lines g c = line_ok (g.S.PageClaims.serves c.args.access.now.service.now) (g.S.PageClaims.serves c.run_line-done.new.pages.service.now) (g.S.PageClaims.tells c.args.access.now.service.now) (g.S.PageClaims.tells c.run_line-done.new.pages.service.now) c.args.access.now.client.now c.run_line-done.new.pages.client.now c.args.schema.now c.args.txn.now c.args.progress.now c.run_line-done.new.progress c.requires.schema c.requires.lines c.run_line-done.result (client_kept c.args.access.now.updates c.run_line-done.new.pages.updates (g.S.PageClaims.serves c.args.access.now.service.now) (g.S.PageClaims.serves c.run_line-done.new.pages.service.now) (g.S.PageClaims.tells c.args.access.now.service.now) (g.S.PageClaims.tells c.run_line-done.new.pages.service.now) c.args.access.now.client.now c.run_line-done.new.pages.client.now c.run_line-done.result c.run_line-done.ensures.passes c.run_line-done.ensures.stops).schema
    (kind_passed c.args.access.now.updates c.run_line-done.new.pages.updates c.args.txn.now.update (g.S.PageClaims.serves c.args.access.now.service.now) (g.S.PageClaims.serves c.run_line-done.new.pages.service.now) (g.S.PageClaims.tells c.args.access.now.service.now) (g.S.PageClaims.tells c.run_line-done.new.pages.service.now) c.args.access.now.client.now c.run_line-done.new.pages.client.now c.run_line-done.result c.requires.kind c.run_line-done.ensures.passes)
    c.run_line-done.ensures.lists c.run_line-done.ensures.sees

pub returns-clause-more : goal.returns-clause-more
returns-clause-more g c = line_adds (g.S.PageClaims.serves c.args.access.now.service.now) (g.S.PageClaims.serves c.run_line-done.new.pages.service.now) (g.S.PageClaims.tells c.args.access.now.service.now) (g.S.PageClaims.tells c.run_line-done.new.pages.service.now) c.args.access.now.client.now c.run_line-done.new.pages.client.now c.args.schema.now c.args.txn.now c.args.progress.now c.run_line-done.new.progress c.requires.schema c.requires.lines c.run_line-done.result c.run_line-done.ensures.lists

pub returns-clause-space : goal.returns-clause-space
returns-clause-space g c = space_lacks _ (g.S.PageClaims.serves c.args.access.now.service.now) (g.S.PageClaims.serves c.run_line-done.new.pages.service.now) (g.S.PageClaims.tells c.args.access.now.service.now) (g.S.PageClaims.tells c.run_line-done.new.pages.service.now) c.args.access.now.client.now c.run_line-done.new.pages.client.now c.args.txn.now c.run_line-done.result (λ no. line_lacks (g.S.PageClaims.serves c.args.access.now.service.now) (g.S.PageClaims.serves c.run_line-done.new.pages.service.now) (g.S.PageClaims.tells c.args.access.now.service.now) (g.S.PageClaims.tells c.run_line-done.new.pages.service.now) c.args.access.now.client.now c.run_line-done.new.pages.client.now c.args.schema.now c.args.txn.now c.args.progress.now c.run_line-done.new.progress c.requires.schema c.requires.lines no) c.run_line-done.ensures.space

pub returns-clause-crowds : goal.returns-clause-crowds
returns-clause-crowds g c = stop_crowds c.args.access.now.updates c.run_line-done.new.pages.updates (g.S.PageClaims.serves c.args.access.now.service.now) (g.S.PageClaims.serves c.run_line-done.new.pages.service.now) (g.S.PageClaims.tells c.args.access.now.service.now) (g.S.PageClaims.tells c.run_line-done.new.pages.service.now) c.args.access.now.client.now c.run_line-done.new.pages.client.now c.args.txn.now _ _ c.run_line-done.result
    (line_crowds (g.S.PageClaims.serves c.args.access.now.service.now) (g.S.PageClaims.serves c.run_line-done.new.pages.service.now) (g.S.PageClaims.tells c.args.access.now.service.now) (g.S.PageClaims.tells c.run_line-done.new.pages.service.now) c.args.access.now.client.now c.run_line-done.new.pages.client.now c.args.schema.now c.args.txn.now c.args.progress.now c.run_line-done.new.progress c.requires.schema c.requires.lines c.requires.left c.pages_differ.ensures)
    c.run_line-done.ensures.stops c.requires.lines.sees c.run_line-done.ensures.stays

pub returns-clause-place : goal.returns-clause-place
returns-clause-place g c = space_map _ _ c.run_line-done.result (line_place (g.S.PageClaims.serves c.args.access.now.service.now) (g.S.PageClaims.serves c.run_line-done.new.pages.service.now) (g.S.PageClaims.tells c.args.access.now.service.now) (g.S.PageClaims.tells c.run_line-done.new.pages.service.now) c.args.access.now.client.now c.run_line-done.new.pages.client.now c.args.schema.now c.args.txn.now c.args.progress.now c.run_line-done.new.progress c.requires.schema c.requires.lines (client_kept c.args.access.now.updates c.run_line-done.new.pages.updates (g.S.PageClaims.serves c.args.access.now.service.now) (g.S.PageClaims.serves c.run_line-done.new.pages.service.now) (g.S.PageClaims.tells c.args.access.now.service.now) (g.S.PageClaims.tells c.run_line-done.new.pages.service.now) c.args.access.now.client.now c.run_line-done.new.pages.client.now c.run_line-done.result c.run_line-done.ensures.passes c.run_line-done.ensures.stops).schema) c.run_line-done.ensures.space

pub returns-clause-updates : goal.returns-clause-updates
returns-clause-updates g c = space_map _ _ c.run_line-done.result (line_updates (g.S.PageClaims.serves c.args.access.now.service.now) (g.S.PageClaims.serves c.run_line-done.new.pages.service.now) (g.S.PageClaims.tells c.args.access.now.service.now) (g.S.PageClaims.tells c.run_line-done.new.pages.service.now) c.args.access.now.client.now c.run_line-done.new.pages.client.now c.args.schema.now c.args.txn.now c.args.progress.now c.run_line-done.new.progress c.requires.schema c.requires.lines) c.run_line-done.ensures.space

pub returns-clause-found : goal.returns-clause-found
returns-clause-found g c = space_map _ _ c.run_line-done.result (line_found (g.S.PageClaims.serves c.args.access.now.service.now) (g.S.PageClaims.serves c.run_line-done.new.pages.service.now) (g.S.PageClaims.tells c.args.access.now.service.now) (g.S.PageClaims.tells c.run_line-done.new.pages.service.now) c.args.access.now.client.now c.run_line-done.new.pages.client.now c.args.schema.now c.args.txn.now c.args.progress.now c.run_line-done.new.progress c.requires.schema c.requires.lines) c.run_line-done.ensures.space

pub returns-clause-brings : goal.returns-clause-brings
returns-clause-brings g c = c.run_line-done.ensures.brings

pub returns-clause-wants : goal.returns-clause-wants
returns-clause-wants g c = c.run_line-done.ensures.wants

pub returns-clause-owns : goal.returns-clause-owns
returns-clause-owns g c = c.run_line-done.ensures.owns
