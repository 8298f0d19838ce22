use Rattle.std.proofs.Common.{subst, ◌∙◌}
use Rattle.ostore_schema_layout.specs.declared.schema.Schema.{Schema}
use Rattle.ostore_segments.specs.Holdings.{Stands}
use Rattle.ostore_graph_model.specs.Valid.{IsValid}
use Rattle.ostore_client_access.specs.Accesses.{access_held}
use Rattle.ostore_client_access.proofs.CrowdLaws.{idle_sees, begun_crowds, stop_crowds}
use Rattle.ostore_client_access.proofs.MadeLaws.{begins_valid, made_ok, lacks_begun, kind_passed, kind_stopped, client_kept, own_kept, space_lacks, may_change}
use Rattle.ostore_client_access.proofs.executing.execute_on.Goals as goal

pub run_transaction-done-requires-clause-stands : goal.run_transaction-done-requires-clause-stands
run_transaction-done-requires-clause-stands g c =
    subst (λ (s : Schema). Stands (access_held (g.S.PageClaims.serves c.args.access.now.service.now) (g.S.PageClaims.tells c.args.access.now.service.now) c.args.access.now.client.now) (IsValid s)) c.requires.schema
    (begins_valid (g.S.PageClaims.serves c.args.access.now.service.now) (g.S.PageClaims.tells c.args.access.now.service.now) c.args.access.now.client.now c.requires.runs c.requires.idle)

pub run_transaction-done-requires-clause-may : goal.run_transaction-done-requires-clause-may
run_transaction-done-requires-clause-may g c = may_change c.args.access.now.updates c.args.txn.now.update (g.S.PageClaims.tells c.args.access.now.service.now).may_write c.requires.kind c.requires.writer

pub returns-clause-passes : goal.returns-clause-passes
returns-clause-passes g c = kind_passed c.args.access.now.updates c.run_transaction-done.new.pages.updates c.args.txn.now.update (g.S.PageClaims.serves c.args.access.now.service.now) (g.S.PageClaims.serves c.run_transaction-done.new.pages.service.now) (g.S.PageClaims.tells c.args.access.now.service.now) (g.S.PageClaims.tells c.run_transaction-done.new.pages.service.now) c.args.access.now.client.now c.run_transaction-done.new.pages.client.now c.run_transaction-done.result c.requires.kind c.run_transaction-done.ensures.passes

pub returns-clause-stops : goal.returns-clause-stops
returns-clause-stops g c = kind_stopped c.args.access.now.updates c.run_transaction-done.new.pages.updates c.args.txn.now.update (g.S.PageClaims.serves c.args.access.now.service.now) (g.S.PageClaims.serves c.run_transaction-done.new.pages.service.now) (g.S.PageClaims.tells c.args.access.now.service.now) (g.S.PageClaims.tells c.run_transaction-done.new.pages.service.now) c.args.access.now.client.now c.run_transaction-done.new.pages.client.now c.run_transaction-done.result c.requires.kind c.run_transaction-done.ensures.stops

pub returns-clause-client : goal.returns-clause-client
returns-clause-client g c = client_kept c.args.access.now.updates c.run_transaction-done.new.pages.updates (g.S.PageClaims.serves c.args.access.now.service.now) (g.S.PageClaims.serves c.run_transaction-done.new.pages.service.now) (g.S.PageClaims.tells c.args.access.now.service.now) (g.S.PageClaims.tells c.run_transaction-done.new.pages.service.now) c.args.access.now.client.now c.run_transaction-done.new.pages.client.now c.run_transaction-done.result c.run_transaction-done.ensures.passes c.run_transaction-done.ensures.stops

pub returns-clause-own : goal.returns-clause-own
returns-clause-own g c = own_kept _ _ _ c.args.access.now.updates c.run_transaction-done.new.pages.updates (g.S.PageClaims.serves c.args.access.now.service.now) (g.S.PageClaims.serves c.run_transaction-done.new.pages.service.now) (g.S.PageClaims.tells c.args.access.now.service.now) (g.S.PageClaims.tells c.run_transaction-done.new.pages.service.now) c.args.access.now.client.now c.run_transaction-done.new.pages.client.now c.run_transaction-done.result c.run_transaction-done.ensures.lists c.run_transaction-done.ensures.stops c.run_transaction-done.ensures.space c.run_transaction-done.ensures.memory

pub returns-clause-made : goal.returns-clause-made
returns-clause-made g c = made_ok (g.S.PageClaims.serves c.args.access.now.service.now) (g.S.PageClaims.serves c.run_transaction-done.new.pages.service.now) (g.S.PageClaims.tells c.args.access.now.service.now) (g.S.PageClaims.tells c.run_transaction-done.new.pages.service.now) c.args.access.now.client.now c.run_transaction-done.new.pages.client.now c.args.schema.now c.args.txn.now c.run_transaction-done.result c.requires.idle
    ((client_kept c.args.access.now.updates c.run_transaction-done.new.pages.updates (g.S.PageClaims.serves c.args.access.now.service.now) (g.S.PageClaims.serves c.run_transaction-done.new.pages.service.now) (g.S.PageClaims.tells c.args.access.now.service.now) (g.S.PageClaims.tells c.run_transaction-done.new.pages.service.now) c.args.access.now.client.now c.run_transaction-done.new.pages.client.now c.run_transaction-done.result c.run_transaction-done.ensures.passes c.run_transaction-done.ensures.stops).schema ∙ c.requires.schema)
    (kind_passed c.args.access.now.updates c.run_transaction-done.new.pages.updates c.args.txn.now.update (g.S.PageClaims.serves c.args.access.now.service.now) (g.S.PageClaims.serves c.run_transaction-done.new.pages.service.now) (g.S.PageClaims.tells c.args.access.now.service.now) (g.S.PageClaims.tells c.run_transaction-done.new.pages.service.now) c.args.access.now.client.now c.run_transaction-done.new.pages.client.now c.run_transaction-done.result c.requires.kind c.run_transaction-done.ensures.passes)
    c.run_transaction-done.ensures.lists

pub returns-clause-space : goal.returns-clause-space
returns-clause-space g c = space_lacks _ (g.S.PageClaims.serves c.args.access.now.service.now) (g.S.PageClaims.serves c.run_transaction-done.new.pages.service.now) (g.S.PageClaims.tells c.args.access.now.service.now) (g.S.PageClaims.tells c.run_transaction-done.new.pages.service.now) c.args.access.now.client.now c.run_transaction-done.new.pages.client.now c.args.txn.now c.run_transaction-done.result (λ no. lacks_begun (g.S.PageClaims.serves c.args.access.now.service.now) (g.S.PageClaims.serves c.run_transaction-done.new.pages.service.now) (g.S.PageClaims.tells c.args.access.now.service.now) (g.S.PageClaims.tells c.run_transaction-done.new.pages.service.now) c.args.access.now.client.now c.run_transaction-done.new.pages.client.now c.args.txn.now c.requires.idle) c.run_transaction-done.ensures.space

pub returns-clause-crowds : goal.returns-clause-crowds
returns-clause-crowds g c = stop_crowds c.args.access.now.updates c.run_transaction-done.new.pages.updates (g.S.PageClaims.serves c.args.access.now.service.now) (g.S.PageClaims.serves c.run_transaction-done.new.pages.service.now) (g.S.PageClaims.tells c.args.access.now.service.now) (g.S.PageClaims.tells c.run_transaction-done.new.pages.service.now) c.args.access.now.client.now c.run_transaction-done.new.pages.client.now c.args.txn.now _ _ c.run_transaction-done.result
    (λ capacity. begun_crowds (g.S.PageClaims.serves c.args.access.now.service.now) (g.S.PageClaims.serves c.run_transaction-done.new.pages.service.now) (g.S.PageClaims.tells c.args.access.now.service.now) (g.S.PageClaims.tells c.run_transaction-done.new.pages.service.now) c.args.access.now.client.now c.run_transaction-done.new.pages.client.now c.args.txn.now capacity c.requires.idle c.pages_differ.ensures)
    c.run_transaction-done.ensures.stops (idle_sees (g.S.PageClaims.serves c.args.access.now.service.now) (g.S.PageClaims.tells c.args.access.now.service.now) c.args.access.now.client.now c.args.txn.now.update c.requires.idle) c.run_transaction-done.ensures.stays
