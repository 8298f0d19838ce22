use Rattle.std.proofs.Common.{rules, ◌<◌, length, ap, sym, ◌∙◌, Some, arith}
use Rattle.std.proofs.lemmas.Option.{slice_get-get_or}
use Rattle.ostore_page_service.proofs.ServingLaws.{makes_room}
use Rattle.ostore_page_service.proofs.server.SeqServer.make_room.Goals as goal

pub returns-clause-made : goal.returns-clause-made
returns-clause-made g c =
    let records = c.args.self.now.records.items in
    let n = c.args.client.0 in
    let old = c.index_mut.result.now in
    let low : n < length records = search rules in
    let e = c.reserve.ensures in
    makes_room records n low c.reserve.new.self old (slice_get-get_or records n old low ∙ ap (λ v. Some v) (sym c.index_mut.ensures.value)) e.items (omega (arith, e.len, e.capacity))

pub returns-in_err-reserve-clause-made : goal.returns-in_err-reserve-clause-made
returns-in_err-reserve-clause-made g c =
    let records = c.args.self.now.records.items in
    let n = c.args.client.0 in
    let old = c.index_mut.result.now in
    let low : n < length records = search rules in
    let e = c.reserve.ensures in
    makes_room records n low c.reserve.new.self old (slice_get-get_or records n old low ∙ ap (λ v. Some v) (sym c.index_mut.ensures.value)) e.items (omega (arith, e.len, e.capacity))
