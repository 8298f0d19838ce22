use Rattle.std.proofs.Common.{◌≡◌, ◌<◌, ◌∷◌, ◌++◌, [], List, length, ◌∙◌, sym, subst, ap, arith, rules, ℕ, ◌+◌}
use Rattle.ostore_client_turns.specs.declared.seat.Seat.{Seat}
use Rattle.ostore_client_turns.specs.inside.AtServer.{IsFreshAt}
use Rattle.ostore_client_turns.specs.inside.Seats.{view_of}
use Rattle.ostore_client_turns.proofs.StartLaws.{AreFreshUpTo, all_fresh, client_there, fresh_more, settings_there}
use Rattle.ostore_client_turns.proofs.seat.seats_of.Goals as goal

pub new-requires-clause-settings : goal.new-requires-clause-settings
new-requires-clause-settings g c =
    let within : c.loop-number.number < length c.items-client-items.result.now = omega arith in
    settings_there c.args.job.now.clients c.loop-number.number c.client-item.result c.requires.settings
    (client_there c.args.job.now.clients c.items-client-items.result.now c.loop-number.number c.client-item.result c.items-client-items.ensures within c.client-item.is)

pub loop-number-preserved : goal.loop-number-preserved
loop-number-preserved g c =
    let within : c.loop-number.number < length c.items-client-items.result.now = omega arith in
    let pushed : c.push.new.self.items ≡ c.loop-number.seats.items ++ c.in_ok-new.field-0 ∷ [] = search rules in
    let there = client_there c.args.job.now.clients c.items-client-items.result.now c.loop-number.number c.client-item.result c.items-client-items.ensures within c.client-item.is in
    record {
      server = c.new.ensures.same ∙ c.loop-number.invariant.server;
      items = c.items-client-items.ensures;
      fresh = subst (λ (items : List (Seat g.row.M.Denot)). AreFreshUpTo g.D.Disk.faults c.args.server.now c.args.schema.now c.args.job.now.clients (c.loop-number.number + 1) items) (sym pushed)
          (fresh_more g.D.Disk.faults c.args.server.now c.args.schema.now c.args.job.now.clients c.loop-number.number c.loop-number.seats.items c.in_ok-new.field-0 c.client-item.result there c.loop-number.invariant.fresh
          (subst (λ (server : _). IsFreshAt g.D.Disk.faults server c.loop-number.number c.args.schema.now c.client-item.result (view_of c.in_ok-new.field-0)) c.loop-number.invariant.server c.in_ok-new.ensures.fresh));
    }

pub returns-clause-seats : goal.returns-clause-seats
returns-clause-seats g c = all_fresh g.D.Disk.faults c.args.server.now c.args.schema.now c.args.job.now.clients c.loop-number.seats.items
    (subst (λ (n : ℕ). AreFreshUpTo g.D.Disk.faults c.args.server.now c.args.schema.now c.args.job.now.clients n c.loop-number.seats.items)
    (let same = ap length c.items-client-items.ensures in let e : c.loop-number.number ≡ length c.args.job.now.clients = omega arith in e) c.loop-number.invariant.fresh)

pub returns-clause-long : goal.returns-clause-long
returns-clause-long g c =
    let same = ap length c.items-client-items.ensures in
    let all = c.loop-number.invariant.fresh.long in
    omega arith
