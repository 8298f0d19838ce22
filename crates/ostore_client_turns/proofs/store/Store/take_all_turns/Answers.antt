use Rattle.std.proofs.Common.{length, ap}
use Rattle.ostore_client_turns.specs.inside.Seats.{seats_in}
use Rattle.ostore_client_turns.specs.inside.Stores.{StoreConstants}
use Rattle.ostore_client_turns.proofs.EndLaws.{ready_alone}
use Rattle.ostore_client_turns.proofs.store.Store.take_all_turns.Goals as goal

pub returns-clause-ready : goal.returns-clause-ready
returns-clause-ready g c =
    let old = c.args.self.now in
    let new = c.take_turns.new.store in
    ready_alone g.D.Disk.faults new.server.now (seats_in new.seats.now.items) (length new.seats.now.items) c.take_turns.result old.schema.now new.schema.now old.job.now new.job.now
    (ap (λ (k : StoreConstants). k.schema) c.take_turns.ensures.constants) (ap (λ (k : StoreConstants). k.job) c.take_turns.ensures.constants) c.take_turns.ensures.ready
