use Rattle.std.proofs.Common.{◌<◌, List, length, get_or, ap, arith}
use Rattle.ostore_job_text.specs.declared.job.JobClient.{JobClient}
use Rattle.ostore_client_turns.specs.inside.Stores.{StoreConstants}
use Rattle.ostore_client_turns.proofs.ExecuteLaws.{client_low, executed_ready, executed_turns, executed_within, may_execute_at, place_room, seat_index}
use Rattle.ostore_client_turns.proofs.store.StoreAttempts.execute.Goals as goal

pub index_mut-seat-requires : goal.index_mut-seat-requires
index_mut-seat-requires g c =
    let store = c.args.self.now in
    let within : c.from-number.result < length store.seats.now.items =
    seat_index g.D.Disk.faults store.server.now store.server.ghost_name store.schema.now store.job.now store.seats.now.items c.from-number.result c.args.client.0 c.args.txn.now c.from-number.ensures c.requires.ready.0 c.requires.next in
    omega arith

pub take_turn-requires-clause-number : goal.take_turn-requires-clause-number
take_turn-requires-clause-number g c =
    let store = c.args.self.now in
    client_low g.D.Disk.faults store.server.now store.server.ghost_name store.schema.now store.job.now store.seats.now.items c.from-number.result c.args.client.0 c.args.txn.now c.from-number.ensures c.requires.ready.0 c.requires.next

pub take_turn-requires-clause-room : goal.take_turn-requires-clause-room
take_turn-requires-clause-room g c =
    let store = c.args.self.now in
    place_room g.D.Disk.faults store.server.now store.server.ghost_name store.schema.now store.job.now store.seats.now.items c.from-number.result c.args.client.0 c.args.txn.now c.from-number.ensures c.requires.ready.0 c.requires.next
    c.index_mut-seat.result.now c.index_mut-seat.ensures.value c.args._at c.requires.place c.requires.room

pub take_turn-requires-clause-may : goal.take_turn-requires-clause-may
take_turn-requires-clause-may g c =
    let store = c.args.self.now in
    may_execute_at g.D.Disk.faults store.server.now store.server.ghost_name store.schema.now store.job.now store.seats.now.items c.from-number.result c.args.client.0 c.args.txn.now c.from-number.ensures c.requires.ready.0 c.requires.next
    c.index_mut-seat.result.now c.index_mut-seat.ensures.value

pub returns-clause-turns : goal.returns-clause-turns
returns-clause-turns g c =
    let store = c.args.self.now in
    executed_turns g.D.Disk.faults store.server.now store.server.ghost_name store.schema.now store.job.now store.seats.now.items c.from-number.result c.args.client.0 c.args.txn.now c.from-number.ensures c.requires.ready.0 c.requires.next
    c.index_mut-seat.result.now c.index_mut-seat.ensures.value (get_or c.items.result.now c.from-number.result c.index-items-number.result) c.index-items-number.result
    (ap (λ (xs : List JobClient). get_or xs c.from-number.result c.index-items-number.result) c.items.ensures) c.take_turn.new.server c.take_turn.ensures.opened c.take_turn.new.self c.take_turn.result c.take_turn.ensures.took

pub returns-clause-bounded : goal.returns-clause-bounded
returns-clause-bounded g c =
    let store = c.args.self.now in
    executed_within g.D.Disk.faults store.server.now store.server.ghost_name store.schema.now store.job.now store.seats.now.items c.from-number.result c.args.client.0 c.args.txn.now c.from-number.ensures c.requires.ready.0 c.requires.next
    c.index_mut-seat.result.now c.index_mut-seat.ensures.value (get_or c.items.result.now c.from-number.result c.index-items-number.result) c.index-items-number.result
    (ap (λ (xs : List JobClient). get_or xs c.from-number.result c.index-items-number.result) c.items.ensures) c.take_turn.new.server c.take_turn.ensures.opened c.take_turn.new.self c.space_is_lacked.ensures c.pages_are_few.ensures c.take_turn.result c.take_turn.ensures.took

pub returns-clause-ready : goal.returns-clause-ready
returns-clause-ready g c =
    let store = c.args.self.now in
    executed_ready g.D.Disk.faults store.server.now store.server.ghost_name store.schema.now store.job.now store.seats.now.items c.from-number.result c.args.client.0 c.args.txn.now c.from-number.ensures c.requires.ready.0 c.requires.next
    c.index_mut-seat.result.now c.index_mut-seat.ensures.value (get_or c.items.result.now c.from-number.result c.index-items-number.result) c.index-items-number.result
    (ap (λ (xs : List JobClient). get_or xs c.from-number.result c.index-items-number.result) c.items.ensures) c.take_turn.new.server c.take_turn.ensures.opened c.take_turn.new.self c.take_turn.result c.take_turn.ensures.took c.requires.ready.1

pub returns-clause-constants : goal.returns-clause-constants
returns-clause-constants g c =
    let store = c.args.self.now in
    let constants = λ (first : _) (opened : _). (let made : StoreConstants = record { behind = store.server.ghost_name; sits = store.seats.ghost_name; first = first; opened = opened; schema = store.schema.now; job = store.job.now } in made) in
    λ i. constants (c.take_turn.ensures.first i) (c.take_turn.ensures.opened i)
