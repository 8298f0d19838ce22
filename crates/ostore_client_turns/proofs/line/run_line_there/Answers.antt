use Rattle.ostore_page_service.specs.Servers.{told_of, Serves}
use Rattle.ostore_transactions.specs.Attempts.{line_at}
use Rattle.ostore_client_turns.specs.inside.Seats.{view_of}
use Rattle.ostore_client_turns.specs.inside.Stores.{SeatView}
use Rattle.ostore_client_turns.proofs.LineLaws.{executed_there, first_kept, gives_line, name_kept, opened_kept}
use Rattle.ostore_client_turns.proofs.line.run_line_there.Goals as goal

pub run_line-requires-clause-own : goal.run_line-requires-clause-own
run_line-requires-clause-own g c = (c.requires.may c.args.service.now.server.ghost_name).own

pub run_line-requires-clause-at : goal.run_line-requires-clause-at
run_line-requires-clause-at g c = (c.requires.may c.args.service.now.server.ghost_name).at

pub run_line-requires-clause-txn : goal.run_line-requires-clause-txn
run_line-requires-clause-txn g c = (c.requires.may c.args.service.now.server.ghost_name).named

pub run_line-requires-clause-schema : goal.run_line-requires-clause-schema
run_line-requires-clause-schema g c = (c.requires.may c.args.service.now.server.ghost_name).of_schema

pub run_line-requires-clause-lawful : goal.run_line-requires-clause-lawful
run_line-requires-clause-lawful g c = (c.requires.may c.args.service.now.server.ghost_name).runs.lawful

pub run_line-requires-clause-ints : goal.run_line-requires-clause-ints
run_line-requires-clause-ints g c = (c.requires.may c.args.service.now.server.ghost_name).runs.ints

pub run_line-requires-clause-built : goal.run_line-requires-clause-built
run_line-requires-clause-built g c = (c.requires.may c.args.service.now.server.ghost_name).runs.built

pub returns-clause-executes : goal.returns-clause-executes
returns-clause-executes g c =
    let old = c.args.service.now in
    let new = c.run_line.new.service in
    let seat = view_of c.args.seat.now in
    let then : SeatView = record { client = c.run_line.new.client; attempt = c.run_line.new.attempt; place = c.args.seat.now.place } in
    executed_there g.D.Disk.faults old.server.now new.server.now old.server.ghost_name new.server.ghost_name old.seat.client.0 new.seat.client.0 c.args.txn.now c.args.ordinal seat then c.run_line.result
    (gives_line (Serves old.server.now) (Serves new.server.now) (told_of old.server.ghost_name g.D.Disk.faults old.seat.client.0 old.server.now) (told_of new.server.ghost_name g.D.Disk.faults new.seat.client.0 new.server.now)
    seat.client then.client c.args.txn.now (line_at seat.attempt) then.attempt c.args.ordinal c.run_line.result c.run_line.ensures.line c.run_line.ensures.failed)
    c.run_line.ensures.own c.run_line.ensures.at c.run_line.ensures.client

pub returns-clause-name : goal.returns-clause-name
returns-clause-name g c =
    let old = c.args.service.now in
    let new = c.run_line.new.service in
    let seat = view_of c.args.seat.now in
    let then : SeatView = record { client = c.run_line.new.client; attempt = c.run_line.new.attempt; place = c.args.seat.now.place } in
    name_kept g.D.Disk.faults old.server.now new.server.now old.server.ghost_name new.server.ghost_name old.seat.client.0 new.seat.client.0 c.args.txn.now c.args.ordinal seat then c.run_line.result
    (gives_line (Serves old.server.now) (Serves new.server.now) (told_of old.server.ghost_name g.D.Disk.faults old.seat.client.0 old.server.now) (told_of new.server.ghost_name g.D.Disk.faults new.seat.client.0 new.server.now)
    seat.client then.client c.args.txn.now (line_at seat.attempt) then.attempt c.args.ordinal c.run_line.result c.run_line.ensures.line c.run_line.ensures.failed)

pub returns-clause-first : goal.returns-clause-first
returns-clause-first g c =
    let old = c.args.service.now in
    let new = c.run_line.new.service in
    let seat = view_of c.args.seat.now in
    let then : SeatView = record { client = c.run_line.new.client; attempt = c.run_line.new.attempt; place = c.args.seat.now.place } in
    first_kept g.D.Disk.faults old.server.now new.server.now old.server.ghost_name new.server.ghost_name old.seat.client.0 new.seat.client.0 c.args.txn.now c.args.ordinal seat then c.run_line.result
    (gives_line (Serves old.server.now) (Serves new.server.now) (told_of old.server.ghost_name g.D.Disk.faults old.seat.client.0 old.server.now) (told_of new.server.ghost_name g.D.Disk.faults new.seat.client.0 new.server.now)
    seat.client then.client c.args.txn.now (line_at seat.attempt) then.attempt c.args.ordinal c.run_line.result c.run_line.ensures.line c.run_line.ensures.failed)

pub returns-clause-opened : goal.returns-clause-opened
returns-clause-opened g c =
    let old = c.args.service.now in
    let new = c.run_line.new.service in
    let seat = view_of c.args.seat.now in
    let then : SeatView = record { client = c.run_line.new.client; attempt = c.run_line.new.attempt; place = c.args.seat.now.place } in
    opened_kept g.D.Disk.faults old.server.now new.server.now old.server.ghost_name new.server.ghost_name old.seat.client.0 new.seat.client.0 c.args.txn.now c.args.ordinal seat then c.run_line.result
    (gives_line (Serves old.server.now) (Serves new.server.now) (told_of old.server.ghost_name g.D.Disk.faults old.seat.client.0 old.server.now) (told_of new.server.ghost_name g.D.Disk.faults new.seat.client.0 new.server.now)
    seat.client then.client c.args.txn.now (line_at seat.attempt) then.attempt c.args.ordinal c.run_line.result c.run_line.ensures.line c.run_line.ensures.failed)
