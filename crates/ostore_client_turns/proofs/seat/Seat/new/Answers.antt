use Rattle.ostore_job_text.specs.LawfulJob.{cache, frames}
use Rattle.ostore_page_service.specs.Servers.{told_of, Serves}
use Rattle.ostore_client_turns.specs.inside.Stores.{SeatView}
use Rattle.ostore_client_turns.proofs.StartLaws.{fresh_seat}
use Rattle.ostore_client_turns.proofs.seat.Seat.new.Goals as goal

pub new-requires-clause-pages : goal.new-requires-clause-pages
new-requires-clause-pages g c = (c.requires.settings cache).1

pub new-requires-clause-frames : goal.new-requires-clause-frames
new-requires-clause-frames g c = (c.requires.settings frames).1

pub returns-clause-fresh : goal.returns-clause-fresh
returns-clause-fresh g c =
    let seat : SeatView = record { client = c.in_ok-pages.pages; attempt = c.new-2.result; place = c.first.result } in
    λ behind. fresh_seat (Serves c.args.server.now) (told_of behind g.D.Disk.faults c.args.number.0 c.args.server.now) c.args.schema.now c.args.client.now c.args.number seat
    (c.is_own_there.ensures.own behind) c.in_ok-pages.ensures.made c.new-2.ensures c.first.ensures c.requires.empty
