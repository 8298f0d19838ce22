use Rattle.std.proofs.Common.{refl, ap}
use Rattle.ostore_page_service.specs.Holding.{room_of}
use Rattle.ostore_page_service.proofs.HistoryLaws.{served_same}
use Rattle.ostore_page_service.proofs.server.claims.SeqServicePageClaims.reserve.Goals as goal

pub returns-clause-same : goal.returns-clause-same
returns-clause-same g c =
    let e = c.make_room.ensures in
    rw (e.first, e.opened, e.words, e.last, e.journal) (record {
      service = record {
        behind = refl;
        client = refl;
        may_write = refl;
        may_fail = refl;
        first = refl;
        opened = refl;
        tells_others = refl;
        others = λ d l ne. record { held = λ q. refl; owned = λ q. refl; kept = λ q image h. h; droppable = λ q. refl; records = e.made.same d; room = ap room_of (e.made.others d ne) };
      };
      records = e.made.same c.args.self.now.seat.client.0;
      room = e.made.more;
      faults = refl;
      number = refl;
      disk_faults = refl;
      writes = refl;
    })

pub returns-clause-served : goal.returns-clause-served
returns-clause-served g c = λ s served.
    let e = c.make_room.ensures in
    rw (e.first, e.opened, e.journal, e.last) (served_same g.K.Kind.meaning s served (λ d. e.made.same d))
