use Rattle.std.proofs.Common.{drop, sym}
use Rattle.ostore_redo_journal.proofs.RoundTrips.{pages_counted}
use Rattle.ostore_redo_journal.proofs.record.Record.len.Goals as goal

pub returns-clause-len : goal.returns-clause-len
returns-clause-len c =
    let s = c.self.inside in
    rw (← c.self.view_is) (sym (pages_counted s.count (drop 21 s.bytes.items)))
