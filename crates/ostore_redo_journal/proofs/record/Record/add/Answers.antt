use Rattle.std.proofs.Common.{arith, ◌<◌, drop, subst, sym, ◌∙◌}
use Rattle.ostore_redo_journal.specs.Drafts.{Ascends}
use Rattle.ostore_redo_journal.specs.Records.{pages_of}
use Rattle.ostore_redo_journal.proofs.RoundTrips.{pages_counted}
use Rattle.ostore_redo_journal.proofs.Stored.{grown}
use Rattle.ostore_redo_journal.proofs.Ascending.{ascends_push}
use Rattle.ostore_redo_journal.proofs.record.Record.add.Goals as goal

pub add_page-requires : goal.add_page-requires
add_page-requires c =
    let s = c.self.inside in
    let h = c.self.invariant in
    let v = (rw (← c.self.view_is) at c.requires.room) in
    omega (arith, v, h.size, pages_counted s.count (drop 21 s.bytes.items))

pub invariant_of-self : goal.invariant_of-self
invariant_of-self c =
    let s = c.self.inside in
    let h = c.self.invariant in
    let v = (rw (← c.self.view_is) at c.requires.room) in
    let above = (rw (← c.self.view_is) at c.requires.above) in
    let below : s.count < s.room = omega (arith, v, pages_counted s.count (drop 21 s.bytes.items)) in
    let e = c.add_page.ensures in
    let same = grown s.count s.room s.bytes.items c.add_page.new.bytes.items c.args.page c.args.image.now h.size below e.small e.whole e.put in
    record {
      within = omega (arith, below);
      low = h.low;
      size = e.size ∙ h.size;
      ascends = subst Ascends (sym same) (ascends_push (pages_of s.count (drop 21 s.bytes.items)) c.args.page c.args.image.now h.ascends above);
    }

pub returns-clause-pages : goal.returns-clause-pages
returns-clause-pages c =
    let s = c.self.inside in
    let h = c.self.invariant in
    let v = (rw (← c.self.view_is) at c.requires.room) in
    let below : s.count < s.room = omega (arith, v, pages_counted s.count (drop 21 s.bytes.items)) in
    let e = c.add_page.ensures in
    rw (← c.self.view_is) (grown s.count s.room s.bytes.items c.add_page.new.bytes.items c.args.page c.args.image.now h.size below e.small e.whole e.put)
