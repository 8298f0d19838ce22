use Rattle.std.proofs.Common.{arith, ◌+◌, ◌*◌, ◌≤◌, ℕ, OnOk, drop, subst, sym, ◌∙◌}
use Rattle.ostore_base.specs.Limits.{longest_disk}
use Rattle.ostore_redo_journal.specs.Drafts.{Ascends}
use Rattle.ostore_redo_journal.proofs.RoundTrips.{pages_counted}
use Rattle.ostore_redo_journal.proofs.record.Record.write.Goals as goal

pub write_bytes-requires : goal.write_bytes-requires
write_bytes-requires g c =
    let s = c.self.inside in
    let h = c.self.invariant in
    let short = (rw (← c.self.view_is) at c.requires.short) in
    record {
      inside = omega (arith, h.size, h.within);
      place = c.requires.place;
      small = c.requires.small;
      short = omega (arith, short, pages_counted s.count (drop 21 s.bytes.items));
      sure = c.requires.sure;
    }

pub invariant_of-self : goal.invariant_of-self
invariant_of-self g c =
    let h = c.self.invariant in
    let e = c.write_bytes.ensures in
    record { within = h.within; low = h.low; size = e.size ∙ h.size; ascends = subst Ascends (sym e.pages) h.ascends }

pub returns-clause-whole : goal.returns-clause-whole
returns-clause-whole g c =
    let s = c.self.inside in
    let h = c.self.invariant in
    let e = c.write_bytes.ensures in
    rw (← c.self.view_is) (record {
      client = e.fits.0;
      ordinal = e.fits.1;
      count = omega (arith, h.within, h.low, pages_counted s.count (drop 21 s.bytes.items));
      whole = e.whole;
      ascends = h.ascends;
    })

pub returns-clause-same : goal.returns-clause-same
returns-clause-same g c =
    let s = c.self.inside in
    let e = c.write_bytes.ensures in
    rw (← c.self.view_is) (λ i. record { client = s.client.0; ordinal = s.ordinal; room = s.room; pages = e.pages i })

pub returns-clause-within : goal.returns-clause-within
returns-clause-within g c =
    let s = c.self.inside in
    let counted = pages_counted s.count (drop 21 s.bytes.items) in
    rw (← c.self.view_is) (subst (λ (k : ℕ). OnOk c.write_bytes.result (c.args.gate + (21 + 4100 * k) + 1 ≤ longest_disk)) (sym counted) c.write_bytes.ensures.within)

pub returns-clause-written : goal.returns-clause-written
returns-clause-written g c = rw (← c.self.view_is) c.write_bytes.ensures.written

pub returns-clause-any_moment : goal.returns-clause-any_moment
returns-clause-any_moment g c = rw (← c.self.view_is) c.write_bytes.ensures.any_moment
