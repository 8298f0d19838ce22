use Rattle.std.proofs.Common.{◌≡◌}
use Rattle.ostore_base.specs.Images.{Keeps}
use Rattle.ostore_redo_journal.proofs.Listings.{ListsUpTo}
use Rattle.ostore_redo_journal.proofs.listing.list_records.Given as goal

-- the records before the place are listed
abbrev pub invariant-loop-done : goal.invariant-loop-done
invariant-loop-done g l = record {
  content : g.D.Disk.content l.disk ≡ g.D.Disk.content l.fn.disk;
  faults : g.D.Disk.faults l.disk ≡ g.D.Disk.faults l.fn.disk;
  images : Keeps (g.D.Disk.may_leave l.fn.disk) (g.D.Disk.may_leave l.disk);
  listed : ListsUpTo (g.D.Disk.content l.fn.disk) l.fn.header l.fn.scan l.done l.at l.items;
}
