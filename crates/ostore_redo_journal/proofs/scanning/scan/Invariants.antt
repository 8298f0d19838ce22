use Rattle.std.proofs.Common.{◌≡◌, ◌*◌, ◌≤◌, ◌<◌, ◌-◌, IfSome, length}
use Rattle.ostore_base.specs.Images.{Keeps}
use Rattle.ostore_base.specs.Limits.{longest_disk}
use Rattle.ostore_redo_journal.specs.OnDisk.{HasRecords}
use Rattle.ostore_redo_journal.proofs.scanning.scan.Given as goal

-- the records so far stand before the place
abbrev pub invariant-loop-disk : goal.invariant-loop-disk
invariant-loop-disk g l = record {
  content : g.D.Disk.content l.disk ≡ g.D.Disk.content l.fn.disk;
  faults : g.D.Disk.faults l.disk ≡ g.D.Disk.faults l.fn.disk;
  records : IfSome (g.D.Disk.content l.fn.disk) (λ held. HasRecords held l.header l.scan);
  inside : l.scan.end < l.length;
  few : 21 * l.scan.records ≤ l.scan.end;
  short : l.length ≤ longest_disk;
  images : Keeps (g.D.Disk.may_leave l.fn.disk) (g.D.Disk.may_leave l.disk);
  told : IfSome (g.D.Disk.content l.fn.disk) (λ held. l.length ≡ length held);
}

abbrev pub decreases-loop-disk : goal.decreases-loop-disk
decreases-loop-disk g l = l.length - l.scan.end
