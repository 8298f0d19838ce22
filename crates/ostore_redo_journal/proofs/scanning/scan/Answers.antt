use Rattle.std.proofs.Common.{◌≡◌, ◌+◌, ℕ, List, drop, Option, IfSome, refl, ◌∙◌, subst, arith}
use Rattle.ostore_redo_journal.specs.OnDisk.{HasRecord}
use Rattle.ostore_redo_journal.proofs.Told.{told_next}
use Rattle.ostore_redo_journal.proofs.scanning.scan.Goals as goal

pub loop-disk-preserved : goal.loop-disk-preserved
loop-disk-preserved g c =
    let l = c.loop-disk in
    let inv = l.invariant in
    let here : g.D.Disk.content c.is_end.new.disk ≡ g.D.Disk.content c.args.disk.now = c.is_end.ensures.content ∙ inv.content in
    let step : IfSome (g.D.Disk.content c.is_end.new.disk) (λ held. HasRecord c.args.header l.scan.records (drop l.scan.end held) c.in-Record.size) = rw c.in-Record.is at c.in_ok-read_record.ensures.step in
    let one = subst (λ (o : Option (List ℕ)). IfSome o (λ held. HasRecord c.args.header l.scan.records (drop l.scan.end held) c.in-Record.size)) here step in
    let within = c.in_ok-read_record.ensures.within c.in-Record.size c.in-Record.is in
    record {
      content = c.read_record.ensures.content ∙ here;
      faults = c.in_ok-read_record.ensures.kept ∙ (c.in_ok-is_end.ensures.cause.done refl ∙ inv.faults);
      records = told_next (g.D.Disk.content c.args.disk.now) c.args.header l.scan (record { records = l.scan.records + 1; end = l.scan.end + c.in-Record.size }) c.in-Record.size inv.records one refl refl;
      inside = within.1;
      few = omega (arith, inv.few, within.0);
      short = inv.short;
      images = λ image left. inv.images image (c.is_end.ensures.images image (c.read_record.ensures.images image left));
      told = inv.told;
    }
