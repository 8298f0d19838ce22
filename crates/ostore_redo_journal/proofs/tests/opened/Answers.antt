use Rattle.std.proofs.Common.{rules, ◌≡◌, ◌≢◌, ◌<◌, length, get_or, take, drop, ◌∙◌}
use Rattle.ostore_base.specs.Images.{Keeps, IsSure}
use Rattle.ostore_redo_journal.specs.Headers.{HasHeader, journal_at}
use Rattle.ostore_redo_journal.specs.OnDisk.{HasRecords, IsEnd}
use Rattle.ostore_redo_journal.proofs.Orders.{stays_sure, over}
use Rattle.ostore_redo_journal.proofs.Refused.{started}
use Rattle.ostore_redo_journal.proofs.tests.opened.Goals as goal

pub returns-clause-in_order : goal.returns-clause-in_order
returns-clause-in_order g c =
    let content = g.D.Disk.content in
    let may = g.D.Disk.may_leave in
    let h = c.in-Ok.header in
    let s = c.in-Ok-scan.found in
    let first = c.sync.new.self in
    let last = c.gate_is_open.new.disk in
    let three : content last ≡ content c.scan.new.disk = c.gate_is_open.ensures.content in
    let two : content last ≡ content c.read_header.new.disk = three ∙ c.scan.ensures.content in
    let one : content last ≡ content first = two ∙ c.read_header.ensures.content in
    let keeps : Keeps (may first) (may last) = λ image left. c.read_header.ensures.images image (c.scan.ensures.images image (c.gate_is_open.ensures.images image left)) in
    let sure : IsSure (content first) (may first) = search rules in
    record {
      least = c.in-Ok.ensures.limits.0;
      most = c.in-Ok.ensures.limits.1;
      base = c.in-Ok.ensures.limits.2;
      records = c.in-Ok-scan.ensures.limits.0;
      end = c.in-Ok-scan.ensures.limits.1;
      inside = over (content c.read_header.new.disk) (content last) (λ held. s.end < length held) two c.in-Ok-scan.ensures.inside;
      reads = λ running. started (content last) h s
          (over (content first) (content last) (λ held. HasHeader (take 4096 held) h × (journal_at h < length held)) one c.in-Ok.ensures.header)
          (over (content c.read_header.new.disk) (content last) (λ held. HasRecords held h s × IsEnd h s.records (drop s.end held)) two c.in-Ok-scan.ensures.records)
          (over (content c.read_header.new.disk) (content last) (λ held. s.end < length held) two c.in-Ok-scan.ensures.inside)
          (over (content c.scan.new.disk) (content last) (λ held. get_or held s.end 0 ≢ 1) three (c.gate_is_open.ensures.closed c.if-gate_is_open.false));
      sure = λ running. stays_sure (content first) (content last) (may first) (may last) one keeps sure;
      stopped = tt;
    }
