use Rattle.std.proofs.Common.{◌+◌, ◌*◌, ℕ, refl, ap, arith}
use Rattle.ostore_base.proofs.MomentLemmas.{leaves_weaker}
use Rattle.ostore_redo_journal.proofs.Ascending.{few_pages, lawful_of}
use Rattle.ostore_redo_journal.proofs.Appends.{told_leaves, told_reads, survives}
use Rattle.ostore_redo_journal.specs.declared.header.Scan.{Scan}
use Rattle.ostore_redo_journal.proofs.Orders.{still_next, next_inside, sized}
use Rattle.ostore_redo_journal.proofs.journal.Journal.write_next.Goals as goal

pub write-requires : goal.write-requires
write-requires g c =
    let o = c.requires.in_order in
    record {
      place = o.inside;
      small = o.end;
      short = let few = few_pages c.args.self.now.header.pages _ c.len.ensures.ascends c.requires.above in omega (arith, few, o.most);
      sure = o.sure c.requires.running;
    }

pub returns-in_err-write-clause-inside : goal.returns-in_err-write-clause-inside
returns-in_err-write-clause-inside g c =
    let j = c.args.self.now in
    let run = c.write.ensures.any_moment in
    let lawful = lawful_of j.header.pages _ c.write.ensures.whole c.requires.above c.requires.ordinal in
    still_next (g.D.Disk.content j.disk) (g.D.Disk.content c.write.new.disk) j.scan.end j.header.pages j.header.generation (j.header.base + j.scan.records + 1) _ (g.D.Disk.may_leave c.write.new.disk) lawful c.requires.in_order.inside c.write.ensures.tells (g.met.D.Disk.reads_image c.write.new.disk)
    (λ f left. run.each f (g.met.D.Disk.counts_now c.write.new.disk (g.D.Disk.moment j.disk) f run.later left))

pub returns-in_err-write-clause-any_moment : goal.returns-in_err-write-clause-any_moment
returns-in_err-write-clause-any_moment g c rs reads =
    let j = c.args.self.now in
    leaves_weaker g.D.Disk.moment g.D.Disk.left_since j.disk c.write.new.disk _ _ c.write.ensures.any_moment
    (told_leaves (g.D.Disk.content j.disk) j.header j.scan rs _ _ _ reads refl (lawful_of j.header.pages _ c.write.ensures.whole c.requires.above c.requires.ordinal) refl)

pub returns-clause-any_moment : goal.returns-clause-any_moment
returns-clause-any_moment g c rs reads =
    let j = c.args.self.now in
    leaves_weaker g.D.Disk.moment g.D.Disk.left_since j.disk c.write.new.disk _ _ c.write.ensures.any_moment
    (told_leaves (g.D.Disk.content j.disk) j.header j.scan rs _ _ _ reads refl (lawful_of j.header.pages _ c.write.ensures.whole c.requires.above c.requires.ordinal) refl)

pub returns-clause-inside : goal.returns-clause-inside
returns-clause-inside g c =
    let j = c.args.self.now in
    let lawful = lawful_of j.header.pages _ c.write.ensures.whole c.requires.above c.requires.ordinal in
    let size = sized j.header.pages j.header.generation (j.header.base + j.scan.records + 1) _ c.len.result lawful c.len.ensures.len in
    next_inside (g.D.Disk.content j.disk) (g.D.Disk.content c.write.new.disk) j.scan.end _ _ c.requires.in_order.inside c.in_ok-write.ensures.written (omega (arith, size))

pub returns-clause-appended : goal.returns-clause-appended
returns-clause-appended g c rs reads =
    let j = c.args.self.now in
    let lawful = lawful_of j.header.pages _ c.write.ensures.whole c.requires.above c.requires.ordinal in
    let size = sized j.header.pages j.header.generation (j.header.base + j.scan.records + 1) _ c.len.result lawful c.len.ensures.len in
    told_reads (g.D.Disk.content j.disk) (g.D.Disk.content c.write.new.disk) j.header j.scan _ rs _ _ _ reads refl lawful refl refl
    (ap (λ (k : ℕ). j.scan.end + k) size) c.in_ok-write.ensures.written

pub returns-clause-acknowledged : goal.returns-clause-acknowledged
returns-clause-acknowledged g c rs reads =
    let j = c.args.self.now in
    let now : Scan = record { records = j.scan.records + 1; end = j.scan.end + (21 + 4100 * c.len.result) } in
    let lawful = lawful_of j.header.pages _ c.write.ensures.whole c.requires.above c.requires.ordinal in
    let size = sized j.header.pages j.header.generation (j.header.base + j.scan.records + 1) _ c.len.result lawful c.len.ensures.len in
    survives (g.D.Disk.content c.write.new.disk) (g.D.Disk.may_leave c.write.new.disk) j.header now _ c.in_ok-write.ensures.sure
    (told_reads (g.D.Disk.content j.disk) (g.D.Disk.content c.write.new.disk) j.header j.scan now rs _ _ _ reads refl lawful refl refl
    (ap (λ (k : ℕ). j.scan.end + k) size) c.in_ok-write.ensures.written)
