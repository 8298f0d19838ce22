use Rattle.std.proofs.Common.{length}
use Rattle.ostore_base.specs.Disk.{IsTornRange}
use Rattle.ostore_base.specs.Images.{OfTold}
use Rattle.ostore_base.proofs.MomentLemmas.{started, goes_on}
use Rattle.ostore_base.proofs.ImageLemmas.{sure_torn, write_torn}
use Rattle.ostore_base.proofs.outside.steps.write_synced.Goals as goal

pub returns-in_err-write-clause-any_moment : goal.returns-in_err-write-clause-any_moment
returns-in_err-write-clause-any_moment g c =
    let d = c.args.disk.now in
    let told = g.D.Disk.content d in
    let n = length c.args.bytes.now in
    let P = OfTold told (IsTornRange c.args.at n) in
    let begun = started g.D.Disk.moment g.D.Disk.left_since d P (λ f left. sure_torn told (g.D.Disk.may_leave d) c.args.at n c.requires.sure f (g.met.D.Disk.only_now d f left)) in
    goes_on g.D.Disk.moment g.D.Disk.left_since d d c.write.new.self P _ begun c.write.ensures.time (write_torn told (g.D.Disk.may_leave d) _ c.args.at n c.requires.sure c.write.ensures.images)

pub returns-clause-any_moment : goal.returns-clause-any_moment
returns-clause-any_moment g c =
    let d = c.args.disk.now in
    let told = g.D.Disk.content d in
    let n = length c.args.bytes.now in
    let P = OfTold told (IsTornRange c.args.at n) in
    let torn = write_torn told (g.D.Disk.may_leave d) _ c.args.at n c.requires.sure c.write.ensures.images in
    let begun = started g.D.Disk.moment g.D.Disk.left_since d P (λ f left. sure_torn told (g.D.Disk.may_leave d) c.args.at n c.requires.sure f (g.met.D.Disk.only_now d f left)) in
    let written = goes_on g.D.Disk.moment g.D.Disk.left_since d d c.write.new.self P _ begun c.write.ensures.time torn in
    goes_on g.D.Disk.moment g.D.Disk.left_since d c.write.new.self c.sync.new.self P _ written c.sync.ensures.time (λ f left. torn f (c.sync.ensures.images f left))
