use Rattle.std.proofs.Common.{◌+◌, ◌-◌, ◌*◌, ◌<◌, List, ℕ, length, Option, Some, None, IfSome, refl, arith}
use Rattle.ostore_redo_journal.proofs.Told.{Long, told_short, told_long, told_bad, told_good}
use Rattle.ostore_redo_journal.proofs.scanning.read_record.Goals as goal

-- so much room is left
roomy : (told : Option (List ℕ)) (size end n : ℕ) → Long told size → n < size - end → IfSome told (λ held. n < length held - end)
roomy None size end n long room = tt
roomy (Some held) size end n long room = omega arith

pub returns-then-room-least-clause-step : goal.returns-then-room-least-clause-step
returns-then-room-least-clause-step g c =
    told_short (g.D.Disk.content c.args.disk.now) c.args.header c.args.scan c.args.length c.requires.told c.requires.more c.if-room-least.true

pub returns-then-room-size-clause-step : goal.returns-then-room-size-clause-step
returns-then-room-size-clause-step g c =
    told_long (g.D.Disk.content c.args.disk.now) c.args.header c.args.scan c.args.length c.in_ok-count.count c.requires.told c.requires.more c.in_ok-count.ensures.number (omega (arith, c.if-room-size.true))

pub returns-then-not-branch-clause-step : goal.returns-then-not-branch-clause-step
returns-then-not-branch-clause-step g c =
    told_bad (g.D.Disk.content c.args.disk.now) (g.D.Disk.content c.read_u16.new.disk) c.args.header c.args.scan c.in_ok-count.count c.read_u16.ensures.content (omega arith) (omega arith) c.requires.numbers c.requires.more c.in_ok-count.ensures.number
    (c.in_ok-has_record.ensures.bad c.if-not-branch.true)

pub returns-clause-step : goal.returns-clause-step
returns-clause-step g c =
    let told = g.D.Disk.content c.args.disk.now in
    told_good told (g.D.Disk.content c.read_u16.new.disk) c.args.header c.args.scan c.in_ok-count.count (21 + 4100 * c.in_ok-count.count) c.read_u16.ensures.content refl c.requires.more
    (c.in_ok-has_record.ensures.good c.if-not-branch.false)
    (roomy told c.args.length c.args.scan.end (21 + 4100 * c.in_ok-count.count) c.requires.told (omega (arith, c.if-room-size.false)))
