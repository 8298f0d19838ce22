use Rattle.std.proofs.Common.{arith}
use Rattle.ostore_page_tags.proofs.allocation.FreshPages.{list_long, length-part_images, part_images-none, part_images-more}
use Rattle.ostore_page_tags.specs.FreshPages.{part_images}
use Rattle.ostore_page_tags.proofs.fresh.push_parts.Goals as goal

pub loop-i-init : goal.loop-i-init
loop-i-init c = part_images-none c.args.list.now c.args.bytes.now

pub push-requires : goal.push-requires
push-requires c =
    let long = list_long c.loop-i.list c.args.list.now (part_images c.args.bytes.now c.loop-i.i) c.loop-i.invariant in
    let parts = length-part_images c.args.bytes.now c.loop-i.i in
    let room = c.requires.room in
    let below = c.loop-i-test.true in
    omega arith

pub loop-i-preserved : goal.loop-i-preserved
loop-i-preserved c =
    part_images-more c.loop-i.list c.args.list.now c.push.new.self c.args.bytes.now c.loop-i.i c.part_of.result c.loop-i.invariant c.part_of.ensures c.in_ok-push.ensures.ok
