use Rattle.std.proofs.Common.{◌+◌, ◌-◌, ◌/◌, ◌<◌, arith}
use Rattle.ostore_page_tags.proofs.walks.NthLaws.{rows_fit}
use Rattle.ostore_page_tags.proofs.walks.PartedRows.{between_later, between_earlier}
use Rattle.ostore_page_tags.proofs.tag_rows.first_row_from.Goals as goal

pub stored_offset-requires : goal.stored_offset-requires
stored_offset-requires c =
    let below : c.loop-low.low + (c.loop-low.high - c.loop-low.low) / 2 < c.loop-low.high = omega arith in
    let within = c.loop-low.invariant.within in
    omega (arith, rows_fit c.args.image.now.bytes c.requires)

pub loop-low-preserved-then-stored_offset-offset : goal.loop-low-preserved-then-stored_offset-offset
loop-low-preserved-then-stored_offset-offset c =
    between_later c.args.image.now.bytes c.args.offset c.loop-low.low (c.loop-low.low + (c.loop-low.high - c.loop-low.low) / 2) c.loop-low.high _ c.requires c.loop-low.invariant (omega arith) c.stored_offset.ensures c.if-stored_offset-offset.true

pub loop-low-preserved : goal.loop-low-preserved
loop-low-preserved c =
    between_earlier c.args.image.now.bytes c.args.offset c.loop-low.low (c.loop-low.low + (c.loop-low.high - c.loop-low.low) / 2) c.loop-low.high _ c.requires c.loop-low.invariant (omega arith) (omega arith) c.stored_offset.ensures c.if-stored_offset-offset.false
