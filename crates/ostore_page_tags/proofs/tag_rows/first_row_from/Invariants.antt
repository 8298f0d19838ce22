use Rattle.std.proofs.Common.{◌-◌}
use Rattle.ostore_page_tags.proofs.walks.PartedRows.{IsBetween}
use Rattle.ostore_page_tags.proofs.tag_rows.first_row_from.Given as goal

abbrev pub invariant-loop-low : goal.invariant-loop-low
invariant-loop-low l = IsBetween l.image.bytes l.offset l.low l.high

abbrev pub decreases-loop-low : goal.decreases-loop-low
decreases-loop-low l = l.high - l.low
