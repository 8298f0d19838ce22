use Rattle.std.proofs.Common.{◌≡◌}
use Rattle.ostore_page_tags.specs.Header.{header_of}
use Rattle.ostore_page_tags.specs.Rows.{row_in}
use Rattle.ostore_page_tags.specs.Rules.{rise_by_step, offsets_of}
use Rattle.ostore_page_tags.proofs.walks.RowLaws.{from_place, offsets}
use Rattle.ostore_page_tags.proofs.check.do_offsets_rise.Given as goal

abbrev pub invariant-loop-i : goal.invariant-loop-i
invariant-loop-i l = rise_by_step (offsets (from_place (row_in l.image.bytes) l.i (header_of l.image.bytes).rows)) ≡ rise_by_step (offsets_of l.image.bytes)
