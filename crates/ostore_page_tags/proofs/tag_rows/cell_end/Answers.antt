use Rattle.std.proofs.Common.{arith}
use Rattle.ostore_page_tags.proofs.walks.NthLaws.{rows_fit, cell_stops_at_next, cell_stops_at_end}
use Rattle.ostore_page_tags.proofs.tag_rows.cell_end.Goals as goal

pub overflow_add-i : goal.overflow_add-i
overflow_add-i c = omega (arith, rows_fit c.args.image.now.bytes c.requires.page)

pub stored_row-requires : goal.stored_row-requires
stored_row-requires c = omega (arith, rows_fit c.args.image.now.bytes c.requires.page)

pub returns-then-i-rows : goal.returns-then-i-rows
returns-then-i-rows c = cell_stops_at_next c.args.image.now.bytes c.args.i c.stored_row.result c.requires.page (omega arith) c.stored_row.ensures

pub returns-else-i-rows : goal.returns-else-i-rows
returns-else-i-rows c = cell_stops_at_end c.args.image.now.bytes c.args.i c.header.result c.requires.page c.requires.there (omega arith) c.header.ensures
