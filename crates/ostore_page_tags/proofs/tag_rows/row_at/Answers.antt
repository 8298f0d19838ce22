use Rattle.std.proofs.Common.{arith}
use Rattle.ostore_page_tags.proofs.walks.NthLaws.{rows_fit}
use Rattle.ostore_page_tags.proofs.walks.PartedRows.{parts-found, parts-none, parts-other}
use Rattle.ostore_page_tags.proofs.tag_rows.row_at.Goals as goal

pub returns-then-i-rows : goal.returns-then-i-rows
returns-then-i-rows c = parts-none c.args.image.now.bytes c.args.offset c.first_row_from-i.result c.first_row_from-i.ensures (omega arith)

pub stored_row-row-requires : goal.stored_row-row-requires
stored_row-row-requires c = omega (arith, rows_fit c.args.image.now.bytes c.requires)

pub returns-then-row-offset : goal.returns-then-row-offset
returns-then-row-offset c = parts-found c.args.image.now.bytes c.args.offset c.first_row_from-i.result c.stored_row-row.result c.first_row_from-i.ensures (omega arith) c.stored_row-row.ensures c.if-row-offset.true

pub returns-else-row-offset : goal.returns-else-row-offset
returns-else-row-offset c = parts-other c.args.image.now.bytes c.args.offset c.first_row_from-i.result c.stored_row-row.result c.requires c.first_row_from-i.ensures (omega arith) c.stored_row-row.ensures c.if-row-offset.false
