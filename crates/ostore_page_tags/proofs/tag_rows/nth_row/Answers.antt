use Rattle.std.proofs.Common.{arith}
use Rattle.ostore_page_tags.proofs.walks.NthLaws.{rows_fit, row_at_number}
use Rattle.ostore_page_tags.proofs.tag_rows.nth_row.Goals as goal

pub stored_row-requires : goal.stored_row-requires
stored_row-requires c = omega (arith, rows_fit c.args.image.now.bytes c.requires.page)

pub returns : goal.returns
returns c = row_at_number c.args.image.now.bytes c.args.i c.stored_row.result c.requires.there c.stored_row.ensures
