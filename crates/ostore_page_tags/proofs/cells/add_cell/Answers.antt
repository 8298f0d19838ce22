use Rattle.std.proofs.Common.{arith}
use Rattle.ostore_page_tags.proofs.changes.AddLaws.{written-AddsCell, IsPage-room}
use Rattle.ostore_page_tags.proofs.cells.add_cell.Goals as goal

pub overflow_mul-free : goal.overflow_mul-free
overflow_mul-free c = omega (arith, IsPage-room c.args.image.now.bytes c.header-old.result c.header-old.ensures c.requires.page)

pub overflow_sub-free : goal.overflow_sub-free
overflow_sub-free c = omega (arith, IsPage-room c.args.image.now.bytes c.header-old.result c.header-old.ensures c.requires.page)

pub overflow_sub-free-2 : goal.overflow_sub-free-2
overflow_sub-free-2 c = omega (arith, IsPage-room c.args.image.now.bytes c.header-old.result c.header-old.ensures c.requires.page)

pub returns-clause-added : goal.returns-clause-added
returns-clause-added c =
    written-AddsCell c.args.image.now.bytes c.put_row.new.image.bytes c.set_header.new.image.bytes c.header-old.result c.args.size c.args.code c.args.serial
    c.header-old.ensures c.requires.page c.requires.asked (omega arith) (omega arith) (omega arith) c.put_row.ensures c.set_header.ensures.written c.set_header.ensures.read_back
