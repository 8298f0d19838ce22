use Rattle.ostore_page_tags.proofs.changes.DeadLaws.{mark_range, written-MarksDead}
use Rattle.ostore_page_tags.proofs.cells.mark_dead.Goals as goal

pub row_place-requires : goal.row_place-requires
row_place-requires c = (mark_range c.args.image.now.bytes c.index_of-i.result c.args.offset c.cell_end-end.result c.requires.page c.index_of-i.ensures.below c.index_of-i.ensures.at c.cell_end-end.ensures).0

pub zero_between-requires-clause-order : goal.zero_between-requires-clause-order
zero_between-requires-clause-order c = (mark_range c.args.image.now.bytes c.index_of-i.result c.args.offset c.cell_end-end.result c.requires.page c.index_of-i.ensures.below c.index_of-i.ensures.at c.cell_end-end.ensures).1

pub zero_between-requires-clause-within : goal.zero_between-requires-clause-within
zero_between-requires-clause-within c = (mark_range c.args.image.now.bytes c.index_of-i.result c.args.offset c.cell_end-end.result c.requires.page c.index_of-i.ensures.below c.index_of-i.ensures.at c.cell_end-end.ensures).2

pub returns : goal.returns
returns c =
    written-MarksDead c.args.image.now.bytes c.put_u8.new.image.bytes c.zero_between.new.image.bytes c.index_of-i.result c.args.offset c.cell_end-end.result c.row_place.result
    c.requires.page c.index_of-i.ensures.below c.index_of-i.ensures.at c.cell_end-end.ensures c.row_place.ensures c.put_u8.ensures.written c.zero_between.ensures
