use Rattle.ostore_page_tags.proofs.walks.PartedRows.{parts-there}
use Rattle.ostore_page_tags.proofs.cells.index_of.Goals as goal

pub returns-clause-below : goal.returns-clause-below
returns-clause-below c =
    (parts-there c.args.image.now.bytes c.args.offset c.first_row_from.result c.requires.page c.first_row_from.ensures c.requires.there).0

pub returns-clause-at : goal.returns-clause-at
returns-clause-at c =
    (parts-there c.args.image.now.bytes c.args.offset c.first_row_from.result c.requires.page c.first_row_from.ensures c.requires.there).1
