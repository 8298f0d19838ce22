use Rattle.ostore_relocation.proofs.CellBytes.{cell_stored, stays_cells}
use Rattle.ostore_relocation.proofs.laws.cell_bytes_are_stored.Goals as goal

pub returns-clause-stored : goal.returns-clause-stored
returns-clause-stored c = cell_stored c.args.space.now.pages c.args.schema.now c.args.page.0 c.args.bytes.now c.args.image.now.bytes c.args.i c.args.row c.args.at c.frames_are_paired.ensures.all c.requires.resident
    (record { objects = c.requires.objects; cells = c.requires.cells; there = c.requires.there; row_is = c.requires.row; live = c.requires.live; within = c.requires.within; beside = c.requires.beside })

pub returns-clause-cells : goal.returns-clause-cells
returns-clause-cells c = (stays_cells c.args.schema.now c.args.page.0 c.args.bytes.now c.args.image.now.bytes c.args.i c.args.row c.args.at
    (record { objects = c.requires.objects; cells = c.requires.cells; there = c.requires.there; row_is = c.requires.row; live = c.requires.live; within = c.requires.within; beside = c.requires.beside })).cells
