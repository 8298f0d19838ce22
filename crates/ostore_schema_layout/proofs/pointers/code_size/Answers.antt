use Rattle.std.proofs.Common.{arith, ap}
use Rattle.ostore_schema_layout.specs.Cells.{cell_size}
use Rattle.ostore_schema_layout.proofs.places.PointerLaws.{lawful_cells}
use Rattle.ostore_schema_layout.proofs.pointers.code_size.Goals as goal

pub members_size-requires : goal.members_size-requires
members_size-requires c = omega (arith, ap cell_size c.members_of.ensures, lawful_cells c.args.schema.now c.args.code c.requires.lawful c.requires.there c.if-code-lt-SET_CHUNK.true)
