use Rattle.std.proofs.Common.{drop}
use Rattle.std.specs.List.{flat_map}
use Rattle.ostore_page_tags.specs.Rows.{rows_of}
use Rattle.ostore_relocation.specs.Places.{cell_pointers, row_pointers}
use Rattle.ostore_relocation.specs.Reserving.{targets_of}
use Rattle.ostore_relocation.proofs.ReserveLaws.{PlacesLeft}
use Rattle.ostore_relocation.proofs.reserving.reserve_cells.Given as goal

abbrev pub invariant-loop-i : goal.invariant-loop-i
invariant-loop-i g l =
    PlacesLeft (g.M.Mapper.choice l.mapper) l.initial.space l.space l.image.bytes (flat_map (row_pointers l.schema) (drop l.i (rows_of l.image.bytes))) (targets_of l.image.bytes (cell_pointers l.schema l.image.bytes))
