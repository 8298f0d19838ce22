-- The pointers of the rows that are left decide.
use Rattle.std.proofs.Common.{drop}
use Rattle.std.specs.List.{flat_map}
use Rattle.ostore_page_tags.specs.Rows.{rows_of}
use Rattle.ostore_relocation.specs.Places.{cell_pointers, row_pointers}
use Rattle.ostore_relocation.proofs.FitLaws.{Decides}
use Rattle.ostore_relocation.proofs.fitness.cells_lead.Given as goal

abbrev pub invariant-loop-i : goal.invariant-loop-i
invariant-loop-i l = Decides l.image.bytes (flat_map (row_pointers l.schema) (drop l.i (rows_of l.image.bytes))) (cell_pointers l.schema l.image.bytes)
