use Rattle.std.proofs.Common.{◌≡◌, eqb}
use Rattle.std.specs.List.{find}
use Rattle.ostore_page_tags.specs.Rows.{row_in, row_of}
use Rattle.ostore_page_tags.proofs.walks.RowLaws.{from_place}
use Rattle.ostore_page_tags.proofs.tag_rows.row_of.Given as goal

abbrev pub invariant-loop-i : goal.invariant-loop-i
invariant-loop-i l = find (λ row. eqb row.serial l.serial) (from_place (row_in l.image.bytes) l.i l.i-end) ≡ row_of l.image.bytes l.serial
