use Rattle.std.proofs.Common.{◌≡◌}
use Rattle.std.specs.List.{list_all}
use Rattle.ostore_page_tags.specs.Rows.{row_in}
use Rattle.ostore_page_tags.specs.Rules.{is_tag, have_rows_types}
use Rattle.ostore_page_tags.proofs.walks.RowLaws.{from_place}
use Rattle.ostore_page_tags.proofs.check.have_rows_types.Given as goal

abbrev pub invariant-loop-i : goal.invariant-loop-i
invariant-loop-i l = list_all (λ row. is_tag row.code row.serial) (from_place (row_in l.image.bytes) l.i l.i-end) ≡ have_rows_types l.image.bytes
