use Rattle.std.proofs.Common.{sym, ap, ◌∙◌}
use Rattle.std.specs.List.{list_all}
use Rattle.ostore_page_tags.specs.declared.page_header.PageHeader.{PageHeader}
use Rattle.ostore_page_tags.specs.Rows.{row_in}
use Rattle.ostore_page_tags.specs.Rules.{is_tag}
use Rattle.ostore_page_tags.proofs.walks.RowLaws.{at_start, list_all-fails, list_all-goes_on, list_all-ends}
use Rattle.ostore_page_tags.proofs.check.have_rows_types.Goals as goal

pub loop-i-init : goal.loop-i-init
loop-i-init c = at_start (list_all (λ row. is_tag row.code row.serial)) (row_in c.args.image.now.bytes) c.header-i-end.result.rows _ (ap (λ (header : PageHeader). header.rows) c.header-i-end.ensures)

pub returns-then-not-is_tag : goal.returns-then-not-is_tag
returns-then-not-is_tag c =
    list_all-fails (λ row. is_tag row.code row.serial) (row_in c.args.image.now.bytes) c.loop-i.i c.header-i-end.result.rows c.stored_row-row.result _ c.loop-i.invariant c.loop-i-test.true c.stored_row-row.ensures (sym c.is_tag.ensures ∙ c.if-not-is_tag.true)

pub loop-i-preserved : goal.loop-i-preserved
loop-i-preserved c =
    list_all-goes_on (λ row. is_tag row.code row.serial) (row_in c.args.image.now.bytes) c.loop-i.i c.header-i-end.result.rows c.stored_row-row.result _ c.loop-i.invariant c.loop-i-test.true c.stored_row-row.ensures (sym c.is_tag.ensures ∙ c.if-not-is_tag.false)

pub returns : goal.returns
returns c = list_all-ends (λ row. is_tag row.code row.serial) (row_in c.args.image.now.bytes) c.loop-i.i c.header-i-end.result.rows _ c.loop-i.invariant c.loop-i-test.false
