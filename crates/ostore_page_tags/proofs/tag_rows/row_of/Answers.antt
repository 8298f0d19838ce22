use Rattle.std.proofs.Common.{eqb, ◌∙◌, arith}
use Rattle.std.specs.List.{find}
use Rattle.std.proofs.lemmas.Bool.{eq-eqb, ne_eqb}
use Rattle.ostore_page_tags.specs.Rows.{row_in}
use Rattle.ostore_page_tags.proofs.walks.NthLaws.{rows_counted, rows_fit}
use Rattle.ostore_page_tags.proofs.walks.RowLaws.{at_start, find-found, find-goes_on, find-ends}
use Rattle.ostore_page_tags.proofs.tag_rows.row_of.Goals as goal

pub loop-i-init : goal.loop-i-init
loop-i-init c = at_start (find (λ row. eqb row.serial c.args.serial)) (row_in c.args.image.now.bytes) _ _ (c.rows-i-end.ensures ∙ rows_counted c.args.image.now.bytes)

pub stored_row-row-requires : goal.stored_row-row-requires
stored_row-row-requires c = omega (arith, rows_fit c.args.image.now.bytes c.requires.page)

pub returns-then-row-serial : goal.returns-then-row-serial
returns-then-row-serial c = find-found (λ row. eqb row.serial c.args.serial) (row_in c.args.image.now.bytes) c.loop-i.i _ c.stored_row-row.result _ c.loop-i.invariant c.loop-i-test.true c.stored_row-row.ensures (eq-eqb _ _ c.if-row-serial.true)

pub loop-i-preserved : goal.loop-i-preserved
loop-i-preserved c = find-goes_on (λ row. eqb row.serial c.args.serial) (row_in c.args.image.now.bytes) c.loop-i.i _ c.stored_row-row.result _ c.loop-i.invariant c.loop-i-test.true c.stored_row-row.ensures (ne_eqb _ _ c.if-row-serial.false)

pub returns : goal.returns
returns c = find-ends (λ row. eqb row.serial c.args.serial) (row_in c.args.image.now.bytes) c.loop-i.i _ _ c.loop-i.invariant c.loop-i-test.false
