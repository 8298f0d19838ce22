use Rattle.std.proofs.Common.{arith}
use Rattle.ostore_relocation.specs.Fitness.{HasCells}
use Rattle.ostore_relocation.specs.inside.RowFit.{IsRowFit}
use Rattle.ostore_relocation.proofs.FitLaws.{all_fit, answer_no, answer_yes, asked_yes, one_fits, one_misfits}
use Rattle.ostore_relocation.proofs.fitness.are_rows_fit.Goals as goal

pub returns-then-not-is_row_fit : goal.returns-then-not-is_row_fit
returns-then-not-is_row_fit c =
    answer_no (HasCells c.args.schema.now c.args.image.now.bytes) (IsRowFit c.args.schema.now c.nth_row.result c.cell_end.result) c.is_row_fit.result c.if-not-is_row_fit.true c.is_row_fit.ensures
    (one_misfits c.args.schema.now c.args.image.now.bytes c.loop-i.i c.nth_row.result c.cell_end.result (omega (arith, c.rows-i-end.ensures)) c.nth_row.ensures c.cell_end.ensures)

pub loop-i-preserved : goal.loop-i-preserved
loop-i-preserved c =
    one_fits c.args.schema.now c.args.image.now.bytes c.loop-i.i c.nth_row.result c.cell_end.result (omega (arith, c.rows-i-end.ensures)) c.nth_row.ensures c.cell_end.ensures
    (asked_yes (IsRowFit c.args.schema.now c.nth_row.result c.cell_end.result) c.is_row_fit.result c.if-not-is_row_fit.false c.is_row_fit.ensures) c.loop-i.invariant

pub returns : goal.returns
returns c =
    answer_yes (HasCells c.args.schema.now c.args.image.now.bytes) (all_fit c.args.schema.now c.args.image.now.bytes c.loop-i.i c.requires.page (omega (arith, c.rows-i-end.ensures)) c.loop-i.invariant)
