use Rattle.std.proofs.Common.{◌≡◌, ◌<◌, ◌≤◌, ◌+◌, List, ℕ, length, refl, sym, ap, subst, ◌∙◌, arith}
use Rattle.std.specs.List.{AllByRecursion}
use Rattle.ostore_base.specs.declared.page.PageImage.{PageImage}
use Rattle.ostore_page_tags.specs.declared.tag_rows.Row.{Row}
use Rattle.ostore_page_tags.specs.Rows.{rows_of}
use Rattle.ostore_relocation.specs.Pointers.{pointer_in, with_pointers}
use Rattle.ostore_relocation.proofs.PageLaws.{turns, live_row, live_pointers, no_pointers}
use Rattle.ostore_relocation.proofs.cells.change_cells.Goals as goal
use Rattle.ostore_relocation.proofs.cells.change_cells.Goals.{then-row, else-row}

counted : (start now : List ℕ) (i end : ℕ) → rows_of now ≡ rows_of start → end ≡ length (rows_of start) → i < end → i < length (rows_of now)
counted start now i end same is below = let long = ap (λ (l : List Row). length l) same in omega arith

pub loop-i-init : goal.loop-i-init
loop-i-init c = record { cells = c.requires.cells; rows = refl; left = refl }

pub nth_row-row-requires : goal.nth_row-row-requires
nth_row-row-requires c = record {
  page = c.loop-i.invariant.cells.page;
  there = counted c.args.image.now.bytes c.loop-i.image.bytes c.loop-i.i c.rows-i-end.result c.loop-i.invariant.rows c.rows-i-end.ensures c.loop-i-test.true;
}

pub new-requires-clause-there : goal.new-requires-clause-there
new-requires-clause-there c =
    (live_row c.args.schema.now c.loop-i.image.bytes c.loop-i.i c.nth_row-row.result c.loop-i.invariant.cells
    (counted c.args.image.now.bytes c.loop-i.image.bytes c.loop-i.i c.rows-i-end.result c.loop-i.invariant.rows c.rows-i-end.ensures c.loop-i-test.true) c.nth_row-row.ensures c.if-row.true).code

pub change_cell-requires : goal.change_cell-requires
change_cell-requires c = record {
  within = subst (λ (l : List ℕ). AllByRecursion (λ at. c.nth_row-row.result.offset + at + 4 ≤ 4096) l) (sym c.new.ensures)
      (live_row c.args.schema.now c.loop-i.image.bytes c.loop-i.i c.nth_row-row.result c.loop-i.invariant.cells
      (counted c.args.image.now.bytes c.loop-i.image.bytes c.loop-i.i c.rows-i-end.result c.loop-i.invariant.rows c.rows-i-end.ensures c.loop-i-test.true) c.nth_row-row.ensures c.if-row.true).within;
}

pub loop-i-preserved : goal.loop-i-preserved
loop-i-preserved c =
    let change : ℕ → ℕ = pointer_in c.args.form c.args.space.now.pages in
    let start : List ℕ = c.args.image.now.bytes in
    let old : List ℕ = c.loop-i.image.bytes in
    let row : Row = c.nth_row-row.result in
    let there = counted start old c.loop-i.i c.rows-i-end.result c.loop-i.invariant.rows c.rows-i-end.ensures c.loop-i-test.true in
    turns change c.args.schema.now start old c.if-row.image.bytes _ c.loop-i.i row c.loop-i.invariant there c.nth_row-row.ensures
    (elim c.if-row.branch [
      | then-row w ↦
          ap (λ (image : PageImage). image.bytes) w.image-is ∙ w.change_cell.ensures
          ∙ ap (λ (places : List ℕ). with_pointers change places old) (live_pointers c.args.schema.now row w.new.result w.if-row.true w.new.ensures)
      | else-row w ↦
          ap (λ (image : PageImage). image.bytes) w.image-is
          ∙ ap (λ (places : List ℕ). with_pointers change places old) (sym (no_pointers c.args.schema.now row w.if-row.false))
    ])
