use Rattle.std.proofs.Common.{◌≤◌, ◌+◌, List, ℕ, drop, map, sym, subst, arith}
use Rattle.std.specs.List.{AllByRecursion, flat_map}
use Rattle.ostore_page_tags.specs.declared.tag_rows.Row.{Row}
use Rattle.ostore_page_tags.specs.Rows.{rows_of}
use Rattle.ostore_relocation.specs.Places.{cell_pointers, row_pointers}
use Rattle.ostore_relocation.specs.Fitness.{LeadToPages}
use Rattle.ostore_relocation.proofs.PageLaws.{live_pointers, live_row, no_pointers, rows_split}
use Rattle.ostore_relocation.proofs.FitLaws.{answer_no, asked_yes, decides_first, decides_next}
use Rattle.ostore_relocation.proofs.fitness.cells_lead.Goals as goal
use Rattle.ostore_relocation.proofs.fitness.cells_lead.Goals.{else-row-via-then-row+else-not-cell_leads, else-row-via-else-row}

pub new-requires-clause-there : goal.new-requires-clause-there
new-requires-clause-there c = (live_row c.args.schema.now c.args.image.now.bytes c.loop-i.i c.nth_row-row.result c.requires.cells (omega (arith, c.rows-i-end.ensures)) c.nth_row-row.ensures c.if-row.true).code

pub cell_leads-requires : goal.cell_leads-requires
cell_leads-requires c =
    subst (λ (l : List ℕ). AllByRecursion (λ at. c.nth_row-row.result.offset + at + 4 ≤ 4096) l) (sym c.new.ensures)
    (live_row c.args.schema.now c.args.image.now.bytes c.loop-i.i c.nth_row-row.result c.requires.cells (omega (arith, c.rows-i-end.ensures)) c.nth_row-row.ensures c.if-row.true).within

pub returns-then-not-cell_leads : goal.returns-then-not-cell_leads
returns-then-not-cell_leads c =
    let bytes : List ℕ = c.args.image.now.bytes in
    let row : Row = c.nth_row-row.result in
    let all : List ℕ = cell_pointers c.args.schema.now bytes in
    let rest : List ℕ = flat_map (row_pointers c.args.schema.now) (drop (c.loop-i.i + 1) (rows_of bytes)) in
    answer_no (LeadToPages bytes all) (LeadToPages bytes (map (λ at. row.offset + at) c.new.result)) c.cell_leads.result c.if-not-cell_leads.true c.cell_leads.ensures
    (λ whole. subst (LeadToPages bytes) (sym (live_pointers c.args.schema.now row c.new.result c.if-row.true c.new.ensures))
    (decides_first bytes _ (row_pointers c.args.schema.now row) rest all c.loop-i.invariant (rows_split c.args.schema.now (rows_of bytes) c.loop-i.i row c.nth_row-row.ensures) whole))

pub loop-i-preserved : goal.loop-i-preserved
loop-i-preserved c =
    let bytes : List ℕ = c.args.image.now.bytes in
    let row : Row = c.nth_row-row.result in
    let all : List ℕ = cell_pointers c.args.schema.now bytes in
    let rest : List ℕ = flat_map (row_pointers c.args.schema.now) (drop (c.loop-i.i + 1) (rows_of bytes)) in
    decides_next bytes _ (row_pointers c.args.schema.now row) rest all c.loop-i.invariant (rows_split c.args.schema.now (rows_of bytes) c.loop-i.i row c.nth_row-row.ensures)
    (elim c.else-row.branch [
      | else-row-via-then-row+else-not-cell_leads w ↦
          subst (LeadToPages bytes) (live_pointers c.args.schema.now row w.new.result w.if-row.true w.new.ensures)
          (asked_yes (LeadToPages bytes (map (λ at. row.offset + at) w.new.result)) w.cell_leads.result w.if-not-cell_leads.false w.cell_leads.ensures)
      | else-row-via-else-row w ↦ subst (LeadToPages bytes) (sym (no_pointers c.args.schema.now row w.if-row.false)) tt
    ])
