use Rattle.std.proofs.Common.{◌≤◌, ◌+◌, ◌++◌, List, ℕ, drop, sym, ap, subst, ◌∙◌, arith}
use Rattle.std.specs.Prelude.{Err, is_ok}
use Rattle.std.specs.List.{AllByRecursion, flat_map}
use Rattle.ostore_address_space.specs.Frames.{Frames}
use Rattle.ostore_page_tags.specs.Rows.{rows_of}
use Rattle.ostore_base.specs.declared.numbers.PageNo.{PageNo}
use Rattle.ostore_relocation.specs.Places.{cell_pointers, row_pointers}
use Rattle.ostore_relocation.specs.Fitness.{LeadToPages}
use Rattle.ostore_relocation.specs.Reserving.{Reserves, targets_of}
use Rattle.ostore_relocation.proofs.PageLaws.{live_row, live_pointers, no_pointers, rows_split}
use Rattle.ostore_relocation.proofs.ReserveLaws.{PlacesLeft, places_first, places_ok, places_none, places_err}
use Rattle.ostore_relocation.proofs.reserving.reserve_cells.Goals as goal
use Rattle.ostore_relocation.proofs.reserving.reserve_cells.Goals.{then-row+in-Ok, else-row}

pub new-pointers-requires-clause-there : goal.new-pointers-requires-clause-there
new-pointers-requires-clause-there g c = (live_row c.args.schema.now c.args.image.now.bytes c.loop-i.i c.nth_row-row.result c.requires.cells (omega (arith, c.rows-i-end.ensures)) c.nth_row-row.ensures c.if-row.true).code

pub reserve_cell-requires-clause-within : goal.reserve_cell-requires-clause-within
reserve_cell-requires-clause-within g c =
    subst (λ (l : List ℕ). AllByRecursion (λ at. c.nth_row-row.result.offset + at + 4 ≤ 4096) l) (sym c.new-pointers.ensures)
    (live_row c.args.schema.now c.args.image.now.bytes c.loop-i.i c.nth_row-row.result c.requires.cells (omega (arith, c.rows-i-end.ensures)) c.nth_row-row.ensures c.if-row.true).within

pub reserve_cell-requires-clause-targets : goal.reserve_cell-requires-clause-targets
reserve_cell-requires-clause-targets g c =
    subst (λ (l : List ℕ). LeadToPages c.args.image.now.bytes l) (sym (live_pointers c.args.schema.now c.nth_row-row.result c.new-pointers.result c.if-row.true c.new-pointers.ensures))
    (places_first (g.M.Mapper.choice c.args.mapper.now) c.args.space.now c.loop-i.space c.args.image.now.bytes _ (row_pointers c.args.schema.now c.nth_row-row.result) _ _ c.loop-i.invariant
    (rows_split c.args.schema.now (rows_of c.args.image.now.bytes) c.loop-i.i c.nth_row-row.result c.nth_row-row.ensures))

pub returns-in-Err : goal.returns-in-Err
returns-in-Err g c =
    let choice = g.M.Mapper.choice c.args.mapper.now in
    let bytes : List ℕ = c.args.image.now.bytes in
    let all : List PageNo = targets_of bytes (cell_pointers c.args.schema.now bytes) in
    let rest : List ℕ = flat_map (row_pointers c.args.schema.now) (drop (c.loop-i.i + 1) (rows_of bytes)) in
    let split = rows_split c.args.schema.now (rows_of bytes) c.loop-i.i c.nth_row-row.result c.nth_row-row.ensures in
    let places = live_pointers c.args.schema.now c.nth_row-row.result c.new-pointers.result c.if-row.true c.new-pointers.ensures in
    places_err choice c.args.space.now c.loop-i.space c.reserve_cell.new.space bytes _ (row_pointers c.args.schema.now c.nth_row-row.result) rest all c.in-Err.full c.loop-i.invariant split
    (subst (λ (l : List ℕ). Reserves {T = Unit {0}} choice c.loop-i.space c.reserve_cell.new.space (targets_of bytes l) (Err c.in-Err.full)) places c.in-Err.ensures)

pub loop-i-preserved : goal.loop-i-preserved
loop-i-preserved g c =
    let choice = g.M.Mapper.choice c.args.mapper.now in
    let bytes : List ℕ = c.args.image.now.bytes in
    let all : List PageNo = targets_of bytes (cell_pointers c.args.schema.now bytes) in
    let rest : List ℕ = flat_map (row_pointers c.args.schema.now) (drop (c.loop-i.i + 1) (rows_of bytes)) in
    let split = rows_split c.args.schema.now (rows_of bytes) c.loop-i.i c.nth_row-row.result c.nth_row-row.ensures in
    elim c.if-row.branch [
      | then-row+in-Ok w ↦
          let places = live_pointers c.args.schema.now c.nth_row-row.result w.new-pointers.result w.if-row.true w.new-pointers.ensures in
          subst (λ (f : Frames). PlacesLeft choice c.args.space.now f bytes rest all) (sym w.space-is)
          (places_ok choice c.args.space.now c.loop-i.space w.reserve_cell.new.space bytes _ (row_pointers c.args.schema.now c.nth_row-row.result) rest all w.reserve_cell.result c.loop-i.invariant split
          (subst (λ (l : List ℕ). Reserves choice c.loop-i.space w.reserve_cell.new.space (targets_of bytes l) w.reserve_cell.result) places w.reserve_cell.ensures)
          (ap is_ok w.in-Ok.is))
      | else-row w ↦
          subst (λ (f : Frames). PlacesLeft choice c.args.space.now f bytes rest all) (sym w.space-is)
          (places_none choice c.args.space.now c.loop-i.space bytes _ rest all c.loop-i.invariant (split ∙ ap (λ (l : List ℕ). l ++ rest) (no_pointers c.args.schema.now c.nth_row-row.result w.if-row.false)))
    ]
