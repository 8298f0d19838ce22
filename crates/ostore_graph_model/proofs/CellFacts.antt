-- What the edits of one image make of its cells.
use Rattle.std.proofs.Common.{◌≡◌, ◌≢◌, ℕ, Bool, true, false, cond, eqb, List, [], ◌∷◌, length, map, refl, sym, ap, ◌∙◌, Option, Some, None, inl, inr}
use Rattle.std.specs.List.{find}
use Rattle.std.specs.Option.{option_map}
use Rattle.std.proofs.lemmas.Bool.{cases_eq, eq-eqb, ne_eqb}
use Rattle.ostore_page_tags.specs.declared.page_header.PageHeader.{PageHeader}
use Rattle.ostore_page_tags.specs.Header.{header_of}
use Rattle.ostore_page_tags.specs.Cells.{Cell, cells_of}
use Rattle.ostore_page_tags.specs.Changes.{dead_row, zeroed_cell, dead_at, MarksDead}
use Rattle.ostore_graph_model.specs.Addresses.{PlacedCell, placed, begins_at, cell_in}
use Rattle.ostore_graph_model.specs.LawsOfCells.{as_dead, LawOfHeldImages, LawOfEditedCells, LawOfAddedCells, LawOfDeadCells}
use Rattle.ostore_graph_model.proofs.AddressLaws.{cell_at-read, cell_in-edited_same, cell_in-edited_other, cell_in-added_new, cell_in-added_none, cell_in-added_other}

-- ---- a row is marked dead

abbrev dead : Cell → Cell
dead cell = zeroed_cell (dead_row cell.row) (length cell.bytes)

find-dead_other : (offset o : ℕ) (cells : List Cell) → o ≢ offset → find (begins_at o) (map (dead_at offset) cells) ≡ find (begins_at o) cells
find-dead_other offset o [] apart = refl
find-dead_other offset o (cell ∷ cells) apart =
    let others = find-dead_other offset o cells apart in
    elim (cases_eq cell.row.offset offset) [
      | inl same ↦
          let hit : eqb cell.row.offset offset ≡ true = eq-eqb _ _ same in
          let miss : eqb cell.row.offset o ≡ false = ne_eqb _ _ (λ e. apart (sym e ∙ same)) in
          rw (hit, miss) others
      | inr other ↦
          let miss : eqb cell.row.offset offset ≡ false = ne_eqb _ _ other in
          rw miss (ap (cond (eqb cell.row.offset o) (Some cell)) others)
    ]

find-dead_same : (offset : ℕ) (cells : List Cell) → find (begins_at offset) (map (dead_at offset) cells) ≡ option_map dead (find (begins_at offset) cells)
find-dead_same offset [] = refl
find-dead_same offset (cell ∷ cells) =
    let others = find-dead_same offset cells in
    elim (cases_eq cell.row.offset offset) [
      | inl same ↦
          let hit : eqb cell.row.offset offset ≡ true = eq-eqb _ _ same in
          rw hit (rw hit refl)
      | inr other ↦
          let miss : eqb cell.row.offset offset ≡ false = ne_eqb _ _ other in
          rw miss (rw miss others)
    ]

map_placed : (segment : ℕ) (found : Option Cell) → option_map (placed segment) (option_map dead found) ≡ option_map as_dead (option_map (placed segment) found)
map_placed segment None = refl
map_placed segment (Some cell) = refl

cond_placed : (b : Bool) (found : Option PlacedCell) → cond b (option_map as_dead found) None ≡ option_map as_dead (cond b found None)
cond_placed true found = refl
cond_placed false found = refl

module _ (old new : List ℕ) (offset : ℕ) (marks : MarksDead old new offset) where
  header_part : (o : ℕ) → cell_in new o ≡ cond (eqb (header_of old).kind 2) (option_map (placed (header_of old).segment) (find (begins_at o) (cells_of new))) None
  unfolding cell_in
  header_part o = ap (λ (h : PageHeader). cond (eqb h.kind 2) (option_map (placed h.segment) (find (begins_at o) (cells_of new))) None) marks.header

  cell_in-dead_other : (o : ℕ) → o ≢ offset → cell_in new o ≡ cell_in old o
  unfolding cell_in
  cell_in-dead_other o apart =
      header_part o
      ∙ ap (λ (f : Option Cell). cond (eqb (header_of old).kind 2) (option_map (placed (header_of old).segment) f) None)
      (ap (find (begins_at o)) marks.cells ∙ find-dead_other offset o (cells_of old) apart)

  cell_in-dead_same : cell_in new offset ≡ option_map as_dead (cell_in old offset)
  unfolding cell_in
  cell_in-dead_same =
      header_part offset
      ∙ ap (λ (f : Option Cell). cond (eqb (header_of old).kind 2) (option_map (placed (header_of old).segment) f) None)
      (ap (find (begins_at offset)) marks.cells ∙ find-dead_same offset (cells_of old))
      ∙ ap (λ (f : Option PlacedCell). cond (eqb (header_of old).kind 2) f None) (map_placed (header_of old).segment (find (begins_at offset) (cells_of old)))
      ∙ cond_placed (eqb (header_of old).kind 2) _

-- ---- the laws

pub held_law : LawOfHeldImages
held_law pages page offset image there high low = cell_at-read pages page offset image there high low

pub edited_law : LawOfEditedCells
edited_law old new offset bytes edit = (cell_in-edited_same old new offset bytes edit, λ o apart. cell_in-edited_other old new offset o bytes edit apart)

pub added_law : LawOfAddedCells
added_law old new size code serial adds page kind = record {
  free = cell_in-added_none old new size code serial adds page;
  there = cell_in-added_new old new size code serial adds kind page;
  others = cell_in-added_other old new size code serial adds;
}

pub dead_law : LawOfDeadCells
dead_law old new offset marks = (cell_in-dead_same old new offset marks, cell_in-dead_other old new offset marks)
