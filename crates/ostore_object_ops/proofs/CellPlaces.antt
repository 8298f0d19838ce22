-- The cell at an address, in the words of its page.
use Rattle.std.proofs.Common.{◌≡◌, ℕ, zero, suc, ◌+◌, ◌*◌, ◌<◌, ◌≤◌, Bool, true, false, cond, eqb, leb, List, [], ◌∷◌, length, map, get_or, refl, sym, ap, subst, ◌∙◌, arith, Option, Some, None}
use Rattle.std.specs.Prelude.{◌/◌, ◌%◌}
use Rattle.std.specs.List.{find, range_with_len, slice_get}
use Rattle.std.specs.Option.{option_map, option_and_then}
use Rattle.std.proofs.lemmas.Bool.{eqb-true, leb-true}
use Rattle.std.proofs.lemmas.Option.{same_Some, none-some, slice_get_within, get_or_from_slice_get}
use Rattle.ostore_base.specs.declared.page.PageImage.{PageImage}
use Rattle.ostore_page_tags.specs.declared.tag_rows.Row.{Row}
use Rattle.ostore_page_tags.specs.Header.{header_of}
use Rattle.ostore_page_tags.specs.Rows.{row_in, row_at}
use Rattle.ostore_page_tags.specs.Cells.{Cell, cells_of}
use Rattle.ostore_page_tags.specs.Rules.{IsPage}
use Rattle.ostore_page_tags.specs.PageLists.{bytes_at, header_at}
use Rattle.ostore_page_tags.specs.Allocated.{IsAllocated}
use Rattle.ostore_page_tags.proofs.shape.PageShape.{rows_in, end_in, offset_in}
use Rattle.ostore_page_tags.proofs.parts.CellLaws.{cell_in, cells_are}
use Rattle.ostore_page_tags.proofs.walks.NthLaws.{slice_get-range}
use Rattle.ostore_graph_model.specs.Addresses.{PlacedCell, placed, begins_at, page_of_cells, cell_at}
use Rattle.ostore_graph_model.specs.Addresses as addresses
use Rattle.ostore_graph_model.proofs.AllocationLaws.{data_page}

map_one : {X Y : Type 0} (g : X → Y) (x : X) (b : Bool) (rest : Option X) → cond b (Some (g x)) (option_map g rest) ≡ option_map g (cond b (Some x) rest)
map_one g x true rest = refl
map_one g x false rest = refl

pub find-map : {X Y : Type 0} (p : Y → Bool) (g : X → Y) (xs : List X) → find p (map g xs) ≡ option_map g (find (λ x. p (g x)) xs)
find-map p g [] = refl
find-map p g (x ∷ xs) = ap (cond (p (g x)) (Some (g x))) (find-map p g xs) ∙ map_one g x (p (g x)) (find (λ x. p (g x)) xs)

abbrev IsFoundIn : (ℕ → Bool) → ℕ → ℕ → ℕ → Type 0
IsFoundIn p a n i = (a ≤ i) × (i < a + n) × (p i ≡ true)

found_first : (p : ℕ → Bool) (a n i : ℕ) (b : Bool) (rest : Option ℕ) → p a ≡ b → cond b (Some a) rest ≡ Some i → (rest ≡ Some i → IsFoundIn p (a + 1) n i) → IsFoundIn p a (suc n) i
found_first p a n i true rest is found more = let same : a ≡ i = same_Some a i found in (omega arith, omega arith, ap p (sym same) ∙ is)
found_first p a n i false rest is found more = let behind = more found in let low = behind.0 in let high = behind.1 in (omega arith, omega arith, behind.2)

-- the first of some numbers that passes a test
found_in : (p : ℕ → Bool) (a n i : ℕ) → find p (range_with_len a n) ≡ Some i → IsFoundIn p a n i
found_in p a zero i found = absurd (none-some i found)
found_in p a (suc n) i found = found_first p a n i (p a) (find p (range_with_len (a + 1) n)) refl found (found_in p (a + 1) n i)

-- the cell of row i
abbrev cell_of : List ℕ → ℕ → Cell
cell_of bytes = cell_in (rows_in bytes) (end_in bytes) bytes (row_in bytes)

abbrev first_at : List ℕ → ℕ → Option ℕ
first_at bytes offset = find (λ i. eqb (offset_in bytes i) offset) (range_with_len 0 (rows_in bytes))

-- a cell that begins at an offset of a page of objects, which is row i's
pub record IsCellOn (list : List PageImage) (page offset : ℕ) (cell : PlacedCell) : Type 0 where
  pub low : 10 ≤ page
  pub high : page < length list
  pub kind : (header_at list page).kind ≡ 2
  pub good : IsPage (bytes_at list page)
  pub i : ℕ
  pub below : i < rows_in (bytes_at list page)
  pub offset_is : offset_in (bytes_at list page) i ≡ offset
  pub row_is : row_at (bytes_at list page) offset ≡ Some (row_in (bytes_at list page) i)
  pub held : Cell
  pub held_is : cell_in (rows_in (bytes_at list page)) (end_in (bytes_at list page)) (bytes_at list page) (row_in (bytes_at list page)) i ≡ held
  pub cell_is : placed (header_at list page).segment held ≡ cell
  pub there : slice_get (cells_of (bytes_at list page)) i ≡ Some held

-- a cell is found in a page, where its index is
record HasIndex (bytes : List ℕ) (offset : ℕ) (held : Cell) : Type 0 where
  pub i : ℕ
  pub below : i < rows_in bytes
  pub offset_is : offset_in bytes i ≡ offset
  pub row_is : row_at bytes offset ≡ Some (row_in bytes i)
  pub held_is : cell_in (rows_in bytes) (end_in bytes) bytes (row_in bytes) i ≡ held

cells_found : (bytes : List ℕ) (offset : ℕ) → find (begins_at offset) (cells_of bytes) ≡ option_map (cell_of bytes) (first_at bytes offset)
cells_found bytes offset =
    ap (find (begins_at offset)) (cells_are (rows_in bytes) (end_in bytes) bytes refl refl)
    ∙ find-map (begins_at offset) (cell_of bytes) (range_with_len 0 (rows_in bytes))

rows_found : (bytes : List ℕ) (offset : ℕ) → row_at bytes offset ≡ option_map (row_in bytes) (first_at bytes offset)
rows_found bytes offset = find-map (λ (row : Row). eqb row.offset offset) (row_in bytes) (range_with_len 0 (rows_in bytes))

index_from : (bytes : List ℕ) (offset : ℕ) (held : Cell) (o : Option ℕ) → first_at bytes offset ≡ o → option_map (cell_of bytes) o ≡ Some held → row_at bytes offset ≡ option_map (row_in bytes) o → HasIndex bytes offset held
index_from bytes offset held None is cells rows = absurd (none-some held cells)
index_from bytes offset held (Some i) is cells rows =
    let at = found_in (λ i. eqb (offset_in bytes i) offset) 0 (rows_in bytes) i is in
    let high = at.1 in
    record {
      i = i;
      below = omega arith;
      offset_is = eqb-true _ _ at.2;
      row_is = rows;
      held_is = same_Some _ held cells;
    }

by_index : (bytes : List ℕ) (offset : ℕ) (held : Cell) → find (begins_at offset) (cells_of bytes) ≡ Some held → HasIndex bytes offset held
by_index bytes offset held found = index_from bytes offset held (first_at bytes offset) refl (sym (cells_found bytes offset) ∙ found) (rows_found bytes offset)

-- the parts of a cell that is read
record HasParts (bytes : List ℕ) (offset : ℕ) (cell : PlacedCell) : Type 0 where
  pub kind : (header_of bytes).kind ≡ 2
  pub held : Cell
  pub found : find (begins_at offset) (cells_of bytes) ≡ Some held
  pub cell_is : placed (header_of bytes).segment held ≡ cell

parts_from : (bytes : List ℕ) (offset : ℕ) (cell : PlacedCell) (b : Bool) (o : Option Cell) → eqb (header_of bytes).kind 2 ≡ b → find (begins_at offset) (cells_of bytes) ≡ o
    → cond b (option_map (placed (header_of bytes).segment) o) None ≡ Some cell → HasParts bytes offset cell
parts_from bytes offset cell true (Some held) kind is found = record { kind = eqb-true _ _ kind; held = held; found = is; cell_is = same_Some _ cell found }
parts_from bytes offset cell true None kind is found = absurd (none-some cell found)
parts_from bytes offset cell false o kind is found = absurd (none-some cell found)

parts : (bytes : List ℕ) (offset : ℕ) (cell : PlacedCell) → addresses.cell_in bytes offset ≡ Some cell → HasParts bytes offset cell
unfolding addresses.cell_in
parts bytes offset cell found = parts_from bytes offset cell (eqb (header_of bytes).kind 2) (find (begins_at offset) (cells_of bytes)) refl refl found

-- the page of a cell, and what its bytes say there
record IsInPage (pages : List PageImage) (page offset : ℕ) (cell : PlacedCell) : Type 0 where
  pub low : 10 ≤ page
  pub high : page < length pages
  pub read : addresses.cell_in (bytes_at pages page) offset ≡ Some cell

in_page_from : (pages : List PageImage) (page offset : ℕ) (cell : PlacedCell) (b : Bool) (o : Option PageImage) → leb 10 page ≡ b → slice_get pages page ≡ o
    → option_and_then (λ (image : PageImage). addresses.cell_in image.bytes offset) (cond b o None) ≡ Some cell → IsInPage pages page offset cell
in_page_from pages page offset cell true (Some image) low is found =
    let held : get_or pages page (record { bytes = [] }) ≡ image = get_or_from_slice_get pages page image (record { bytes = [] }) is in
    record {
      low = leb-true 10 page low;
      high = slice_get_within pages page image is;
      read = ap (λ (i : PageImage). addresses.cell_in i.bytes offset) held ∙ found;
    }
in_page_from pages page offset cell true None low is found = absurd (none-some cell found)
in_page_from pages page offset cell false o low is found = absurd (none-some cell found)

in_page : (pages : List PageImage) (address : ℕ) (cell : PlacedCell) → cell_at pages address ≡ Some cell → IsInPage pages (address / 4096) (address % 4096) cell
unfolding cell_at
in_page pages address cell there = in_page_from pages (address / 4096) (address % 4096) cell (leb 10 (address / 4096)) (slice_get pages (address / 4096)) refl refl there

pub page_of_address : (page offset : ℕ) → offset < 4096 → ((page * 4096 + offset) / 4096 ≡ page) × ((page * 4096 + offset) % 4096 ≡ offset)
page_of_address page offset low = (omega arith, omega arith)

pub cell_on : (list : List PageImage) (page offset : ℕ) (cell : PlacedCell) → IsAllocated list → offset < 4096 → cell_at list (page * 4096 + offset) ≡ Some cell → IsCellOn list page offset cell
unfolding header_at
cell_on list page offset cell fine low there =
    let at = page_of_address page offset low in
    let found : IsInPage list page offset cell = subst (λ (o : ℕ). IsInPage list page o cell) at.1 (subst (λ (p : ℕ). IsInPage list p ((page * 4096 + offset) % 4096) cell) at.0 (in_page list (page * 4096 + offset) cell there)) in
    let those = parts (bytes_at list page) offset cell found.read in
    let index = by_index (bytes_at list page) offset those.held those.found in
    record {
      low = found.low;
      high = found.high;
      kind = those.kind;
      good = data_page list page fine found.low found.high those.kind;
      i = index.i;
      below = index.below;
      offset_is = index.offset_is;
      row_is = index.row_is;
      held = those.held;
      held_is = index.held_is;
      cell_is = those.cell_is;
      there =
          ap (λ (cells : List Cell). slice_get cells index.i) (cells_are (rows_in (bytes_at list page)) (end_in (bytes_at list page)) (bytes_at list page) refl refl)
          ∙ slice_get-range (cell_of (bytes_at list page)) (rows_in (bytes_at list page)) index.i index.below
          ∙ ap (λ (c : Cell). Some c) index.held_is;
    }

-- the image of a page
pub image_there : (pages : List PageImage) (p : ℕ) → p < length pages → slice_get pages p ≡ Some (record { bytes = bytes_at pages p })
image_there [] p below = absurd (omega arith)
image_there (page ∷ pages) zero below = refl
image_there (page ∷ pages) (suc p) below = image_there pages p (omega arith)
