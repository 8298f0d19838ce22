-- What becomes of the cells by their addresses where a page is changed.
use Rattle.std.proofs.Common.{◌≡◌, ◌≢◌, ℕ, ◌+◌, ◌*◌, ◌<◌, ◌≤◌, zero, suc, Bool, true, false, cond, eqb, List, [], ◌∷◌, ◌++◌, length, map, replicate, set, refl, sym, ap, ◌∙◌, arith, Option, Some, None, inl, inr}
use Rattle.std.specs.Prelude.{◌/◌, ◌%◌, nat_le}
use Rattle.std.specs.List.{All, find, slice_get}
use Rattle.std.specs.Option.{option_map, option_and_then}
use Rattle.std.proofs.lemmas.Bool.{cases_eq, cases_lt, eq-eqb, ne_eqb, lt-leb, le-leb}
use Rattle.std.proofs.lemmas.Option.{slice_get_within, none-some}
use Rattle.ostore_base.specs.declared.page.PageImage.{PageImage}
use Rattle.ostore_page_tags.specs.declared.page_header.PageHeader.{PageHeader}
use Rattle.ostore_page_tags.specs.Header.{header_of}
use Rattle.ostore_page_tags.specs.Cells.{Cell, cells_of}
use Rattle.ostore_page_tags.specs.Changes.{edited_at, EditsCell, live_row, zeroed_cell, AddsCell}
use Rattle.ostore_page_tags.specs.Rules.{IsPage}
use Rattle.ostore_page_tags.proofs.parts.ApartLaws.{IsPage-AreApart}
use Rattle.ostore_graph_model.specs.Addresses.{PlacedCell, placed, begins_at, cell_in, page_of_cells, cell_at}
use Rattle.ostore_graph_model.specs.PageEdits.{PutsPage, EditsAt}

-- ---- one page

abbrev pub with_bytes : Cell → List ℕ → Cell
with_bytes cell bytes = record { row = cell.row; bytes = bytes }

find-edited_other : (offset o : ℕ) (bytes : List ℕ) (cells : List Cell) → o ≢ offset → find (begins_at o) (map (edited_at offset bytes) cells) ≡ find (begins_at o) cells
find-edited_other offset o bytes [] apart = refl
find-edited_other offset o bytes (cell ∷ cells) apart =
    let others = find-edited_other offset o bytes cells apart in
    elim (cases_eq cell.row.offset offset) [
      | inl same ↦
          let hit : eqb cell.row.offset offset ≡ true = eq-eqb _ _ same in
          let miss : eqb cell.row.offset o ≡ false = ne_eqb _ _ (λ e. apart (sym e ∙ same)) in
          rw (hit, miss) others
      | inr other ↦
          let miss : eqb cell.row.offset offset ≡ false = ne_eqb _ _ other in
          rw miss (ap (cond (eqb cell.row.offset o) (Some cell)) others)
    ]

find-edited_same : (offset : ℕ) (bytes : List ℕ) (cells : List Cell) → find (begins_at offset) (map (edited_at offset bytes) cells) ≡ option_map (λ cell. with_bytes cell bytes) (find (begins_at offset) cells)
find-edited_same offset bytes [] = refl
find-edited_same offset bytes (cell ∷ cells) =
    let others = find-edited_same offset bytes cells in
    elim (cases_eq cell.row.offset offset) [
      | inl same ↦
          let hit : eqb cell.row.offset offset ≡ true = eq-eqb _ _ same in
          rw hit (rw hit refl)
      | inr other ↦
          let miss : eqb cell.row.offset offset ≡ false = ne_eqb _ _ other in
          rw miss (rw miss others)
    ]

-- an edit leaves the cells that begin elsewhere
pub cell_in-edited_other : (old new : List ℕ) (offset o : ℕ) (bytes : List ℕ) → EditsCell old new offset bytes → o ≢ offset → cell_in new o ≡ cell_in old o
unfolding cell_in
cell_in-edited_other old new offset o bytes edit apart =
    let found : find (begins_at o) (cells_of new) ≡ find (begins_at o) (cells_of old) = ap (find (begins_at o)) edit.cells ∙ find-edited_other offset o bytes (cells_of old) apart in
    ap (λ (h : PageHeader). cond (eqb h.kind 2) (option_map (placed h.segment) (find (begins_at o) (cells_of new))) None) edit.header
    ∙ ap (λ (f : Option Cell). cond (eqb (header_of old).kind 2) (option_map (placed (header_of old).segment) f) None) found

abbrev pub placed_with : List ℕ → PlacedCell → PlacedCell
placed_with bytes cell = record cell { bytes = bytes }

map_placed : (segment : ℕ) (bytes : List ℕ) (found : Option Cell) → option_map (placed segment) (option_map (λ cell. with_bytes cell bytes) found) ≡ option_map (placed_with bytes) (option_map (placed segment) found)
map_placed segment bytes None = refl
map_placed segment bytes (Some cell) = refl

cond_placed : (b : Bool) (bytes : List ℕ) (found : Option PlacedCell) → cond b (option_map (placed_with bytes) found) None ≡ option_map (placed_with bytes) (cond b found None)
cond_placed true bytes found = refl
cond_placed false bytes found = refl

-- the edited cell has the new bytes, and is as it was otherwise
pub cell_in-edited_same : (old new : List ℕ) (offset : ℕ) (bytes : List ℕ) → EditsCell old new offset bytes → cell_in new offset ≡ option_map (placed_with bytes) (cell_in old offset)
unfolding cell_in
cell_in-edited_same old new offset bytes edit =
    let found = ap (find (begins_at offset)) edit.cells ∙ find-edited_same offset bytes (cells_of old) in
    ap (λ (h : PageHeader). cond (eqb h.kind 2) (option_map (placed h.segment) (find (begins_at offset) (cells_of new))) None) edit.header
    ∙ ap (λ (f : Option Cell). cond (eqb (header_of old).kind 2) (option_map (placed (header_of old).segment) f) None) found
    ∙ ap (λ (f : Option PlacedCell). cond (eqb (header_of old).kind 2) f None) (map_placed (header_of old).segment bytes (find (begins_at offset) (cells_of old)))
    ∙ cond_placed (eqb (header_of old).kind 2) bytes _

-- ---- a list of pages

pub slice_get-set_same : {A : Type 0} (xs : List A) (i : ℕ) (x : A) → i < length xs → slice_get (set xs i x) i ≡ Some x
slice_get-set_same [] i x below = absurd (omega arith)
slice_get-set_same (y ∷ xs) zero x below = refl
slice_get-set_same (y ∷ xs) (suc i) x below = slice_get-set_same xs i x (omega arith)

pub slice_get-set_other : {A : Type 0} (xs : List A) (i j : ℕ) (x : A) → j ≢ i → slice_get (set xs i x) j ≡ slice_get xs j
slice_get-set_other [] i j x apart = refl
slice_get-set_other (y ∷ xs) zero zero x apart = absurd (apart refl)
slice_get-set_other (y ∷ xs) zero (suc j) x apart = refl
slice_get-set_other (y ∷ xs) (suc i) zero x apart = refl
slice_get-set_other (y ∷ xs) (suc i) (suc j) x apart = slice_get-set_other xs i j x (λ e. apart (ap suc e))

-- what is read of every image alike, where one image that reads the same is put in the place of another
pub read-set : {X : Type 0} (f : PageImage → X) (pages : List PageImage) (page : ℕ) (was image : PageImage) → slice_get pages page ≡ Some was → f image ≡ f was → (p : ℕ) → option_map f (slice_get (set pages page image) p) ≡ option_map f (slice_get pages p)
read-set f pages page was image there same p = elim (cases_eq p page) [
  | inl here ↦
      ap (λ (q : ℕ). option_map f (slice_get (set pages page image) q)) here
      ∙ ap (option_map f) (slice_get-set_same pages page image (slice_get_within pages page was there))
      ∙ ap Some same
      ∙ sym (ap (option_map f) there)
      ∙ ap (λ (q : ℕ). option_map f (slice_get pages q)) (sym here)
  | inr other ↦ ap (option_map f) (slice_get-set_other pages page p image other)
]

-- a cell is on a page from 10 on
pub cell_at-page : (pages : List PageImage) (address : ℕ) (cell : PlacedCell) → cell_at pages address ≡ Some cell → 10 ≤ address / 4096
unfolding cell_at
cell_at-page pages address cell there = elim (cases_lt (address / 4096) 10) [
  | inl low ↦ absurd (none-some cell (sym (ap (λ b. option_and_then (λ (image : PageImage). cell_in image.bytes (address % 4096)) (cond b (slice_get pages (address / 4096)) None)) (lt-leb 10 (address / 4096) low)) ∙ there))
  | inr high ↦ high
]

-- what a page's cells are read as, where its image is another
cells_put : (pages : List PageImage) (page : ℕ) (was image : PageImage) (o : ℕ) (f : Option PlacedCell → Option PlacedCell) → f None ≡ None → slice_get pages page ≡ Some was → cell_in image.bytes o ≡ f (cell_in was.bytes o)
    → option_and_then (λ (i : PageImage). cell_in i.bytes o) (page_of_cells (set pages page image) page) ≡ f (option_and_then (λ (i : PageImage). cell_in i.bytes o) (page_of_cells pages page))
cells_put pages page was image o f none there same =
    ap (λ (g : Option PageImage). option_and_then (λ (i : PageImage). cell_in i.bytes o) (cond (nat_le 10 page) g None)) (slice_get-set_same pages page image (slice_get_within pages page was there))
    ∙ at_page (nat_le 10 page)
    ∙ ap (λ (g : Option PageImage). f (option_and_then (λ (i : PageImage). cell_in i.bytes o) (cond (nat_le 10 page) g None))) (sym there)
  where
    at_page : (b : Bool) → option_and_then (λ (i : PageImage). cell_in i.bytes o) (cond b (Some image) None) ≡ f (option_and_then (λ (i : PageImage). cell_in i.bytes o) (cond b (Some was) None))
    at_page true = same
    at_page false = sym none

-- Where the image of a page is another, and its cells but the one at an offset are as they were, then so are
-- all cells but the one at that address.
pub cell_at-put_other : (old new : List PageImage) (page : ℕ) (was image : PageImage) (offset address : ℕ) → PutsPage old new page was image → offset < 4096 → ((o : ℕ) → o ≢ offset → cell_in image.bytes o ≡ cell_in was.bytes o)
    → address ≢ page * 4096 + offset → cell_at new address ≡ cell_at old address
unfolding cell_at
cell_at-put_other old new page was image offset address puts low same apart =
    let p : ℕ = address / 4096 in
    let o : ℕ = address % 4096 in
    ap (λ (l : List PageImage). option_and_then (λ (i : PageImage). cell_in i.bytes o) (page_of_cells l p)) puts.put
    ∙ elim (cases_eq p page) [
      | inl here ↦
          let others : o ≢ offset = λ e. apart (omega arith) in
          ap (λ (q : ℕ). option_and_then (λ (i : PageImage). cell_in i.bytes o) (page_of_cells (set old page image) q)) here
          ∙ cells_put old page was image o (λ found. found) refl puts.there (same o others)
          ∙ ap (λ (q : ℕ). option_and_then (λ (i : PageImage). cell_in i.bytes o) (page_of_cells old q)) (sym here)
      | inr other ↦ ap (λ (g : Option PageImage). option_and_then (λ (i : PageImage). cell_in i.bytes o) (cond (nat_le 10 p) g None)) (slice_get-set_other old page p image other)
    ]

-- and the one at that address is what the page has there
pub cell_at-put_same : (old new : List PageImage) (page : ℕ) (was image : PageImage) (offset : ℕ) (f : Option PlacedCell → Option PlacedCell) → PutsPage old new page was image → offset < 4096 → f None ≡ None → cell_in image.bytes offset ≡ f (cell_in was.bytes offset)
    → cell_at new (page * 4096 + offset) ≡ f (cell_at old (page * 4096 + offset))
unfolding cell_at
cell_at-put_same old new page was image offset f puts low none same =
    let p : (page * 4096 + offset) / 4096 ≡ page = omega arith in
    let o : (page * 4096 + offset) % 4096 ≡ offset = omega arith in
    rw (p, o)
    (ap (λ (l : List PageImage). option_and_then (λ (i : PageImage). cell_in i.bytes offset) (page_of_cells l page)) puts.put
    ∙ cells_put old page was image offset f none puts.there same)

-- an edit leaves the cells at other addresses
pub cell_at-edited_other : (old new : List PageImage) (address : ℕ) (bytes : List ℕ) (other : ℕ) → EditsAt old new address bytes → other ≢ address → cell_at new other ≡ cell_at old other
cell_at-edited_other old new address bytes other edits apart =
    cell_at-put_other old new edits.page edits.was edits.image edits.offset other edits.puts edits.low (λ o away. cell_in-edited_other edits.was.bytes edits.image.bytes edits.offset o bytes edits.edit away) (λ e. apart (e ∙ sym edits.at))

-- the edited cell has the new bytes
pub cell_at-edited_same : (old new : List PageImage) (address : ℕ) (bytes : List ℕ) → EditsAt old new address bytes → cell_at new address ≡ option_map (placed_with bytes) (cell_at old address)
cell_at-edited_same old new address bytes edits =
    ap (cell_at new) edits.at
    ∙ cell_at-put_same old new edits.page edits.was edits.image edits.offset (option_map (placed_with bytes)) edits.puts edits.low refl (cell_in-edited_same edits.was.bytes edits.image.bytes edits.offset bytes edits.edit)
    ∙ ap (λ a. option_map (placed_with bytes) (cell_at old a)) (sym edits.at)

-- ---- a cell read off its page

pub cell_at-read : (pages : List PageImage) (page offset : ℕ) (image : PageImage) → slice_get pages page ≡ Some image → 10 ≤ page → offset < 4096 → cell_at pages (page * 4096 + offset) ≡ cell_in image.bytes offset
unfolding cell_at
cell_at-read pages page offset image there high low =
    let p : (page * 4096 + offset) / 4096 ≡ page = omega arith in
    let o : (page * 4096 + offset) % 4096 ≡ offset = omega arith in
    rw (p, o)
    (ap (λ (b : Bool). option_and_then (λ (i : PageImage). cell_in i.bytes offset) (cond b (slice_get pages page) None)) (le-leb 10 page high)
    ∙ ap (option_and_then (λ (i : PageImage). cell_in i.bytes offset)) there)

-- where an image has the same cells, so has the list
pub cell_at-put_all : (old new : List PageImage) (page : ℕ) (was image : PageImage) → PutsPage old new page was image → ((o : ℕ) → cell_in image.bytes o ≡ cell_in was.bytes o) → (address : ℕ) → cell_at new address ≡ cell_at old address
unfolding cell_at
cell_at-put_all old new page was image puts same address =
    let p : ℕ = address / 4096 in
    let o : ℕ = address % 4096 in
    ap (λ (l : List PageImage). option_and_then (λ (i : PageImage). cell_in i.bytes o) (page_of_cells l p)) puts.put
    ∙ elim (cases_eq p page) [
      | inl here ↦
          ap (λ (q : ℕ). option_and_then (λ (i : PageImage). cell_in i.bytes o) (page_of_cells (set old page image) q)) here
          ∙ cells_put old page was image o (λ found. found) refl puts.there (same o)
          ∙ ap (λ (q : ℕ). option_and_then (λ (i : PageImage). cell_in i.bytes o) (page_of_cells old q)) (sym here)
      | inr other ↦ ap (λ (g : Option PageImage). option_and_then (λ (i : PageImage). cell_in i.bytes o) (cond (nat_le 10 p) g None)) (slice_get-set_other old page p image other)
    ]

pub page_put : (old new : List PageImage) (page : ℕ) (was image : PageImage) → PutsPage old new page was image → slice_get new page ≡ Some image
page_put old new page was image puts = ap (λ l. slice_get l page) puts.put ∙ slice_get-set_same old page image (slice_get_within old page was puts.there)

-- ---- a cell is added

find-added_other : (o : ℕ) (cells : List Cell) (cell : Cell) → cell.row.offset ≢ o → find (begins_at o) (cells ++ cell ∷ []) ≡ find (begins_at o) cells
find-added_other o [] cell apart = let miss : eqb cell.row.offset o ≡ false = ne_eqb _ _ apart in rw miss refl
find-added_other o (first ∷ cells) cell apart = ap (cond (eqb first.row.offset o) (Some first)) (find-added_other o cells cell apart)

find-none : (o : ℕ) (cells : List Cell) → All (λ cell. cell.row.offset < o) cells → find (begins_at o) cells ≡ None
find-none o [] below = refl
find-none o (first ∷ cells) below =
    let low : first.row.offset < o = below 0 first (omega arith) in
    let miss : eqb first.row.offset o ≡ false = ne_eqb _ _ (λ e. omega arith) in
    rw miss (find-none o cells (λ k d within. below (suc k) d (omega arith)))

find-added_new : (o : ℕ) (cells : List Cell) (cell : Cell) → All (λ cell. cell.row.offset < o) cells → cell.row.offset ≡ o → find (begins_at o) (cells ++ cell ∷ []) ≡ Some cell
find-added_new o [] cell below same = let hit : eqb cell.row.offset o ≡ true = eq-eqb _ _ same in rw hit refl
find-added_new o (first ∷ cells) cell below same =
    let low : first.row.offset < o = below 0 first (omega arith) in
    let miss : eqb first.row.offset o ≡ false = ne_eqb _ _ (λ e. omega arith) in
    rw miss (find-added_new o cells cell (λ k d within. below (suc k) d (omega arith)) same)

-- the cells of a good page begin below their end
begin_below : (bytes : List ℕ) → IsPage bytes → All (λ cell. cell.row.offset < (header_of bytes).end) (cells_of bytes)
begin_below bytes page k d below =
    let apart = IsPage-AreApart bytes page in
    let within = apart.within k d below in
    let some = apart.some k d below in
    omega arith

module _ (old new : List ℕ) (size code serial : ℕ) (adds : AddsCell old new size code serial) where
  pub cell_in-added_other : (o : ℕ) → o ≢ (header_of old).end → cell_in new o ≡ cell_in old o
  unfolding cell_in
  cell_in-added_other o apart =
      ap (λ (h : PageHeader). cond (eqb h.kind 2) (option_map (placed h.segment) (find (begins_at o) (cells_of new))) None) adds.header
      ∙ ap (λ (f : Option Cell). cond (eqb (header_of old).kind 2) (option_map (placed (header_of old).segment) f) None)
      (ap (find (begins_at o)) adds.cells ∙ find-added_other o (cells_of old) (zeroed_cell (live_row (header_of old).end code serial) size) (λ e. apart (sym e)))

  pub cell_in-added_new : (header_of old).kind ≡ 2 → IsPage old → cell_in new (header_of old).end ≡ Some (record { segment = (header_of old).segment; code = code; live = true; serial = serial; bytes = replicate size 0 })
  unfolding cell_in
  cell_in-added_new kind page =
      ap (λ (h : PageHeader). cond (eqb h.kind 2) (option_map (placed h.segment) (find (begins_at (header_of old).end) (cells_of new))) None) adds.header
      ∙ ap (λ b. cond b (option_map (placed (header_of old).segment) (find (begins_at (header_of old).end) (cells_of new))) None) (eq-eqb _ _ kind)
      ∙ ap (option_map (placed (header_of old).segment)) (ap (find (begins_at (header_of old).end)) adds.cells ∙ find-added_new (header_of old).end (cells_of old) (zeroed_cell (live_row (header_of old).end code serial) size) (begin_below old page) refl)

  pub cell_in-added_none : IsPage old → cell_in old (header_of old).end ≡ None
  unfolding cell_in
  cell_in-added_none page = cond_none (eqb (header_of old).kind 2) _ (ap (option_map (placed (header_of old).segment)) (find-none (header_of old).end (cells_of old) (begin_below old page)))
    where
      cond_none : (b : Bool) (x : Option PlacedCell) → x ≡ None → cond b x None ≡ None
      cond_none true x e = e
      cond_none false x e = refl
