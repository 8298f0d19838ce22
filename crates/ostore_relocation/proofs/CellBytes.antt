-- Bytes that are put inside a live row's cell, beside its own pointers.
use Rattle.std.proofs.Common.{◌≡◌, ℕ, ◌+◌, ◌<◌, ◌≤◌, true, eqb, List, [], ◌++◌, length, Some, Option, refl, sym, ap, subst, ◌∙◌, arith, inl, inr}
use Rattle.std.specs.List.{AllByRecursion, flat_map, slice_get}
use Rattle.std.proofs.lemmas.List.{append-nil}
use Rattle.ostore_base.specs.Disk.{replaced}
use Rattle.ostore_base.specs.declared.numbers.PageNo.{PageNo}
use Rattle.ostore_schema_layout.specs.declared.schema.Schema.{Schema}
use Rattle.ostore_schema_layout.specs.Cells.{code_size, pointers_of}
use Rattle.ostore_page_tags.specs.declared.tag_rows.Row.{Row}
use Rattle.ostore_page_tags.specs.Rows.{rows_of}
use Rattle.ostore_page_tags.proofs.bytes.ImageLaws.{length-replaced_within}
use Rattle.ostore_page_tags.proofs.shape.PageShape.{rows_in, end_in, offset_in, IsPage-shape}
use Rattle.ostore_page_tags.proofs.changes.DeadLaws.{stop_in}
use Rattle.ostore_page_tags.proofs.walks.NthLaws.{rows_counted}
use Rattle.ostore_address_space.specs.Frames.{AreFrames}
use Rattle.ostore_relocation.specs.Places.{IsBeside, LieBetween, cell_pointers, holds_objects, page_pointers, row_pointers}
use Rattle.ostore_relocation.specs.Pointers.{stored_pointer, with_pointers}
use Rattle.ostore_relocation.specs.Fitness.{HasCells}
use Rattle.ostore_relocation.specs.Forms.{IsResidentPage, pointers_end, stored_form}
use Rattle.ostore_relocation.specs.Stores.{PutsBeside, StoresAs}
use Rattle.ostore_relocation.proofs.StoreLaws.{out_kept}
use Rattle.ostore_relocation.proofs.PageLaws.{Keeps, StaysPage, changed_page, lie_cells, row_of_schema, row_read, stays_page}
use Rattle.ostore_relocation.proofs.FormLaws.{is_data_same, lie_end, pages_of_cells}
use Rattle.ostore_relocation.proofs.BesideLaws.{puts_beside}
use Rattle.ostore_relocation.proofs.RowPointers.{not_nine}
use Rattle.ostore_relocation.proofs.RowBytes.{beside_page}

-- bytes that lie in the cell of a live row of a page of objects, beside its pointers
pub record LieInCell (schema : Schema) (page : ℕ) (held : List ℕ) (i : ℕ) (row : Row) (at n : ℕ) : Type 0 where
  pub objects : holds_objects page held ≡ true
  pub cells : HasCells schema held
  pub there : i < length (rows_of held)
  pub row_is : slice_get (rows_of held) i ≡ Some row
  pub live : row.live ≡ true
  pub within : at + n ≤ code_size schema row.code
  pub beside : AllByRecursion (IsBeside at n) (pointers_of schema row.code)

record IsInside (held : List ℕ) (start n : ℕ) : Type 0 where
  pub low : 32 ≤ start
  pub high : start + n ≤ end_in held
  pub most : end_in held ≤ 4096
  pub whole : length held ≡ 4096

inside : (schema : Schema) (page : ℕ) (held : List ℕ) (i : ℕ) (row : Row) (at n : ℕ) → LieInCell schema page held i row at n → IsInside held (row.offset + at) n
inside schema page held i row at n lies =
    let below : i < rows_in held = let there = lies.there in omega (arith, rows_counted held) in
    let same = row_read held i row below lies.row_is in
    let is = row_of_schema schema held lies.cells i below in
    let shape = IsPage-shape held lies.cells.page in
    let room = shape.room in
    let above = is.range.above in
    let most = is.range.most in
    let size = is.size (ap (λ (r : Row). r.live) same ∙ lies.live) in
    let offset : offset_in held i ≡ row.offset = ap (λ (r : Row). r.offset) same in
    let code = ap (λ (r : Row). code_size schema r.code) same in
    let within = lies.within in
    record { low = omega arith; high = omega arith; most = omega arith; whole = shape.whole }

-- the page stays one of objects, with the same rows
pub stays_cells : (schema : Schema) (page : ℕ) (bytes held : List ℕ) (i : ℕ) (row : Row) (at : ℕ) → LieInCell schema page held i row at (length bytes) → StaysPage schema held (replaced (row.offset + at) bytes held)
stays_cells schema page bytes held i row at lies =
    let start : ℕ = row.offset + at in
    let is = inside schema page held i row at (length bytes) lies in
    let low = is.low in
    let high = is.high in
    let most = is.most in
    let whole = is.whole in
    let within : start + length bytes ≤ length held = omega arith in
    stays_page schema held (replaced start bytes held) lies.cells (record {
      long = length-replaced_within start bytes held within;
      before = λ k less. out_kept start k bytes held within (inl (omega arith));
      behind = λ k more. out_kept start k bytes held within (inr (omega arith));
    })

same_places : (schema : Schema) (page : ℕ) (old new : List ℕ) → holds_objects page old ≡ true → StaysPage schema old new → page_pointers schema page new ≡ page_pointers schema page old
same_places schema page old new objects stays =
    let apart = not_nine page old (eqb page 9) refl objects in
    pages_of_cells schema page new apart (is_data_same page old new stays.header ∙ objects)
    ∙ ap (flat_map (row_pointers schema)) stays.rows ∙ sym (pages_of_cells schema page old apart objects)

pub puts_in_cell : (schema : Schema) (page : ℕ) (bytes held : List ℕ) (i : ℕ) (row : Row) (at : ℕ) → LieInCell schema page held i row at (length bytes) → PutsBeside schema page (row.offset + at) bytes held
puts_in_cell schema page bytes held i row at lies =
    let start : ℕ = row.offset + at in
    let new : List ℕ = replaced start bytes held in
    let is = inside schema page held i row at (length bytes) lies in
    let high = is.high in
    let most = is.most in
    let whole = is.whole in
    let stays = stays_cells schema page bytes held i row at lies in
    let long : length new ≡ 4096 = length-replaced_within start bytes held (omega arith) ∙ whole in
    record {
      within = omega arith;
      beside = beside_page schema page held i row at (length bytes) lies.objects lies.cells lies.there lies.row_is lies.live lies.within lies.beside;
      added = [];
      places = same_places schema page held new lies.objects stays ∙ sym (append-nil (page_pointers schema page held));
      zeros = tt;
      lie = lie_end schema page new long (λ objects. stays.cells);
    }

-- the stored form has the same rows
stored_lies : (schema : Schema) (page : ℕ) (held stored : List ℕ) (i : ℕ) (row : Row) (at n : ℕ) → StaysPage schema held stored → LieInCell schema page held i row at n → LieInCell schema page stored i row at n
stored_lies schema page held stored i row at n stays lies = record {
  objects = is_data_same page held stored stays.header ∙ lies.objects;
  cells = stays.cells;
  there = subst (λ (l : List Row). i < length l) (sym stays.rows) lies.there;
  row_is = ap (λ (l : List Row). slice_get l i) stays.rows ∙ lies.row_is;
  live = lies.live;
  within = lies.within;
  beside = lies.beside;
}

pub cell_stored : (pages : List (Option PageNo)) (schema : Schema) (page : ℕ) (bytes held : List ℕ) (i : ℕ) (row : Row) (at : ℕ) → AreFrames pages → IsResidentPage pages schema page held → LieInCell schema page held i row at (length bytes)
    → StoresAs pages schema page (replaced (row.offset + at) bytes held) (replaced (row.offset + at) bytes (stored_form pages schema page held))
cell_stored pages schema page bytes held i row at are resident lies =
    let change : ℕ → ℕ = stored_pointer pages in
    let places : page_pointers schema page held ≡ cell_pointers schema held = pages_of_cells schema page held (not_nine page held (eqb page 9) refl lies.objects) lies.objects in
    let stays : StaysPage schema held (stored_form pages schema page held) =
    subst (λ (l : List ℕ). StaysPage schema held (with_pointers change l held)) (sym places) (changed_page change schema (cell_pointers schema held) held lies.cells (lie_cells schema held lies.cells)) in
    puts_beside pages schema page (row.offset + at) bytes held are resident
    (puts_in_cell schema page bytes (stored_form pages schema page held) i row at (stored_lies schema page held (stored_form pages schema page held) i row at (length bytes) stays lies))
