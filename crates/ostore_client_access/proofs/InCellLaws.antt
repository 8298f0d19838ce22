-- Bytes in a live cell of a page, beside the cell's pointers.
use Rattle.std.proofs.Common.{◌≡◌, ℕ, Bool, ◌+◌, ◌<◌, ◌≤◌, true, List, length, get_or, Some, refl, sym, ap, subst, ◌∙◌, arith}
use Rattle.std.specs.List.{AllByRecursion, Contains, slice_get}
use Rattle.std.specs.Option.{option_map}
use Rattle.std.proofs.lemmas.Bool.{le-leb, eq-eqb}
use Rattle.std.proofs.lemmas.Option.{slice_get-map, slice_get-get_or}
use Rattle.std.proofs.lemmas.List.Elements.{All-from_recursion, recursion_from_All, at_from_Contains}
use Rattle.ostore_base.specs.Disk.{replaced}
use Rattle.ostore_base.specs.declared.page.PageImage.{PageImage}
use Rattle.ostore_schema_layout.specs.declared.schema.Schema.{Schema}
use Rattle.ostore_schema_layout.specs.Cells.{pointers_of}
use Rattle.ostore_page_tags.specs.declared.tag_rows.Row.{Row}
use Rattle.ostore_page_tags.specs.Header.{header_of}
use Rattle.ostore_page_tags.specs.Rows.{rows_of}
use Rattle.ostore_page_tags.specs.Cells.{Cell, cells_of}
use Rattle.ostore_page_tags.specs.Rules.{IsPage}
use Rattle.ostore_page_tags.specs.PageLists.{bytes_at}
use Rattle.ostore_page_tags.proofs.parts.ApartLaws.{IsPage-AreApart}
use Rattle.ostore_page_tags.proofs.shape.PageShape.{IsPage-shape}
use Rattle.ostore_page_tags.proofs.walks.NthLaws.{rows_counted}
use Rattle.ostore_relocation.specs.Places.{IsBeside}
use Rattle.ostore_relocation.specs.Fitness.{HasCells, IsCellOf}
use Rattle.ostore_relocation.proofs.CellBytes.{LieInCell, puts_in_cell, stays_cells}
use Rattle.ostore_segments.specs.Edits.{HasBytesInCell}
use Rattle.ostore_segments.specs.SchemaCells.{size_told}
use Rattle.ostore_page_service.specs.Told.{Told}
use Rattle.ostore_graph_model.specs.declared.history.Entry.{Entry}
use Rattle.std.specs.Borrow.{GName}
use Rattle.ostore_client_core.specs.Cells.{AreCellsOf, HasCellsOf}
use Rattle.ostore_client_core.specs.Clients.{ClientView}
use Rattle.ostore_client_access.specs.Accesses.{access_told}
use Rattle.ostore_client_access.proofs.CellPointers.{row_of_cell, rows_are, cells_counted}
use Rattle.ostore_client_access.proofs.BridgeLaws.{IsPut, told_code}

-- some bytes of a page lie in a live cell, beside its pointers
pub record LiesIn (schema : Schema) (page offset at n : ℕ) (bytes : List ℕ) : Type 0 where
  pub low : 10 ≤ page
  pub good : IsPage bytes
  pub cell : Cell
  pub there : Contains (cells_of bytes) cell
  pub begins : cell.row.offset ≡ offset
  pub live : cell.row.live ≡ true
  pub sized : size_told schema cell.row.code ≡ Some (length cell.bytes)
  pub within : at + n ≤ length cell.bytes
  pub beside : AllByRecursion (IsBeside at n) (pointers_of schema cell.row.code)

pub lies_in : (t : Told Entry) (k : Bool) (behind : List GName) (x : ClientView) (page offset at n : ℕ) (list : List PageImage) → HasBytesInCell (access_told k t x behind) page offset at n list → LiesIn x.schema page offset at n (bytes_at list page)
lies_in t k behind x page offset at n list has = record {
  low = has.lies.0;
  good = has.good;
  cell = has.cell;
  there = has.there;
  begins = has.begins;
  live = has.live;
  sized = has.sized;
  within = has.within;
  beside = has.beside;
}

page_cells : (schema : Schema) (bytes : List ℕ) → HasCells schema bytes → AreCellsOf schema bytes
page_cells schema bytes has =
    let apart = IsPage-AreApart bytes has.page in
    let room = (IsPage-shape bytes has.page).room in
    record {
      sized = All-from_recursion (IsCellOf schema) (cells_of bytes) has.cells;
      behind = apart.behind;
      before = λ k d below. (let within = apart.within k d below in omega arith);
      apart = apart.apart;
    }

pub put_in_cell : (schema : Schema) (page offset at : ℕ) (bytes held : List ℕ) → HasCellsOf schema page held → LiesIn schema page offset at (length bytes) held → IsPut schema page (offset + at) bytes held
put_in_cell schema page offset at bytes held has lies =
    let found = at_from_Contains (cells_of held) lies.cell lies.there in
    let i : ℕ = found.0 in
    let below : i < length (cells_of held) = found.1 in
    let read : get_or (cells_of held) i lies.cell ≡ lies.cell = found.2 lies.cell in
    let count = cells_counted held in
    let rows = rows_counted held in
    let row_is : slice_get (rows_of held) i ≡ Some lies.cell.row =
    ap (λ (l : List Row). slice_get l i) (sym (rows_are held)) ∙ slice_get-map row_of_cell (cells_of held) i
    ∙ ap (option_map row_of_cell) (slice_get-get_or (cells_of held) i lies.cell below ∙ ap Some read) in
    let shape = IsPage-shape held lies.good in
    let size = (told_code schema lies.cell.row.code (length lies.cell.bytes) lies.sized).1 in
    let within = lies.within in
    let in_row : LieInCell schema page held i lies.cell.row at (length bytes) = record {
      objects = rw (le-leb 10 page lies.low, eq-eqb (header_of held).kind 2 shape.kind) refl;
      cells = record { page = lies.good; cells = recursion_from_All (IsCellOf schema) (cells_of held) (has lies.low).sized };
      there = omega arith;
      row_is = row_is;
      live = lies.live;
      within = omega arith;
      beside = lies.beside;
    } in
    subst (λ (n : ℕ). IsPut schema page (n + at) bytes held) lies.begins (record {
      puts = puts_in_cell schema page bytes held i lies.cell.row at in_row;
      cells = λ ten. page_cells schema (replaced (lies.cell.row.offset + at) bytes held) (stays_cells schema page bytes held i lies.cell.row at in_row).cells;
    })
