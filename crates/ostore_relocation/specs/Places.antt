-- Where the pointers of a page stand, by the schema of its objects.
use Rattle.std.specs.Prelude.{ℕ, List}
use Rattle.ostore_schema_layout.specs.declared.schema.Schema.{Schema}
use Rattle.ostore_schema_layout.specs.Cells.{pointers_of}
use Rattle.ostore_page_tags.specs.declared.tag_rows.Row.{Row}
pub use Rattle.ostore_page_tags.specs.PagePointers.{holds_objects, root_place, name_length, root_pointer, LieBetween, IsOutside, IsBeside, IsOneOf}
unfoldable pub use Rattle.ostore_page_tags.specs.PagePointers.{root_pointers}
use Rattle.ostore_page_tags.specs.PagePointers as places

-- the pointers of a row's cell; a dead row has none
abbrev pub row_pointers : Schema → Row → List ℕ
row_pointers schema row = places.row_pointers (pointers_of schema) row

abbrev pub cell_pointers : Schema → List ℕ → List ℕ
cell_pointers schema bytes = places.cell_pointers (pointers_of schema) bytes

-- the places of a page's pointers, by the page's number
abbrev pub page_pointers : Schema → ℕ → List ℕ → List ℕ
page_pointers schema page bytes = places.page_pointers (pointers_of schema) page bytes
