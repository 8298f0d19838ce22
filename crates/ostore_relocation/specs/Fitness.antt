-- Which images can be relocated.
use Rattle.std.specs.Prelude.{◌≡◌, ◌<◌, ℕ, IsTrue, List, length}
use Rattle.std.specs.List.{AllByRecursion}
use Rattle.ostore_base.specs.Limits.{most_pages}
use Rattle.ostore_schema_layout.specs.declared.schema.Schema.{Schema}
use Rattle.ostore_schema_layout.specs.Cells.{HasCode, code_size}
use Rattle.ostore_page_tags.specs.Numbers.{number_at}
use Rattle.ostore_page_tags.specs.Cells.{Cell, cells_of}
use Rattle.ostore_page_tags.specs.Rules.{IsPage}
use Rattle.ostore_relocation.specs.Places.{holds_objects, page_pointers}
use Rattle.ostore_relocation.specs.Pointers.{target}

-- a live cell has a code of the schema, and that code's size
abbrev pub IsCellOf : Schema → Cell → Type 0
IsCellOf schema cell =
    IsTrue cell.row.live → HasCode schema cell.row.code × (length cell.bytes ≡ code_size schema cell.row.code)

-- a good page whose live cells are cells of the schema
pub record HasCells (schema : Schema) (bytes : List ℕ) : Type 0 where
  pub page : IsPage bytes
  pub cells : AllByRecursion (IsCellOf schema) (cells_of bytes)

-- on a page of objects the cells are those of the schema; of other pages nothing is asked
abbrev pub IsFit : Schema → ℕ → List ℕ → Type 0
IsFit schema page bytes = IsTrue (holds_objects page bytes) → HasCells schema bytes

-- the pointers at some places lead to pages that a database can have
abbrev pub LeadToPages : List ℕ → List ℕ → Type 0
LeadToPages bytes places = AllByRecursion (λ at. target (number_at 4 at bytes) < most_pages) places

-- the page's pointers do
abbrev pub LeadsToPages : Schema → ℕ → List ℕ → Type 0
LeadsToPages schema page bytes = LeadToPages bytes (page_pointers schema page bytes)
