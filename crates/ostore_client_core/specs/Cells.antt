-- What holds of the cells of a page at each moment of an attempt, also where the page isn't good for a while, as
-- between the two edits that add a cell.
use Rattle.std.specs.Prelude.{ℕ, ◌+◌, ◌-◌, ◌*◌, ◌≤◌, List, length}
use Rattle.std.specs.List.{All, AllPairs}
use Rattle.ostore_page_tags.specs.Header.{header_of}
use Rattle.ostore_page_tags.specs.Cells.{cells_of}
use Rattle.ostore_schema_layout.specs.declared.schema.Schema.{Schema}
use Rattle.ostore_relocation.specs.Fitness.{IsCellOf}

-- live cells are the schema's, and all lie apart, behind the header and before the tag rows
pub record AreCellsOf (schema : Schema) (bytes : List ℕ) : Type 0 where
  pub sized : All (IsCellOf schema) (cells_of bytes)
  pub behind : All (λ cell. 32 ≤ cell.row.offset) (cells_of bytes)
  pub before : All (λ cell. cell.row.offset + length cell.bytes ≤ 4096 - 8 * (header_of bytes).rows) (cells_of bytes)
  pub apart : AllPairs (λ cell later. cell.row.offset + length cell.bytes ≤ later.row.offset) (cells_of bytes)

-- of the first ten pages nothing is asked
abbrev pub HasCellsOf : Schema → ℕ → List ℕ → Type 0
HasCellsOf schema page bytes = 10 ≤ page → AreCellsOf schema bytes
