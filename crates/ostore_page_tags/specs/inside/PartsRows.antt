-- Where the rows of a page are parted by an offset.
use Rattle.std.specs.Prelude.{ℕ, ◌<◌, ◌≤◌, List, length}
use Rattle.ostore_page_tags.specs.Rows.{row_in, rows_of}

-- the cells of the rows before row i begin before the offset, and those of row i and of the later ones don't
pub record PartsRows (bytes : List ℕ) (offset i : ℕ) : Type 0 where
  pub within : i ≤ length (rows_of bytes)
  pub before : (j : ℕ) → j < i → (row_in bytes j).offset < offset
  pub behind : (j : ℕ) → i ≤ j → j < length (rows_of bytes) → offset ≤ (row_in bytes j).offset
