-- The tag rows of a page. They stand at its end, the first one last, and each has the cell's offset, a code, a
-- state and a serial.
use Rattle.std.specs.Prelude.{ℕ, ◌+◌, ◌-◌, ◌*◌, ◌==◌, List, map, Option}
use Rattle.std.specs.List.{range_with_len, find}
use Rattle.ostore_base.specs.declared.page.TheConstants.{PAGE_SIZE}
use Rattle.ostore_page_tags.specs.declared.layout.TheConstants.{ROW_BYTES, CODE_IN_ROW, STATE_IN_ROW, SERIAL_IN_ROW, LIVE_STATE}
use Rattle.ostore_page_tags.specs.declared.tag_rows.Row.{Row}
use Rattle.ostore_page_tags.specs.Numbers.{number_at}
use Rattle.ostore_page_tags.specs.Header.{header_of}

-- where row i stands
abbrev pub row_place : ℕ → ℕ
row_place i = PAGE_SIZE - ROW_BYTES * (i + 1)

-- row i
abbrev pub row_in : List ℕ → ℕ → Row
row_in bytes i = record {
  offset = number_at 2 (row_place i) bytes;
  code = number_at 1 (row_place i + CODE_IN_ROW) bytes;
  live = number_at 1 (row_place i + STATE_IN_ROW) bytes == LIVE_STATE;
  serial = number_at 4 (row_place i + SERIAL_IN_ROW) bytes;
}

-- the state of row i, as it is stored
abbrev pub state_in : List ℕ → ℕ → ℕ
state_in bytes i = number_at 1 (row_place i + STATE_IN_ROW) bytes

-- the rows in their order
abbrev pub rows_of : List ℕ → List Row
rows_of bytes = map (row_in bytes) (range_with_len 0 (header_of bytes).rows)

abbrev pub states_of : List ℕ → List ℕ
states_of bytes = map (state_in bytes) (range_with_len 0 (header_of bytes).rows)

-- the first row whose cell is at an offset; in a good page there is one at most
abbrev pub row_at : List ℕ → ℕ → Option Row
row_at bytes offset = find (λ row. row.offset == offset) (rows_of bytes)

-- the first row with a serial
abbrev pub row_of : List ℕ → ℕ → Option Row
row_of bytes serial = find (λ row. row.serial == serial) (rows_of bytes)
