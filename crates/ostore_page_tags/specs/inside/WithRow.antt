-- An image with a tag row written.
use Rattle.std.specs.Prelude.{ℕ, ◌+◌, Bool, if◌then◌else◌, List}
use Rattle.ostore_page_tags.specs.declared.layout.TheConstants.{CODE_IN_ROW, STATE_IN_ROW, SERIAL_IN_ROW, DEAD_STATE, LIVE_STATE}
use Rattle.ostore_page_tags.specs.declared.tag_rows.Row.{Row}
use Rattle.ostore_page_tags.specs.Numbers.{with_number}
use Rattle.ostore_page_tags.specs.Rows.{row_place}

-- the state of a row, as it is stored
abbrev pub state_number : Bool → ℕ
state_number live = if live then LIVE_STATE else DEAD_STATE

-- the image with row i written, and its other bytes as they were
abbrev pub with_row : ℕ → Row → List ℕ → List ℕ
with_row i row bytes =
    with_number 4 (row_place i + SERIAL_IN_ROW) row.serial
    (with_number 1 (row_place i + STATE_IN_ROW) (state_number row.live)
    (with_number 1 (row_place i + CODE_IN_ROW) row.code
    (with_number 2 (row_place i) row.offset bytes)))
