-- What makes an image a page of objects: five rules, of which the first that fails names the fault.
use Rattle.std.specs.Prelude.{◌≡◌, ℕ, ◌+◌, ◌-◌, ◌*◌, ◌%◌, Bool, true, ◌&&◌, ◌||◌, not, ◌==◌, nat_lt, nat_le, if◌then◌else◌, max, List, [], ◌∷◌, length, map, Option, Some, None, Result, Ok, Err}
use Rattle.std.specs.List.{list_all}
use Rattle.ostore_base.specs.declared.page.TheConstants.{PAGE_SIZE}
use Rattle.ostore_page_tags.specs.declared.layout.TheConstants.{OBJECTS_KIND, HEADER_BYTES, SPARE_AT, FIELDS_END, ROW_BYTES, CELL_STEP, LIVE_STATE}
use Rattle.ostore_base.specs.declared.cell_codes.TheConstants.{SET_CHUNK, TEXT_INDEX_CHUNK}
use Rattle.ostore_page_tags.specs.declared.check.PageFault.{PageFault}
use Rattle.ostore_page_tags.specs.declared.check.PageFault.TheVariants.{BadHeader, RowsOverlap, RowOrder, BadType, CellPastEnd}
use Rattle.ostore_page_tags.specs.Limits.{most_types}
use Rattle.ostore_page_tags.specs.Numbers.{number_at}
use Rattle.ostore_page_tags.specs.Header.{header_of}
use Rattle.ostore_page_tags.specs.Rows.{rows_of, states_of}
use Rattle.ostore_page_tags.specs.Cells.{between}

abbrev pub are_zero : List ℕ → Bool
are_zero bytes = list_all (λ byte. byte == 0) bytes

-- the bytes between the cells and the rows, which begin behind the header also where the cells' end is
-- wrong
abbrev pub gap_of : List ℕ → List ℕ
gap_of bytes = between (max HEADER_BYTES (header_of bytes).end) (PAGE_SIZE - ROW_BYTES * (header_of bytes).rows) bytes

-- rule 1: the kind is that of object pages, and the bytes that belong to nothing are zero
abbrev pub has_good_header : List ℕ → Bool
has_good_header bytes =
    (header_of bytes).kind == OBJECTS_KIND && number_at 2 SPARE_AT bytes == 0
    && are_zero (between FIELDS_END HEADER_BYTES bytes) && are_zero (gap_of bytes)

-- rule 2: the rows begin behind the cells
abbrev pub have_rows_room : List ℕ → Bool
have_rows_room bytes =
    nat_le (ROW_BYTES * (header_of bytes).rows + (header_of bytes).end) PAGE_SIZE

-- offsets rise, each time by a multiple of the step
abbrev pub rise_by_step : List ℕ → Bool
rise_by_step [] = true
rise_by_step (offset ∷ []) = true
rise_by_step (offset ∷ next ∷ offsets) =
    nat_lt offset next && (next - offset) % CELL_STEP == 0 && rise_by_step (next ∷ offsets)

abbrev pub begin_at : ℕ → List ℕ → Bool
begin_at first [] = true
begin_at first (offset ∷ offsets) = offset == first

abbrev pub offsets_of : List ℕ → List ℕ
offsets_of bytes = map (λ row. row.offset) (rows_of bytes)

-- rule 3: the first cell is directly behind the header, the offsets rise, and a row is dead or live
abbrev pub are_rows_in_order : List ℕ → Bool
are_rows_in_order bytes =
    begin_at HEADER_BYTES (offsets_of bytes) && rise_by_step (offsets_of bytes)
    && list_all (λ state. nat_le state LIVE_STATE) (states_of bytes)

-- the code of a type of the schema, and that of a chunk or a descriptor
abbrev pub is_type_code : ℕ → Bool
is_type_code code = nat_le 1 code && nat_le code most_types

abbrev pub is_chunk_code : ℕ → Bool
is_chunk_code code = nat_le SET_CHUNK code && nat_le code TEXT_INDEX_CHUNK

-- an object has a serial, and a chunk or a descriptor has none
abbrev pub is_tag : ℕ → ℕ → Bool
is_tag code serial =
    (is_type_code code && not (serial == 0)) || (is_chunk_code code && serial == 0)

-- rule 4: each row has a code, and a serial exactly where it is an object's
abbrev pub have_rows_types : List ℕ → Bool
have_rows_types bytes = list_all (λ row. is_tag row.code row.serial) (rows_of bytes)

-- the last of the offsets is below the end; where there is none, the end is the header's
abbrev pub end_behind : ℕ → List ℕ → Bool
end_behind end [] = end == HEADER_BYTES
end_behind end (offset ∷ []) = nat_lt offset end
end_behind end (offset ∷ next ∷ offsets) = end_behind end (next ∷ offsets)

-- rule 5: the last cell has bytes, and the cells end at a multiple of the step
abbrev pub is_end_behind_cells : List ℕ → Bool
is_end_behind_cells bytes =
    end_behind (header_of bytes).end (offsets_of bytes) && (header_of bytes).end % CELL_STEP == 0

-- the first rule that fails, if any
unfoldable pub first_fault : List ℕ → Option PageFault
first_fault bytes =
    if not (has_good_header bytes) then Some BadHeader
    else if not (have_rows_room bytes) then Some RowsOverlap
    else if not (are_rows_in_order bytes) then Some RowOrder
    else if not (have_rows_types bytes) then Some BadType
    else if not (is_end_behind_cells bytes) then Some CellPastEnd
    else None

-- the fault of a check, if any
abbrev pub fault_of : {T : Type 0} → Result T PageFault → Option PageFault
fault_of (Ok value) = None
fault_of (Err fault) = Some fault

-- the image is a good page of objects
pub record IsPage (bytes : List ℕ) : Type 0 where
  pub whole : length bytes ≡ PAGE_SIZE
  pub lawful : first_fault bytes ≡ None
