-- What is asked of the bytes of one cell, whatever else the pages have: the size and zeros of rule 10.
use Rattle.std.specs.Prelude.{ℕ, ◌+◌, ◌*◌, Bool, true, ◌&&◌, ◌==◌, nat_le, if◌then◌else◌, List, drop}
use Rattle.std.specs.List.{list_all, range_with_len}
use Rattle.std.specs.Str.{is_utf8}
use Rattle.ostore_page_tags.specs.Numbers.{number_at}
use Rattle.ostore_base.specs.declared.cell_codes.TheConstants.{SET_CHUNK, TEXT_DICTIONARY_CHUNK, INDEX_DESCRIPTOR, INT_INDEX_CHUNK, TEXT_INDEX_CHUNK, COUNT_IN_CHUNK}
use Rattle.ostore_page_tags.specs.Cells.{between}
use Rattle.ostore_page_tags.specs.Rules.{are_zero}
use Rattle.ostore_schema_layout.specs.declared.schema.Schema.{Schema}
use Rattle.ostore_schema_layout.specs.declared.schema.MemberKind.{MemberKind}
use Rattle.ostore_schema_layout.specs.declared.schema.MemberKind.TheVariants as kinds
use Rattle.ostore_schema_layout.specs.declared.layouts.Place.{Place}
use Rattle.ostore_schema_layout.specs.Cells.{in_fours, places_from, chunk_of}
use Rattle.ostore_schema_layout.specs.Numbers.{members_of}
use Rattle.ostore_graph_model.specs.Limits.{longest_key}
use Rattle.ostore_graph_model.specs.Addresses.{PlacedCell}
use Rattle.ostore_graph_model.specs.MemberValues.{text_at}
use Rattle.ostore_graph_model.specs.Chunks.{count_in, entry_place, name_place, name_bytes, steps_in_descriptor, path_in_descriptor, step_bytes}
use Rattle.ostore_graph_model.specs.Records.{is_sized}

-- ---- objects

-- A text is short enough and UTF-8, and zeros fill its room up to a place. The zeros belong to this rule, and
-- not to the one on headers.
abbrev pub is_text_written : ℕ → ℕ → ℕ → List ℕ → Bool
is_text_written max at stop bytes =
    nat_le (number_at 1 at bytes) max && is_utf8 (text_at at max bytes) && are_zero (between (at + 1 + number_at 1 at bytes) stop bytes)

abbrev pub is_kind_written : List ℕ → ℕ → MemberKind → Bool
is_kind_written bytes at kinds.Int = true
is_kind_written bytes at (kinds.Text max) = is_text_written max at (at + in_fours (1 + max)) bytes
is_kind_written bytes at (kinds.Ref target) = true
is_kind_written bytes at (kinds.Set target) = true
is_kind_written bytes at (kinds.List target) = true
is_kind_written bytes at (kinds.DictInt target) = true
is_kind_written bytes at (kinds.DictText target) = true

abbrev pub is_member_written : List ℕ → Place → Bool
is_member_written bytes place = is_kind_written bytes place.offset place.kind

abbrev pub is_object_written : Schema → ℕ → List ℕ → Bool
is_object_written schema code bytes = list_all (is_member_written bytes) (places_from 0 (members_of schema code))

-- ---- chunks and descriptors

-- the text key of an entry of chunks of a code: its room ends where the pointer begins
abbrev pub is_key_written : ℕ → ℕ → List ℕ → Bool
is_key_written code at bytes = is_text_written longest_key at (at + (chunk_of code).pointer_at) bytes

-- the zeros at the end of an index's entry, behind the name
abbrev pub is_end_written : ℕ → ℕ → List ℕ → Bool
is_end_written code at bytes =
    are_zero (between (at + (name_place code + name_bytes)) (at + (chunk_of code).entry_size) bytes)

-- an entry's text key, and the zeros at its end
abbrev pub is_entry_written : ℕ → ℕ → List ℕ → Bool
is_entry_written code at bytes =
    if code == TEXT_DICTIONARY_CHUNK then is_key_written TEXT_DICTIONARY_CHUNK at bytes
    else if code == INT_INDEX_CHUNK then is_end_written INT_INDEX_CHUNK at bytes
    else if code == TEXT_INDEX_CHUNK then is_key_written TEXT_INDEX_CHUNK at bytes && is_end_written TEXT_INDEX_CHUNK at bytes
    else true

-- no more entries than there is room for, and zeros behind them
abbrev pub is_chunk_written : ℕ → List ℕ → Bool
is_chunk_written code bytes =
    nat_le (count_in bytes) (chunk_of code).entries && number_at 2 (COUNT_IN_CHUNK + 2) bytes == 0
    && list_all (λ i. is_entry_written code (entry_place code i) bytes) (range_with_len 0 (count_in bytes))
    && are_zero (drop (entry_place code (count_in bytes)) bytes)

-- the steps behind those in use are zero; how many steps are lawful is asked with the index
abbrev pub is_descriptor_written : List ℕ → Bool
is_descriptor_written bytes =
    are_zero (drop (path_in_descriptor + step_bytes * number_at 1 steps_in_descriptor bytes) bytes)

-- ---- any cell

abbrev pub is_code_written : Schema → ℕ → List ℕ → Bool
is_code_written schema code bytes =
    if code == INDEX_DESCRIPTOR then is_descriptor_written bytes
    else if nat_le SET_CHUNK code then is_chunk_written code bytes
    else is_object_written schema code bytes

-- what a live cell's code asks of its bytes; a dead cell is zero
abbrev pub is_filled : Schema → PlacedCell → Bool
is_filled schema cell = if cell.live then is_code_written schema cell.code cell.bytes else are_zero cell.bytes

-- a cell, live or dead, has the size of its code, and is filled as it should be
abbrev pub is_written : Schema → PlacedCell → Bool
is_written schema cell = is_sized schema cell.code cell.bytes && is_filled schema cell
