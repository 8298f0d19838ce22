-- What a schema tells of the cells of each code.
use Rattle.std.specs.Prelude.{ℕ, ◌||◌, ◌&&◌, nat_le, if◌then◌else◌, Bool, true, [], length, Option, Some, None}
use Rattle.ostore_schema_layout.specs.declared.schema.Schema.{Schema}
use Rattle.ostore_schema_layout.specs.Cells.{code_size, pointers_of}
use Rattle.ostore_page_tags.specs.Rules.{is_chunk_code}
use Rattle.ostore_segments.specs.Holdings.{PagesTold}

-- the code of a type of the schema, or that of a chunk or a descriptor
abbrev pub is_told : Schema → ℕ → Bool
is_told schema code = (nat_le 1 code && nat_le code (length schema.types)) || is_chunk_code code

-- the size of a cell of such a code
abbrev pub size_told : Schema → ℕ → Option ℕ
size_told schema code = if is_told schema code then Some (code_size schema code) else None

-- what is told of cells by a schema, of pages that may be changed and have no borrow behind them
abbrev pub told_of : Schema → PagesTold
told_of schema = record {
  sizes = size_told schema;
  pointers = pointers_of schema;
  may_edit = true;
  behind = [];
}
