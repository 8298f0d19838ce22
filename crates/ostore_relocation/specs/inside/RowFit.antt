-- What is asked of a row and of the end of its cell.
use Rattle.std.specs.Prelude.{◌≡◌, ℕ, ◌+◌, IsTrue}
use Rattle.ostore_schema_layout.specs.declared.schema.Schema.{Schema}
use Rattle.ostore_schema_layout.specs.Cells.{HasCode, code_size}
use Rattle.ostore_page_tags.specs.declared.tag_rows.Row.{Row}

-- a live row has a code of the schema, and its cell that code's size
abbrev pub IsRowFit : Schema → Row → ℕ → Type 0
IsRowFit schema row end = IsTrue row.live → HasCode schema row.code × (row.offset + code_size schema row.code ≡ end)
