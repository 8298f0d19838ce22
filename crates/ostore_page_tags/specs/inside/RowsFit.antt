-- Rows that lie in the page, whatever else the image says.
use Rattle.std.specs.Prelude.{ℕ, ◌+◌, ◌*◌, ◌≤◌, List}
use Rattle.ostore_base.specs.declared.page.TheConstants.{PAGE_SIZE}
use Rattle.ostore_page_tags.specs.declared.layout.TheConstants.{ROW_BYTES}
use Rattle.ostore_page_tags.specs.Header.{header_of}

-- row i lies in the page
abbrev pub RowFits : ℕ → Type 0
RowFits i = ROW_BYTES * (i + 1) ≤ PAGE_SIZE

-- all rows of which the header tells lie in the page
abbrev pub RowsFit : List ℕ → Type 0
RowsFit bytes = ROW_BYTES * (header_of bytes).rows ≤ PAGE_SIZE
