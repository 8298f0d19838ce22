-- Lists of page images, by the numbers of the pages.
use Rattle.std.specs.Prelude.{ℕ, ◌+◌, ◌-◌, ◌*◌, List, [], take, drop, slice_index_or, slice_set}
use Rattle.std.specs.List.{flat_map, range_with_len}
use Rattle.ostore_base.specs.declared.page.PageImage.{PageImage}
use Rattle.ostore_base.specs.Disk.{replaced}
use Rattle.ostore_page_tags.specs.declared.layout.TheConstants.{FRONT_PAGE, FIRST_PAGES_AT, FIRST_PAGE_BYTES, FIRST_SCHEMA_PAGE, SCHEMA_PAGES, SCHEMA_LENGTH_BYTES}
use Rattle.ostore_page_tags.specs.declared.page_header.PageHeader.{PageHeader}
use Rattle.ostore_page_tags.specs.Numbers.{number_at}
use Rattle.ostore_page_tags.specs.Header.{header_of}

-- the bytes of a page, none behind the last page
abbrev pub bytes_at : List PageImage → ℕ → List ℕ
bytes_at pages page = (slice_index_or pages page (record { bytes = [] })).bytes

unfoldable pub header_at : List PageImage → ℕ → PageHeader
header_at pages page = header_of (bytes_at pages page)

-- the first page of a segment, 0 for none, as the front page says
unfoldable pub first_of : List PageImage → ℕ → ℕ
first_of pages segment =
    number_at FIRST_PAGE_BYTES (FIRST_PAGES_AT + FIRST_PAGE_BYTES * (segment - 1)) (bytes_at pages FRONT_PAGE)

-- the pages that hold the schema's text, one after the other
unfoldable pub schema_bytes : List PageImage → List ℕ
schema_bytes pages = flat_map (bytes_at pages) (range_with_len FIRST_SCHEMA_PAGE SCHEMA_PAGES)

-- the length that stands in front of the schema's text
abbrev pub schema_length : List ℕ → ℕ
schema_length bytes = number_at SCHEMA_LENGTH_BYTES 0 bytes

-- the schema's text
abbrev pub schema_text : List PageImage → List ℕ
schema_text pages =
    take (schema_length (schema_bytes pages)) (drop SCHEMA_LENGTH_BYTES (schema_bytes pages))

-- the list with bytes of a page replaced, from a place on
abbrev pub with_bytes : List PageImage → ℕ → ℕ → List ℕ → List PageImage
with_bytes pages page at bytes =
    slice_set pages page (record { bytes = replaced at bytes (bytes_at pages page) })
