-- The header of a page. Its fields stand at places of their own, with two bytes that no field has before the
-- next page, and zeros behind the last field.
use Rattle.std.specs.Prelude.{ℕ, List}
use Rattle.ostore_page_tags.specs.declared.layout.TheConstants.{KIND_AT, SEGMENT_AT, ROWS_AT, END_AT, NEXT_AT, LAST_SERIAL_AT, LAST_PAGE_AT}
use Rattle.ostore_page_tags.specs.declared.page_header.PageHeader.{PageHeader}
use Rattle.ostore_page_tags.specs.Numbers.{number_at, with_number}

abbrev pub header_of : List ℕ → PageHeader
header_of bytes = record {
  kind = number_at 1 KIND_AT bytes;
  segment = number_at 1 SEGMENT_AT bytes;
  rows = number_at 2 ROWS_AT bytes;
  end = number_at 2 END_AT bytes;
  next = number_at 4 NEXT_AT bytes;
  last_serial = number_at 4 LAST_SERIAL_AT bytes;
  last_page = number_at 4 LAST_PAGE_AT bytes;
}

-- the image with these header fields, and its other bytes as they were
abbrev pub with_header : PageHeader → List ℕ → List ℕ
with_header header bytes =
    with_number 4 LAST_PAGE_AT header.last_page (with_number 4 LAST_SERIAL_AT header.last_serial (with_number 4 NEXT_AT header.next
    (with_number 2 END_AT header.end (with_number 2 ROWS_AT header.rows
    (with_number 1 SEGMENT_AT header.segment (with_number 1 KIND_AT header.kind bytes))))))
