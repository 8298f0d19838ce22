-- The pages of a fresh database, byte for byte.
use Rattle.std.specs.Prelude.{ℕ, ◌+◌, ◌-◌, ◌*◌, nat_lt, if◌then◌else◌, List, ◌∷◌, ◌++◌, length, map, replicate}
use Rattle.std.specs.List.{range_with_len}
use Rattle.byteorder.specs.Endian.{little_bytes}
use Rattle.ostore_base.specs.declared.page.PageImage.{PageImage}
use Rattle.ostore_base.specs.declared.page.TheConstants.{PAGE_SIZE}
use Rattle.ostore_page_tags.specs.declared.layout.TheConstants.{FREE_KIND, FRONT_KIND, ROOTS_KIND, SCHEMA_PAGES, SCHEMA_LENGTH_BYTES, FIRST_OPEN_PAGE}
use Rattle.ostore_page_tags.specs.declared.page_header.PageHeader.{PageHeader}
use Rattle.ostore_page_tags.specs.Header.{with_header}
use Rattle.ostore_page_tags.specs.Cells.{between}

-- a header that has a kind and a next page, and else zeros
abbrev pub plain_header : ℕ → ℕ → PageHeader
plain_header kind next = record {
  kind = kind;
  segment = 0;
  rows = 0;
  end = 0;
  next = next;
  last_serial = 0;
  last_page = 0;
}

-- a page with such a header, and zeros behind it
unfoldable pub plain_image : ℕ → ℕ → PageImage
plain_image kind next = record { bytes = with_header (plain_header kind next) (replicate PAGE_SIZE 0) }

-- a text with its length before it, and zeros up to the end of the pages that hold it
unfoldable pub stored_schema : List ℕ → List ℕ
stored_schema text =
    little_bytes SCHEMA_LENGTH_BYTES (length text) ++ text
    ++ replicate (SCHEMA_PAGES * PAGE_SIZE - (SCHEMA_LENGTH_BYTES + length text)) 0

-- part i of bytes that are spread over pages
abbrev pub part_image : List ℕ → ℕ → PageImage
part_image bytes i = record { bytes = between (PAGE_SIZE * i) (PAGE_SIZE * i + PAGE_SIZE) bytes }

-- the first parts of such bytes, so many as are counted
unfoldable pub part_images : List ℕ → ℕ → List PageImage
part_images bytes count = map (part_image bytes) (range_with_len 0 count)

-- a free page of n pages: it leads to the page behind it, and the last one to none
abbrev pub free_image : ℕ → ℕ → PageImage
free_image n page = plain_image FREE_KIND (if nat_lt (page + 1) n then page + 1 else 0)

-- the first free pages of n pages, so many as are counted
unfoldable pub free_images : ℕ → ℕ → List PageImage
free_images n count = map (free_image n) (range_with_len FIRST_OPEN_PAGE count)

-- the front page, which leads to the free list, the schema's text, the page of roots, and free pages
unfoldable pub fresh_list : List ℕ → ℕ → List PageImage
fresh_list text n =
    plain_image FRONT_KIND FIRST_OPEN_PAGE ∷ part_images (stored_schema text) SCHEMA_PAGES
    ++ plain_image ROOTS_KIND 0 ∷ free_images n (n - FIRST_OPEN_PAGE)
