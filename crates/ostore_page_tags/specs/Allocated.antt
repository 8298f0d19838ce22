-- Lists of pages that keep the rules 1 to 6: of the five rules of a page of objects the first speaks of all
-- pages, and the sixth is of the free list and the chains.
use Rattle.std.specs.Prelude.{◌≡◌, ℕ, ◌+◌, ◌*◌, ◌<◌, ◌≤◌, ◌⊎◌, IsTrue, List, length, drop}
use Rattle.ostore_base.specs.declared.page.PageImage.{PageImage}
use Rattle.ostore_base.specs.declared.page.TheConstants.{PAGE_SIZE}
use Rattle.ostore_page_tags.specs.declared.layout.TheConstants.{FREE_KIND, FRONT_KIND, ROOTS_KIND, HEADER_BYTES, SPARE_AT, FIELDS_END, FRONT_PAGE, FIRST_PAGES_AT, FIRST_PAGE_BYTES, SCHEMA_LENGTH_BYTES, ROOTS_PAGE, ROOTS_AT, ROOT_BYTES, NAME_LENGTH_IN_ROOT, NAME_IN_ROOT, POINTER_IN_ROOT, ZEROS_IN_ROOT}
use Rattle.ostore_page_tags.specs.Limits.{most_segments, most_roots, least_pages, most_pages}
use Rattle.ostore_page_tags.specs.Numbers.{number_at}
use Rattle.ostore_page_tags.specs.Header.{header_of}
use Rattle.ostore_page_tags.specs.Cells.{between}
use Rattle.ostore_page_tags.specs.Rules.{are_zero, IsPage}
use Rattle.ostore_page_tags.specs.PageLists.{bytes_at, header_at, first_of, schema_bytes, schema_length}
use Rattle.ostore_page_tags.specs.PageChains.{IsOpen, IsFreeList, IsChain, AreChained}

-- the bytes from one place up to another are zero
abbrev pub AreZero : ℕ → ℕ → List ℕ → Type 0
AreZero start stop bytes = IsTrue (are_zero (between start stop bytes))

-- the header of a page without objects: its kind, and zeros but for the next page, and the last page and
-- serial, of which rule 6 speaks
pub record IsPlainHeader (which : ℕ) (bytes : List ℕ) : Type 0 where
  pub kind : (header_of bytes).kind ≡ which
  pub segment : (header_of bytes).segment ≡ 0
  pub rows : (header_of bytes).rows ≡ 0
  pub end : (header_of bytes).end ≡ 0
  pub spare : number_at 2 SPARE_AT bytes ≡ 0
  pub tail : AreZero FIELDS_END HEADER_BYTES bytes

-- the front page: behind the header the first pages of the segments, and zeros
pub record IsFront (bytes : List ℕ) : Type 0 where
  pub header : IsPlainHeader FRONT_KIND bytes
  pub behind : AreZero (FIRST_PAGES_AT + FIRST_PAGE_BYTES * most_segments) PAGE_SIZE bytes

-- a free page: a header, and zeros
pub record IsFreePage (bytes : List ℕ) : Type 0 where
  pub header : IsPlainHeader FREE_KIND bytes
  pub behind : AreZero HEADER_BYTES PAGE_SIZE bytes

-- the row of a root, from a place on: zeros behind the name and behind the pointer, and a row without a
-- name is all zeros
pub record IsRootRow (bytes : List ℕ) (at : ℕ) : Type 0 where
  pub name : AreZero (at + NAME_IN_ROOT + number_at 1 (at + NAME_LENGTH_IN_ROOT) bytes) (at + POINTER_IN_ROOT) bytes
  pub behind : AreZero (at + ZEROS_IN_ROOT) (at + ROOT_BYTES) bytes
  pub free : number_at 1 (at + NAME_LENGTH_IN_ROOT) bytes ≡ 0 → AreZero at (at + ROOT_BYTES) bytes

-- the page of roots: behind a header that leads to no page the rows, and zeros
pub record IsRoots (bytes : List ℕ) : Type 0 where
  pub header : IsPlainHeader ROOTS_KIND bytes
  pub next : (header_of bytes).next ≡ 0
  pub rows : (root : ℕ) → root < most_roots → IsRootRow bytes (ROOTS_AT + ROOT_BYTES * root)
  pub behind : AreZero (ROOTS_AT + ROOT_BYTES * most_roots) PAGE_SIZE bytes

-- the pages of the schema's text, one after the other: zeros behind the text
abbrev pub EndsInZeros : List ℕ → Type 0
EndsInZeros bytes = IsTrue (are_zero (drop (SCHEMA_LENGTH_BYTES + schema_length bytes) bytes))

-- these are the free pages of the list, in order
abbrev pub HasFree : List PageImage → List ℕ → Type 0
HasFree pages free = IsFreeList (length pages) (header_at pages) free

-- these are the pages of a segment, in order
abbrev pub HasChain : List PageImage → ℕ → List ℕ → Type 0
HasChain pages segment chain =
    IsChain (length pages) (header_at pages) (first_of pages segment) segment chain

-- there is a free list, and each segment has a chain
abbrev pub HasChains : List PageImage → Type 0
HasChains pages =
    (free : List ℕ) × (chain : ℕ → List ℕ)
    × AreChained (length pages) (header_at pages) (first_of pages) free chain

-- the list keeps the rules
pub record IsAllocated (pages : List PageImage) : Type 0 where
  pub least : least_pages ≤ length pages
  pub most : length pages ≤ most_pages
  pub whole : (page : ℕ) → page < length pages → length (bytes_at pages page) ≡ PAGE_SIZE
  pub front : IsFront (bytes_at pages FRONT_PAGE)
  pub schema : EndsInZeros (schema_bytes pages)
  pub roots : IsRoots (bytes_at pages ROOTS_PAGE)
  pub others : (page : ℕ) → IsOpen (length pages) page
      → IsFreePage (bytes_at pages page) ⊎ IsPage (bytes_at pages page)
  pub chains : HasChains pages
