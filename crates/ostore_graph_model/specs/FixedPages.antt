-- What the pages without cells say of the graph: the roots, and where the pages of each segment begin, with the
-- last serial that the segment has drawn.
use Rattle.std.specs.Prelude.{ℕ, ◌+◌, ◌*◌, Bool, true, false, ◌==◌, ◌&&◌, nat_le, not, if◌then◌else◌, List, [], ◌∷◌, map, filter, take, drop}
use Rattle.std.specs.List.{range_with_len}
use Rattle.ostore_base.specs.declared.page.PageImage.{PageImage}
use Rattle.ostore_page_tags.specs.declared.layout.TheConstants.{ROOTS_PAGE, ROOTS_AT, ROOT_BYTES, NAME_LENGTH_IN_ROOT, NAME_IN_ROOT, POINTER_IN_ROOT}
use Rattle.ostore_page_tags.specs.Limits.{most_segments, most_roots}
use Rattle.ostore_page_tags.specs.Numbers.{number_at}
use Rattle.ostore_page_tags.specs.PageLists.{bytes_at, header_at, first_of}

-- ---- roots

pub record RootRow : Type 0 where
  pub name : List ℕ
  pub pointer : ℕ

-- a root's row at a place: the length of the name in a byte, the name, and the pointer
abbrev pub root_at : ℕ → List ℕ → RootRow
root_at at bytes = record {
  name = take (number_at 1 (at + NAME_LENGTH_IN_ROOT) bytes) (drop (at + NAME_IN_ROOT) bytes);
  pointer = number_at 4 (at + POINTER_IN_ROOT) bytes;
}

abbrev pub is_unnamed : List ℕ → Bool
is_unnamed [] = true
is_unnamed (byte ∷ bytes) = false

-- the rows of roots that aren't free, in order
unfoldable pub roots_of : List PageImage → List RootRow
roots_of pages =
    filter (λ row. not (is_unnamed row.name))
    (map (λ i. root_at (ROOTS_AT + ROOT_BYTES * i) (bytes_at pages ROOTS_PAGE)) (range_with_len 0 most_roots))

-- ---- segments

-- the first page of a segment, 0 for none
unfoldable pub first_page : List PageImage → ℕ → ℕ
first_page pages segment = if nat_le 1 segment && nat_le segment most_segments then first_of pages segment else 0

-- the last serial that a segment has drawn, which its first page keeps; 0 where it has no page
unfoldable pub serial_of : List PageImage → ℕ → ℕ
serial_of pages segment = if first_page pages segment == 0 then 0 else (header_at pages (first_page pages segment)).last_serial
