-- Where the pointers of a page stand: `pointers` gives the places of the pointers in a cell of each code. A
-- pointer has 4 bytes. Pages of objects have pointers in their live cells, and the page of roots has one in
-- each row of a root. No other page has any.
use Rattle.std.specs.Prelude.{◌≡◌, ◌⊎◌, ℕ, ◌+◌, ◌*◌, ◌<◌, ◌≤◌, Bool, ◌&&◌, ◌==◌, nat_le, if◌then◌else◌, List, [], ◌∷◌, map}
use Rattle.std.specs.List.{flat_map, range_with_len}
use Rattle.ostore_page_tags.specs.declared.layout.TheConstants.{FIRST_OPEN_PAGE, NAME_LENGTH_IN_ROOT, OBJECTS_KIND, POINTER_IN_ROOT, ROOTS_AT, ROOTS_PAGE, ROOT_BYTES}
use Rattle.ostore_page_tags.specs.declared.tag_rows.Row.{Row}
use Rattle.ostore_page_tags.specs.Limits.{most_roots}
use Rattle.ostore_page_tags.specs.Numbers.{number_at}
use Rattle.ostore_page_tags.specs.Header.{header_of}
use Rattle.ostore_page_tags.specs.Rows.{rows_of}

-- ---- pages of objects

-- the pointers of a row's cell; a dead row has none
abbrev pub row_pointers : (ℕ → List ℕ) → Row → List ℕ
row_pointers pointers row = if row.live then map (λ at. row.offset + at) (pointers row.code) else []

abbrev pub cell_pointers : (ℕ → List ℕ) → List ℕ → List ℕ
cell_pointers pointers bytes = flat_map (row_pointers pointers) (rows_of bytes)

abbrev pub holds_objects : ℕ → List ℕ → Bool
holds_objects page bytes = nat_le FIRST_OPEN_PAGE page && (header_of bytes).kind == OBJECTS_KIND

-- ---- the page of roots

-- where row i stands; there are as many rows as a database has roots at most
abbrev pub root_place : ℕ → ℕ
root_place i = ROOTS_AT + ROOT_BYTES * i

abbrev pub name_length : List ℕ → ℕ → ℕ
name_length bytes i = number_at 1 (ROOTS_AT + NAME_LENGTH_IN_ROOT + ROOT_BYTES * i) bytes

-- the pointer of row i; a row whose name has no length is free, and has none
abbrev pub root_pointer : List ℕ → ℕ → List ℕ
root_pointer bytes i =
    if name_length bytes i == 0 then [] else (root_place i + POINTER_IN_ROOT) ∷ []

unfoldable pub root_pointers : List ℕ → List ℕ
root_pointers bytes = flat_map (root_pointer bytes) (range_with_len 0 most_roots)

-- ---- any page

-- the places of a page's pointers, by the page's number
abbrev pub page_pointers : (ℕ → List ℕ) → ℕ → List ℕ → List ℕ
page_pointers pointers page bytes =
    if page == ROOTS_PAGE then root_pointers bytes
    else if holds_objects page bytes then cell_pointers pointers bytes
    else []

-- pointers at some places lie one behind the other, from one byte up to another
abbrev pub LieBetween : ℕ → List ℕ → ℕ → Type 0
LieBetween low [] high = low ≤ high
LieBetween low (at ∷ places) high = (low ≤ at) × LieBetween (at + 4) places high

-- a byte isn't the pointer's at a place
abbrev pub IsOutside : ℕ → ℕ → Type 0
IsOutside k at = (k < at) ⊎ (at + 4 ≤ k)

-- the n bytes from a place on are none of a pointer's
abbrev pub IsBeside : ℕ → ℕ → ℕ → Type 0
IsBeside start n at = (at + 4 ≤ start) ⊎ (start + n ≤ at)

-- a place is one of some places
abbrev pub IsOneOf : ℕ → List ℕ → Type 0
IsOneOf at [] = ⊥
IsOneOf at (place ∷ places) = (place ≡ at) ⊎ IsOneOf at places
