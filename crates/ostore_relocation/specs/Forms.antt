-- The two forms of a page's image. In the stored form a pointer has the number of the page that it leads
-- to, in the resident form the number of that page's frame.
use Rattle.std.specs.Prelude.{◌≡◌, ◌≢◌, ℕ, List, Option, None, length, slice_index, if◌then◌else◌, ◌-◌, ◌*◌}
use Rattle.std.specs.List.{AllByRecursion}
use Rattle.ostore_base.specs.declared.numbers.PageNo.{PageNo}
use Rattle.ostore_schema_layout.specs.declared.schema.Schema.{Schema}
use Rattle.ostore_page_tags.specs.Header.{header_of}
use Rattle.ostore_page_tags.specs.Numbers.{number_at}
use Rattle.ostore_address_space.specs.Frames.{page_in}
use Rattle.ostore_relocation.specs.Places.{LieBetween, IsOutside, holds_objects, page_pointers}
use Rattle.ostore_relocation.specs.Fitness.{IsFit}
use Rattle.ostore_relocation.specs.Pointers.{HasStored, IsResidentOf, resident_pointer, stored_pointer, target, with_pointers}

-- the resident form of an image: each pointer is resident, and every other byte is as it was
pub record IsResidentForm (pages : List (Option PageNo)) (schema : Schema) (page : ℕ) (stored resident : List ℕ) : Type 0 where
  pub long : length resident ≡ length stored
  pub pointers : AllByRecursion (λ at. IsResidentOf pages (number_at 4 at stored) (number_at 4 at resident))
      (page_pointers schema page stored)
  pub others : (k : ℕ) → AllByRecursion (IsOutside k) (page_pointers schema page stored)
      → slice_index resident k ≡ slice_index stored k

-- each pointer of a resident image can be stored
abbrev pub HaveStored : List (Option PageNo) → Schema → ℕ → List ℕ → Type 0
HaveStored pages schema page bytes =
    AllByRecursion (λ at. HasStored pages (number_at 4 at bytes)) (page_pointers schema page bytes)

-- ---- the same, computed

abbrev pub resident_form : List (Option PageNo) → Schema → ℕ → List ℕ → List ℕ
resident_form pages schema page bytes =
    with_pointers (resident_pointer pages) (page_pointers schema page bytes) bytes

abbrev pub stored_form : List (Option PageNo) → Schema → ℕ → List ℕ → List ℕ
stored_form pages schema page bytes =
    with_pointers (stored_pointer pages) (page_pointers schema page bytes) bytes

-- ---- images that are resident

-- each pointer that isn't 0 lies in a frame that holds a page
abbrev pub HavePages : List (Option PageNo) → Schema → ℕ → List ℕ → Type 0
HavePages pages schema page bytes =
    AllByRecursion (λ at. number_at 4 at bytes ≢ 0 → page_in pages (target (number_at 4 at bytes)) ≢ None)
    (page_pointers schema page bytes)

-- where the pointers of a page end: before the tag rows, on a page of objects
abbrev pub pointers_end : ℕ → List ℕ → ℕ
pointers_end page bytes = if holds_objects page bytes then 4096 - 8 * (header_of bytes).rows else 4096

-- an image is resident: its pointers lie apart behind the header, and in frames that hold pages. The page
-- need not be good, as it isn't between the two edits that add a cell.
pub record IsResidentPage (pages : List (Option PageNo)) (schema : Schema) (page : ℕ) (bytes : List ℕ) : Type 0 where
  pub whole : length bytes ≡ 4096
  pub lie : LieBetween 32 (page_pointers schema page bytes) (pointers_end page bytes)
  pub frames : HavePages pages schema page bytes

-- ---- what a page that comes in is

-- the image is the resident form now. What it was stands in it: it is still a page of the schema, each of
-- its pointers can be stored, and its stored form is the image as it was.
pub record ComesIn (pages : List (Option PageNo)) (schema : Schema) (page : ℕ) (old new : List ℕ) : Type 0 where
  pub form : IsResidentForm pages schema page old new
  pub exact : new ≡ resident_form pages schema page old
  pub undone : stored_form pages schema page new ≡ old
  pub fit : IsFit schema page new
  pub resident : IsResidentPage pages schema page new
  pub back : HaveStored pages schema page new

-- the image is the stored form now. Where each of its pointers could be stored, it was this one's resident
-- form.
pub record GoesOut (pages : List (Option PageNo)) (schema : Schema) (page : ℕ) (old new : List ℕ) : Type 0 where
  pub exact : new ≡ stored_form pages schema page old
  pub fit : IsFit schema page new
  pub form : HaveStored pages schema page old → IsResidentForm pages schema page new old
