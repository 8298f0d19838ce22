-- Bytes and pointers that are written into a resident image, and what that makes of its stored form.
use Rattle.std.specs.Prelude.{◌≡◌, ◌≢◌, ℕ, ◌+◌, ◌≤◌, ◌==◌, if◌then◌else◌, List, ◌++◌, length, Option, None}
use Rattle.std.specs.List.{AllByRecursion}
use Rattle.ostore_base.specs.Disk.{replaced}
use Rattle.ostore_base.specs.declared.numbers.PageNo.{PageNo}
use Rattle.ostore_schema_layout.specs.declared.schema.Schema.{Schema}
use Rattle.ostore_page_tags.specs.Numbers.{number_at, with_number}
use Rattle.ostore_address_space.specs.Frames.{KeepsFrames, page_in}
use Rattle.ostore_page_tags.specs.declared.layout.TheConstants.{NAME_LENGTH_IN_ROOT, POINTER_IN_ROOT}
use Rattle.ostore_relocation.specs.Places.{LieBetween, IsBeside, page_pointers}
use Rattle.ostore_relocation.specs.Pointers.{stored_pointer, target}
use Rattle.ostore_relocation.specs.Forms.{IsResidentPage, pointers_end, stored_form}

-- the numbers at some places are 0
abbrev pub AreZeros : List ℕ → List ℕ → Type 0
AreZeros bytes places = AllByRecursion (λ at. number_at 4 at bytes ≡ 0) places

-- bytes are put beside all pointers of a stored image; the pointers stay where they are, and those that
-- are added, as with the row of a new cell, are 0
pub record PutsBeside (schema : Schema) (page at : ℕ) (bytes old : List ℕ) : Type 0 where
  pub within : at + length bytes ≤ 4096
  pub beside : AllByRecursion (IsBeside at (length bytes)) (page_pointers schema page old)
  pub added : List ℕ
  pub places : page_pointers schema page (replaced at bytes old) ≡ page_pointers schema page old ++ added
  pub zeros : AreZeros (replaced at bytes old) added
  pub lie : LieBetween 32 (page_pointers schema page (replaced at bytes old)) (pointers_end page (replaced at bytes old))

-- a pointer is 0, or lies in a frame that holds a page
abbrev pub LeadsToFrame : List (Option PageNo) → ℕ → Type 0
LeadsToFrame pages pointer = pointer ≢ 0 → page_in pages (target pointer) ≢ None

-- the row of a root, whose pointer is resident, as it is stored; a free row has no pointer
abbrev pub stored_root : List (Option PageNo) → List ℕ → List ℕ
stored_root pages row =
    if number_at 1 NAME_LENGTH_IN_ROOT row == 0 then row
    else with_number 4 POINTER_IN_ROOT (stored_pointer pages (number_at 4 POINTER_IN_ROOT row)) row

-- a resident image became one whose stored form is this
pub record StoresAs (pages : List (Option PageNo)) (schema : Schema) (page : ℕ) (new stored : List ℕ) : Type 0 where
  pub form : stored_form pages schema page new ≡ stored
  pub resident : IsResidentPage pages schema page new

-- images that were resident in earlier frames, which these keep, are so in these, and their stored form is the same
abbrev pub StoreTheSame : List (Option PageNo) → Schema → Type 0
StoreTheSame pages schema =
    (earlier : List (Option PageNo)) (page : ℕ) (bytes : List ℕ) → KeepsFrames earlier pages
    → IsResidentPage earlier schema page bytes → StoresAs pages schema page bytes (stored_form earlier schema page bytes)
