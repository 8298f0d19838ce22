-- Pointers: where they lead to, and what becomes of them. A pointer is 0, or the number of a page or frame
-- times 4096 and a place in that page.
use Rattle.std.specs.Prelude.{◌≡◌, ◌≢◌, ◌⊎◌, ℕ, ◌+◌, ◌*◌, ◌/◌, ◌%◌, ◌<◌, ◌==◌, if◌then◌else◌, List, [], ◌∷◌, Option, Some, None}
use Rattle.ostore_base.specs.declared.numbers.PageNo.{PageNo}
use Rattle.ostore_page_tags.specs.Numbers.{number_at, with_number}
use Rattle.ostore_address_space.specs.declared.space.Frame.{Frame}
use Rattle.ostore_address_space.specs.Frames.{frame_of, page_in}
use Rattle.ostore_relocation.specs.declared.pointer.Form.{Form}
use Rattle.ostore_relocation.specs.declared.pointer.Form.TheVariants.{Stored, Resident}

-- the page or frame that a pointer leads to
abbrev pub target : ℕ → ℕ
target pointer = pointer / 4096

-- ---- the two forms of a pointer

-- a stored and a resident pointer to the same place of a page, where a frame holds it
pub record LeadAlike (pages : List (Option PageNo)) (stored resident : ℕ) : Type 0 where
  pub frame : ℕ
  pub page : ℕ
  pub place : ℕ
  pub pair : page_in pages frame ≡ Some (record { 0 = page })
  pub within : place < 4096
  pub some : stored ≢ 0
  pub stored_is : stored ≡ page * 4096 + place
  pub resident_is : resident ≡ frame * 4096 + place

-- the resident form of a stored pointer; 0 stays 0
abbrev pub IsResidentOf : List (Option PageNo) → ℕ → ℕ → Type 0
IsResidentOf pages stored resident = ((stored ≡ 0) × (resident ≡ 0)) ⊎ LeadAlike pages stored resident

-- a resident pointer that can be stored
abbrev pub HasStored : List (Option PageNo) → ℕ → Type 0
HasStored pages resident = (stored : ℕ) × IsResidentOf pages stored resident

-- ---- the same, computed

abbrev pub frame_number : Option Frame → ℕ
frame_number None = 0
frame_number (Some frame) = frame.0

abbrev pub page_number : Option PageNo → ℕ
page_number None = 0
page_number (Some page) = page.0

-- a pointer to the same place in another page or frame
abbrev pub same_place_in : ℕ → ℕ → ℕ
same_place_in pointer number = if pointer == 0 then 0 else number * 4096 + pointer % 4096

-- the resident form of a stored pointer
abbrev pub resident_pointer : List (Option PageNo) → ℕ → ℕ
resident_pointer pages pointer = same_place_in pointer (frame_number (frame_of pages (target pointer)))

-- the stored form of a resident pointer
abbrev pub stored_pointer : List (Option PageNo) → ℕ → ℕ
stored_pointer pages pointer = same_place_in pointer (page_number (page_in pages (target pointer)))

abbrev pub pointer_in : Form → List (Option PageNo) → ℕ → ℕ
pointer_in Stored pages pointer = stored_pointer pages pointer
pointer_in Resident pages pointer = resident_pointer pages pointer

-- ---- pointers of an image

-- the image with the pointer at a place as a change makes it
abbrev pub with_pointer : (ℕ → ℕ) → ℕ → List ℕ → List ℕ
with_pointer change at bytes = with_number 4 at (change (number_at 4 at bytes)) bytes

-- the image with the pointers at some places as a change makes them
abbrev pub with_pointers : (ℕ → ℕ) → List ℕ → List ℕ → List ℕ
with_pointers change [] bytes = bytes
with_pointers change (at ∷ places) bytes = with_pointers change places (with_pointer change at bytes)
