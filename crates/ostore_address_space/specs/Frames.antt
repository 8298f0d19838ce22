-- The frames of a client's address space. They are counted from 1, and each holds a page or none.
use Rattle.std.specs.Prelude.{◌≡◌, ◌<◌, ◌≤◌, ◌↔◌, ℕ, zero, suc, ◌+◌, ◌-◌, ◌==◌, nat_lt, is_some, if◌then◌else◌, List, [], ◌∷◌, length, slice_index, slice_index_or, slice_set, Option, Some, None}
use Rattle.std.specs.List.{Contains}
use Rattle.std.specs.List.Sorted.{IsStrictlyIncreasing}
use Rattle.ostore_base.specs.Limits.{most_pages}
use Rattle.ostore_base.specs.declared.numbers.PageNo.{PageNo}
use Rattle.ostore_base.specs.declared.numbers.ClientNo.{ClientNo}
use Rattle.ostore_address_space.specs.declared.space.Frame.{Frame}

-- the most frames that a client has
abbrev pub most_frames : ℕ
most_frames = 65536

-- whose frames they are, and the page in each, from frame 1 on
pub record Frames : Type 0 where
  pub client : ClientNo
  pub pages : List (Option PageNo)

abbrev pub frames_of : ClientNo → List (Option PageNo) → Frames
frames_of client pages = record { client = client; pages = pages }

-- the page in a frame; frame 0 holds none
abbrev pub page_in : List (Option PageNo) → ℕ → Option PageNo
page_in pages zero = None
page_in pages (suc i) = slice_index_or pages i None

-- the first frame that holds a page, where the frames count from a number
abbrev pub frame_from : ℕ → List (Option PageNo) → ℕ → Option Frame
frame_from frame [] page = None
frame_from frame (None ∷ pages) page = frame_from (frame + 1) pages page
frame_from frame (Some at ∷ pages) page =
    if at.0 == page then Some (record { 0 = frame }) else frame_from (frame + 1) pages page

-- the frame of a page
abbrev pub frame_of : List (Option PageNo) → ℕ → Option Frame
frame_of pages page = frame_from 1 pages page

-- the frames that hold no page, ascending, where the frames count from a number
abbrev pub free_from : ℕ → List (Option PageNo) → List ℕ
free_from frame [] = []
free_from frame (None ∷ pages) = frame ∷ free_from (frame + 1) pages
free_from frame (Some page ∷ pages) = free_from (frame + 1) pages

-- the free frames, ascending
abbrev pub free_frames : List (Option PageNo) → List ℕ
free_frames pages = free_from 1 pages

-- a page is in one frame at most
abbrev pub AreOneToOne : List (Option PageNo) → Type 0
AreOneToOne pages =
    (frame other : ℕ) (page : PageNo) → page_in pages frame ≡ Some page → page_in pages other ≡ Some page
    → frame ≡ other

-- what holds of all frames of a space: there are not too many, and the pages are those of databases
pub record AreFrames (pages : List (Option PageNo)) : Type 0 where
  pub one : AreOneToOne pages
  pub known : (frame : ℕ) (page : PageNo) → page_in pages frame ≡ Some page → page.0 < most_pages
  pub few : length pages ≤ most_frames

-- frames and pages are pairs, one to one: the frame of a page is the one that holds it, and the free
-- frames are those that hold none
pub record ArePaired (pages : List (Option PageNo)) : Type 0 where
  pub all : AreFrames pages
  pub frame : (frame page : ℕ)
      → (frame_of pages page ≡ Some (record { 0 = frame })) ↔ (page_in pages frame ≡ Some (record { 0 = page }))
  pub free : (frame : ℕ)
      → Contains (free_frames pages) frame ↔ ((1 ≤ frame) × (frame ≤ length pages) × (page_in pages frame ≡ None))
  pub ascending : IsStrictlyIncreasing (free_frames pages)

-- each page stays in its frame; further pages may have frames
pub record KeepsFrames (old new : List (Option PageNo)) : Type 0 where
  pub pages : (frame : ℕ) (page : PageNo) → page_in old frame ≡ Some page → page_in new frame ≡ Some page

-- ---- reserving

-- a page has no frame, and none is free
pub record HasNoFrame (pages : List (Option PageNo)) (page : ℕ) : Type 0 where
  pub none : frame_of pages page ≡ None
  pub full : free_frames pages ≡ []

-- the free frame that an index means; one that is not below their number means the first
abbrev pub chosen_frame : ℕ → List ℕ → ℕ
chosen_frame index free = slice_index free (if nat_lt index (length free) then index else 0)

-- the pages once one was put into a frame
abbrev pub with_page : List (Option PageNo) → ℕ → PageNo → List (Option PageNo)
with_page pages frame page = slice_set pages (frame - 1) (Some page)

-- the pages once one was put into the free frame that is chosen by client, page and number of free frames;
-- where none is free, as they are
abbrev pub pages_with : (ℕ → ℕ → ℕ → ℕ) → Frames → PageNo → List ℕ → List (Option PageNo)
pages_with choice frames page [] = frames.pages
pages_with choice frames page (frame ∷ free) =
    let index = choice frames.client.0 page.0 (length (frame ∷ free)) in
    with_page frames.pages (chosen_frame index (frame ∷ free)) page

-- the frames once a page is to have one: those that there are, where it has one
abbrev pub reserve : (ℕ → ℕ → ℕ → ℕ) → Frames → PageNo → Frames
reserve choice frames page =
    frames_of frames.client (if is_some (frame_of frames.pages page.0) then frames.pages
    else pages_with choice frames page (free_frames frames.pages))
