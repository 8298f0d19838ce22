-- Which pages are to have frames when a page comes in, and which frames they get.
use Rattle.std.specs.Prelude.{◌≡◌, ℕ, Bool, true, false, ◌==◌, is_ok, is_some, if◌then◌else◌, List, [], ◌∷◌, ◌++◌, length, Result, IfErr}
use Rattle.ostore_base.specs.declared.numbers.PageNo.{PageNo}
use Rattle.ostore_schema_layout.specs.declared.schema.Schema.{Schema}
use Rattle.ostore_page_tags.specs.Numbers.{number_at}
use Rattle.ostore_address_space.specs.declared.space.SpaceFull.{SpaceFull}
use Rattle.ostore_address_space.specs.Frames.{Frames, frame_of, reserve}
use Rattle.ostore_relocation.specs.Places.{page_pointers}
use Rattle.ostore_relocation.specs.Pointers.{target}

-- the page that a stored pointer leads to; 0 leads to none
abbrev pub target_of : ℕ → List PageNo
target_of pointer = if pointer == 0 then [] else record { 0 = target pointer } ∷ []

-- the pages that the pointers at some places lead to, in their order
abbrev pub targets_of : List ℕ → List ℕ → List PageNo
targets_of bytes [] = []
targets_of bytes (at ∷ places) = target_of (number_at 4 at bytes) ++ targets_of bytes places

-- the page itself, and then each page that its pointers lead to
abbrev pub pages_wanted : Schema → PageNo → List ℕ → List PageNo
pages_wanted schema page bytes = page ∷ targets_of bytes (page_pointers schema page.0 bytes)

-- the frames once pages were to get one each, and whether all have one
pub record Reserving : Type 0 where
  pub frames : Frames
  pub all : Bool

abbrev pub reserving : Frames → Bool → Reserving
reserving frames all = record { frames = frames; all = all }

-- pages get their frames in turn, up to one that finds no frame free
abbrev pub reserve_all : (ℕ → ℕ → ℕ → ℕ) → Frames → List PageNo → Reserving
reserve_all choice frames [] = reserving frames true
reserve_all choice frames (page ∷ pages) =
    if is_some (frame_of (reserve choice frames page).pages page.0)
    then reserve_all choice (reserve choice frames page) pages
    else reserving (reserve choice frames page) false

-- frames were reserved so, and the answer is Ok exactly where all pages have one
pub record Reserves {T : Type 0} (choice : ℕ → ℕ → ℕ → ℕ) (old new : Frames) (pages : List PageNo) (result : Result T SpaceFull) : Type 0 where
  pub frames : new ≡ (reserve_all choice old pages).frames
  pub all : is_ok result ≡ (reserve_all choice old pages).all
  pub why : IfErr result (λ full. full.frames ≡ length old.pages)
