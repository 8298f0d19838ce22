-- What a space keeps beside the pages in its frames.
use Rattle.std.specs.Prelude.{◌≡◌, ◌<◌, ◌≤◌, ℕ, List, length, get_or, Option, None}
use Rattle.ostore_base.specs.Limits.{most_pages}
use Rattle.ostore_base.specs.declared.numbers.PageNo.{PageNo}
use Rattle.ostore_address_space.specs.declared.space.Frame.{Frame}
use Rattle.ostore_address_space.specs.Frames.{AreFrames, frame_of, free_frames}

-- the frame of each page, for all pages that a database can have
pub record AreIndexed (pages : List (Option PageNo)) (frames : List (Option Frame)) : Type 0 where
  pub long : length frames ≡ most_pages
  pub at : (page : ℕ) → page < most_pages → get_or frames page None ≡ frame_of pages page

-- what is kept is of these pages: the frame of each, and the free frames, with room for all of them
pub record IsKept (pages : List (Option PageNo)) (frames : List (Option Frame)) (free : List ℕ) (capacity : ℕ) : Type 0 where
  pub all : AreFrames pages
  pub indexed : AreIndexed pages frames
  pub left : free ≡ free_frames pages
  pub room : length pages ≤ capacity
