-- The last image of each page, by the records of a journal.
use Rattle.std.specs.Prelude.{◌≡◌, ℕ, ◌<◌, List, [], ◌∷◌, length, slice_get, cond, ◌==◌, Option, Some, None}
use Rattle.ostore_base.specs.declared.page.PageImage.{PageImage}
use Rattle.ostore_redo_journal.specs.Drafts.{Writes}
use Rattle.ostore_redo_journal.specs.Records.{Logged}

-- the first of two that there is
abbrev pub or_else : Option PageImage → Option PageImage → Option PageImage
or_else (Some image) other = Some image
or_else None other = other

-- the image that is written to a page, the last one where there are several
abbrev pub image_of : ℕ → Writes → Option PageImage
image_of page [] = None
image_of page (write ∷ writes) = or_else (image_of page writes) (cond (write.0.0 == page) (Some write.1) None)

-- the image of a page in the last record that has it
abbrev pub newest : ℕ → List Logged → Option PageImage
newest page [] = None
newest page (r ∷ rs) = or_else (newest page rs) (image_of page r.pages)

-- each page has its image in the last record that has it, else its first image
pub record IsLast (first : List PageImage) (rs : List Logged) (last : List PageImage) : Type 0 where
  pub same_pages : length last ≡ length first
  pub each : (page : ℕ) → page < length first → slice_get last page ≡ or_else (newest page rs) (slice_get first page)
