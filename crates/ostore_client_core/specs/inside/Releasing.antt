-- How pages are given back, one by one.
use Rattle.std.specs.Prelude.{◌≡◌, ℕ, Bool, true, false, nat_eq, List, Option, Some, None}
use Rattle.std.specs.Map.{lookup}
use Rattle.ostore_base.specs.declared.page.PageImage.{PageImage}
use Rattle.ostore_page_service.specs.Told.{Side, SameElsewhere}
use Rattle.ostore_client_cache.specs.declared.entries.CachedPage.{CachedPage}
use Rattle.ostore_client_cache.specs.Entries.{is_used}
use Rattle.ostore_client_core.specs.declared.release.Ending.{Ending}
use Rattle.ostore_client_core.specs.Clients.{IsTied}
use Rattle.ostore_client_core.specs.Calls.{is_void}

-- the entry's image is the one that the page had
pub record HasImage (pages : List (ℕ × CachedPage)) (page : ℕ) (entry : CachedPage) : Type 0 where
  pub was : CachedPage
  pub there : lookup (nat_eq page) pages ≡ Some was
  pub image : entry.image ≡ was.image

-- each page that is still there has the image that it had
abbrev pub HaveImages : List (ℕ × CachedPage) → List (ℕ × CachedPage) → Type 0
HaveImages old new = (page : ℕ) (entry : CachedPage) → lookup (nat_eq page) new ≡ Some entry → HasImage old page entry

module _ {E : Type 0} where
  -- the client keeps its copy, which is the image that was held, or none
  abbrev pub KeepsCopy : Bool → Side E → Side E → ℕ → Type 0
  KeepsCopy true old new page = (new.kept page ≡ old.held page) × (new.droppable page ≡ true)
  KeepsCopy false old new page = new.kept page ≡ None

  -- a page in use was given back
  pub record GivesBack (kept : Bool) (old new : Side E) (page : ℕ) : Type 0 where
    pub held : new.held page ≡ None
    pub owned : new.owned page ≡ false
    pub copy : KeepsCopy kept old new page
    pub others : SameElsewhere old new page

  -- the service holds a page in use as the client has it, unless that copy is void
  abbrev pub IsHeld : Ending → (PageImage → PageImage) → Side E → ℕ → Option CachedPage → Type 0
  IsHeld ending stored mine page None = Unit {0}
  IsHeld ending stored mine page (Some entry) =
      is_used entry.hold ≡ true → is_void ending (Some entry) ≡ false → mine.held page ≡ Some (stored entry.image)

  -- the client and its service at the end of an attempt, by the stored forms of images
  pub record EndsWith (ending : Ending) (stored : ℕ → PageImage → PageImage) (mine : Side E)
      (pages : List (ℕ × CachedPage)) : Type 0 where
    pub tied : (page : ℕ) → IsTied (stored page) mine page (lookup (nat_eq page) pages)
    pub held : (page : ℕ) → IsHeld ending (stored page) mine page (lookup (nat_eq page) pages)
