-- How the pages that an attempt owns are written, one by one.
use Rattle.std.specs.Prelude.{◌≡◌, ℕ, true, if◌then◌else◌, nat_eq, List, [], ◌∷◌, Option, Some, None}
use Rattle.std.specs.List.{flat_map}
use Rattle.std.specs.Map.{lookup}
use Rattle.ostore_base.specs.declared.numbers.PageNo.{PageNo}
use Rattle.ostore_base.specs.declared.page.PageImage.{PageImage}
use Rattle.ostore_schema_layout.specs.declared.schema.Schema.{Schema}
use Rattle.ostore_relocation.specs.Fitness.{IsFit}
use Rattle.ostore_relocation.specs.Forms.{stored_form}
use Rattle.ostore_redo_journal.specs.Drafts.{Writes}
use Rattle.ostore_client_cache.specs.declared.entries.CachedPage.{CachedPage}
use Rattle.ostore_client_cache.specs.Entries.{is_owner}

-- the image of a page that is owned
abbrev pub owned_image : Option CachedPage → Option PageImage
owned_image None = None
owned_image (Some entry) = if is_owner entry.hold then Some entry.image else None

-- the stored form of a page that is owned
abbrev pub stored_in : List (Option PageNo) → Schema → ℕ → Option CachedPage → Option PageImage
stored_in frames schema page None = None
stored_in frames schema page (Some entry) =
    if is_owner entry.hold then Some (record { bytes = stored_form frames schema page entry.image.bytes }) else None

abbrev pub as_writes : PageNo → Option PageImage → Writes
as_writes page None = []
as_writes page (Some image) = (page, image) ∷ []

-- what is written of a page, and of some pages
abbrev pub page_writes : List (Option PageNo) → Schema → List (ℕ × CachedPage) → PageNo → Writes
page_writes frames schema entries page = as_writes page (stored_in frames schema page.0 (lookup (nat_eq page.0) entries))

abbrev pub all_writes : List (Option PageNo) → Schema → List (ℕ × CachedPage) → List PageNo → Writes
all_writes frames schema entries pages = flat_map (page_writes frames schema entries) pages

-- each page that is owned can be relocated
abbrev pub AreFitOwned : Schema → List (ℕ × CachedPage) → Type 0
AreFitOwned schema entries =
    (page : ℕ) (entry : CachedPage) → lookup (nat_eq page) entries ≡ Some entry → is_owner entry.hold ≡ true
    → IsFit schema page entry.image.bytes
