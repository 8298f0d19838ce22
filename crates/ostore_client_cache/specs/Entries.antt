-- The pages that a client has, as the entries of its cache: the page that was used most recently first.
use Rattle.std.specs.Prelude.{ℕ, Bool, true, false, not, nat_eq, List, [], ◌∷◌, ◌++◌, Option, Some, None}
use Rattle.std.specs.Option.{option_map}
use Rattle.std.specs.Map.{lookup, remove_entry}
use Rattle.ostore_base.specs.Disk.{replaced}
use Rattle.ostore_base.specs.declared.page.PageImage.{PageImage}
use Rattle.ostore_client_cache.specs.declared.entries.CachedPage.{CachedPage}
use Rattle.ostore_client_cache.specs.declared.entries.Hold.{Hold}
use Rattle.ostore_client_cache.specs.declared.entries.Hold.TheVariants.{Retained, InUse, Owned}

-- a page is in use, unless it is only retained
abbrev pub is_used : Hold → Bool
is_used Retained = false
is_used InUse = true
is_used Owned = true

abbrev pub is_in_use : Option CachedPage → Bool
is_in_use None = false
is_in_use (Some entry) = is_used entry.hold

abbrev pub is_retained : Option CachedPage → Bool
is_retained None = false
is_retained (Some entry) = not (is_used entry.hold)

-- the transaction owns the page
abbrev pub is_owner : Hold → Bool
is_owner Retained = false
is_owner InUse = false
is_owner Owned = true

abbrev pub is_owned : Option CachedPage → Bool
is_owned None = false
is_owned (Some entry) = is_owner entry.hold

-- the image, unless the page is only retained
abbrev pub image_held : Hold → PageImage → Option PageImage
image_held Retained image = None
image_held InUse image = Some image
image_held Owned image = Some image

-- the image of a page in use
abbrev pub used_image : Option CachedPage → Option PageImage
used_image None = None
used_image (Some entry) = image_held entry.hold entry.image

abbrev pub held_as : Hold → CachedPage → CachedPage
held_as hold entry = record entry { hold = hold }

abbrev pub hold_of : Option CachedPage → Option Hold
hold_of found = option_map (λ entry. entry.hold) found

abbrev pub imaged_as : PageImage → CachedPage → CachedPage
imaged_as image entry = record entry { image = image }

-- an entry whose image has bytes at a place
abbrev pub with_bytes : CachedPage → ℕ → List ℕ → CachedPage
with_bytes entry at bytes = record entry { image = record { bytes = replaced at bytes entry.image.bytes } }

abbrev pub pair_as : Hold → ℕ → Option CachedPage → List (ℕ × CachedPage)
pair_as hold page None = []
pair_as hold page (Some entry) = (page, held_as hold entry) ∷ []

-- a page's entry, held so
abbrev pub entry_as : Hold → List (ℕ × CachedPage) → ℕ → List (ℕ × CachedPage)
entry_as hold entries page = pair_as hold page (lookup (nat_eq page) entries)

-- a page is held so, and is the most recently used one
abbrev pub first_as : Hold → List (ℕ × CachedPage) → ℕ → List (ℕ × CachedPage)
first_as hold entries page = entry_as hold entries page ++ remove_entry (nat_eq page) entries
