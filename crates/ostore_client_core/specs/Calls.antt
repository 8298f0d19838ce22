-- What the calls of a client do.
use Rattle.std.specs.Prelude.{◌≡◌, ◌⊎◌, ◌↔◌, ◌<◌, ℕ, ◌+◌, ◌-◌, ◌*◌, ◌/◌, ◌%◌, ◌^◌, Bool, true, false, min, is_some, nat_eq, List, length, take, drop, option_and_then, Option, Some, None, IsSome}
use Rattle.std.specs.Option.{option_map}
use Rattle.std.specs.List.{AllPairs, Contains}
use Rattle.std.specs.Map.{remove_entry, set_value}
use Rattle.ostore_base.specs.declared.numbers.PageNo.{PageNo}
use Rattle.ostore_base.specs.declared.page.PageImage.{PageImage}
use Rattle.ostore_address_space.specs.declared.space.Frame.{Frame}
use Rattle.ostore_address_space.specs.Frames.{ArePaired, KeepsFrames, frame_of, page_in}
use Rattle.ostore_schema_layout.specs.declared.schema.Schema.{Schema}
use Rattle.ostore_relocation.specs.Fitness.{IsFit, LeadsToPages}
use Rattle.ostore_relocation.specs.Forms.{ComesIn}
use Rattle.ostore_relocation.specs.Reserving.{pages_wanted, reserve_all}
use Rattle.ostore_page_service.specs.Told.{Side, Told, DropsCopy, Refuses, NoBusy, SameElsewhere, OwnedByAnother, UsedByAnother}
use Rattle.ostore_graph_model.specs.declared.history.Entry.{Entry}
use Rattle.ostore_client_cache.specs.declared.entries.CachedPage.{CachedPage}
use Rattle.ostore_client_cache.specs.Entries.{imaged_as, held_as, first_as, is_in_use, is_owned, used_image}
use Rattle.ostore_client_cache.specs.declared.entries.Hold.TheVariants.{InUse, Owned}
use Rattle.ostore_client_cache.specs.Caches.{surplus, used_pages, without_one}
use Rattle.ostore_client_cache.specs.Releases.{released_all}
use Rattle.ostore_client_core.specs.declared.fault.AttemptFault.{AttemptFault}
use Rattle.ostore_client_core.specs.declared.fault.AttemptFault.TheVariants.{Busy, NoSpace, CacheFull, SpaceFull, Commit, OutOfMemory}
use Rattle.ostore_client_core.specs.declared.release.Ending.{Ending}
use Rattle.ostore_client_core.specs.declared.release.Ending.TheVariants.{Committed, Aborted}
use Rattle.ostore_client_core.specs.Cells.{HasCellsOf}
use Rattle.ostore_client_core.specs.Clients.{ClientView, entry_of, with_pages, is_page_used}

-- what no call changes: the schema, how many pages there may be, whose frames they are and how many
pub record SameClient (old new : ClientView) : Type 0 where
  pub schema : new.schema ≡ old.schema
  pub most : new.most ≡ old.most
  pub client : new.frames.client ≡ old.frames.client
  pub frames : length new.frames.pages ≡ length old.frames.pages

-- each page that is owned was owned before
abbrev pub OwnsNoMore : ClientView → ClientView → Type 0
OwnsNoMore old new = (page : ℕ) → is_owned (entry_of new page) ≡ true → is_owned (entry_of old page) ≡ true

-- each page that is in use was in use before, or is this one
pub record BringsPage (old new : ClientView) (page : ℕ) : Type 0 where
  pub used : (other : ℕ) → is_page_used new other → is_page_used old other ⊎ (other ≡ page)

-- a count that stays at its type's end
abbrev pub one_more : ℕ → ℕ
one_more count = min (count + 1) (2 ^ 64 - 1)

-- without the page that was used least recently, where there are more than there may be
abbrev pub trimmed : ℕ → List (ℕ × CachedPage) → List (ℕ × CachedPage)
trimmed most pages = without_one (surplus pages most) pages

-- the service keeps the page no more, where there is one
abbrev pub Drops : Option PageNo → Told Entry → Told Entry → Type 0
Drops None told now = now ≡ told
Drops (Some page) told now = DropsCopy told now page.0

-- an image that can be relocated, of a page whose cells are the schema's
pub record IsFitPage (schema : Schema) (page : ℕ) (image : PageImage) : Type 0 where
  pub whole : length image.bytes ≡ 4096
  pub fit : IsFit schema page image.bytes
  pub targets : LeadsToPages schema page image.bytes
  pub cells : HasCellsOf schema page image.bytes

-- a fetched image was made resident, and the page's entry has it
pub record Settles (old new : ClientView) (page : ℕ) (image : PageImage) : Type 0 where
  pub resident : PageImage
  pub entry : CachedPage
  pub there : entry_of old page ≡ Some entry
  pub pages : new.pages ≡ set_value (nat_eq page) old.pages (imaged_as resident entry)
  pub choice : ℕ → ℕ → ℕ → ℕ
  pub frames_are : new.frames ≡ (reserve_all choice old.frames (pages_wanted old.schema (record { 0 = page }) image.bytes)).frames
  pub comes : ComesIn new.frames.pages old.schema page image.bytes resident.bytes
  pub framed : IsSome (frame_of new.frames.pages page)
  pub more : KeepsFrames old.frames.pages new.frames.pages
  pub paired : ArePaired new.frames.pages
  pub client : new.frames.client ≡ old.frames.client
  pub schema : new.schema ≡ old.schema
  pub most : new.most ≡ old.most
  pub fetches : new.fetches ≡ one_more old.fetches

-- of the pages that the image needs in frames, in their order, one found none free; those before it have theirs
pub record FindsNoFrame (old new : ClientView) (page : PageNo) (image : PageImage) (frames : ℕ) : Type 0 where
  pub choice : ℕ → ℕ → ℕ → ℕ
  pub lacks : (reserve_all choice old.frames (pages_wanted old.schema page image.bytes)).all ≡ false
  pub frames_are : new.frames ≡ (reserve_all choice old.frames (pages_wanted old.schema page image.bytes)).frames
  pub count : frames ≡ length old.frames.pages
  pub more : KeepsFrames old.frames.pages new.frames.pages
  pub paired : ArePaired new.frames.pages
  pub client : new.frames.client ≡ old.frames.client
  pub pages : new.pages ≡ old.pages
  pub schema : new.schema ≡ old.schema
  pub most : new.most ≡ old.most
  pub fetches : new.fetches ≡ one_more old.fetches

-- ---- the end of an attempt

-- the client's copy of a page is void: the attempt was aborted, and it owned the page
abbrev pub is_void : Ending → Option CachedPage → Bool
is_void Committed found = false
is_void Aborted found = is_owned found

-- the service holds a copy of the page as kept by the client
abbrev pub keeps : {E : Type 0} → Side E → ℕ → Bool
keeps side page = is_some (side.kept page)

-- Every page in use was given back. Those of which the client keeps its copy are retained, in ascending order the most
-- recently used ones, the highest the most recently; the others are gone, among them those whose copy is void.
pub record Releases (ending : Ending) (old new : ClientView) (mine : Side Entry) : Type 0 where
  pub used : List ℕ
  pub are : (page : ℕ) → Contains used page ↔ (is_in_use (entry_of old page) ≡ true)
  pub ascend : AllPairs (λ page later. page < later) used
  pub pages : new ≡ with_pages (released_all old.pages (keeps mine) used) old
  pub void : (page : ℕ) → is_void ending (entry_of old page) ≡ true → mine.kept page ≡ None

-- ---- reading and owning

-- the image in a frame, where a page in use is in it
abbrev pub image_at : ClientView → ℕ → Option PageImage
image_at client frame = option_and_then (λ page. used_image (entry_of client page.0)) (page_in client.frames.pages frame)

-- the bytes at an address
abbrev pub lent : ClientView → ℕ → ℕ → Option (List ℕ)
lent client address n = option_map (λ image. take n (drop (address % 4096) image.bytes)) (image_at client (address / 4096))

-- the attempt owns the page, and all else of the client is as it was
pub record OwnsPage (old new : ClientView) (page : ℕ) : Type 0 where
  pub entry : CachedPage
  pub there : entry_of old page ≡ Some entry
  pub client : new ≡ with_pages (set_value (nat_eq page) old.pages (held_as Owned entry)) old
  pub owned : is_owned (entry_of new page) ≡ true

-- the fault is that another client is at the page. Where the others are told, one of them uses it
abbrev pub IsBusy : AttemptFault → Told Entry → Told Entry → ℕ → Type 0
IsBusy (Busy busy) told now page = Refuses told now page busy × UsedByAnother told page
IsBusy (NoSpace segment need) told now page = ⊥
IsBusy (CacheFull used capacity) told now page = ⊥
IsBusy (SpaceFull frames) told now page = ⊥
IsBusy (Commit fault) told now page = ⊥
IsBusy OutOfMemory told now page = ⊥

-- ---- a page that comes into use

-- a page with an image that was fetched is in use, and the most recently used one
pub record Takes (old new : ClientView) (page : ℕ) (image : PageImage) : Type 0 where
  pub settled : ClientView
  pub settles : Settles old settled page image
  pub client : new ≡ with_pages (first_as InUse settled.pages page) settled

-- the service holds nothing of the page for the client, and of all others what it held
pub record LetsGo (before after : Side Entry) (page : ℕ) : Type 0 where
  pub held : after.held page ≡ None
  pub owned : after.owned page ≡ false
  pub kept : after.kept page ≡ None
  pub others : SameElsewhere before after page

-- there was no frame, and the page is gone
abbrev pub Loses : AttemptFault → ClientView → ClientView → PageNo → PageImage → Side Entry → Side Entry → Type 0
Loses (SpaceFull frames) old new page image before after =
    (full : ClientView) × FindsNoFrame old full page image frames
    × (new ≡ with_pages (remove_entry (nat_eq page.0) full.pages) full) × LetsGo before after page.0
Loses (Busy busy) old new page image before after = ⊥
Loses (NoSpace segment need) old new page image before after = ⊥
Loses (CacheFull used capacity) old new page image before after = ⊥
Loses (Commit fault) old new page image before after = ⊥
Loses OutOfMemory old new page image before after = ⊥

-- Of the pages that an image needs in frames, in their order, one found none free. The page that was to come
-- was fetched, and is gone, with its copy.
pub record LacksFrames (old new : ClientView) (page : PageNo) (frames : ℕ) (mine : Side Entry) : Type 0 where
  pub image : PageImage
  pub choice : ℕ → ℕ → ℕ → ℕ
  pub lacks : (reserve_all choice old.frames (pages_wanted old.schema page image.bytes)).all ≡ false
  pub frames_are : new.frames ≡ (reserve_all choice old.frames (pages_wanted old.schema page image.bytes)).frames
  pub count : frames ≡ length old.frames.pages
  pub gone : entry_of new page.0 ≡ None
  pub held : mine.held page.0 ≡ None
  pub kept : mine.kept page.0 ≡ None
  pub schema : new.schema ≡ old.schema
  pub fetches : new.fetches ≡ one_more old.fetches

-- Why a page didn't come into use. CacheFull and want of memory come before any claim, Busy and SpaceFull after it.
-- Where the others are told, Busy comes only where one of them owns the page. A cache, and frames, with room for all
-- pages are never full.
abbrev pub Refused : AttemptFault → ClientView → ClientView → PageNo → Told Entry → Told Entry → Type 0
Refused (Busy busy) old new page told now = (new ≡ old) × Refuses told now page.0 busy × OwnedByAnother told page.0
Refused (CacheFull used capacity) old new page told now =
    (new ≡ old) × (now ≡ told) × (used ≡ length (used_pages old.pages)) × (capacity ≡ old.most) × (used ≡ capacity)
    × (capacity < length told.opened)
Refused (SpaceFull frames) old new page told now =
    LacksFrames old new page frames now.mine × NoBusy told now × (frames < length told.opened)
Refused OutOfMemory old new page told now = (new ≡ old) × (now ≡ told)
Refused (NoSpace segment need) old new page told now = ⊥
Refused (Commit fault) old new page told now = ⊥

-- the first address of the page's frame
pub record IsAddressOf (client : ClientView) (page address : ℕ) : Type 0 where
  pub frame : Frame
  pub has : frame_of client.frames.pages page ≡ Some frame
  pub first : address ≡ frame.0 * 4096
  pub leads : page_in client.frames.pages (address / 4096) ≡ Some (record { 0 = page })
