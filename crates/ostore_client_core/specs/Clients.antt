-- A client: its frames and its pages, and how they go with what its service holds.
use Rattle.std.specs.Prelude.{◌≡◌, ℕ, ◌<◌, ◌≤◌, true, false, nat_eq, List, [], ◌∷◌, length, Option, Some, None, IsSome}
use Rattle.std.specs.List.{AllByRecursion}
use Rattle.std.specs.Map.{lookup}
use Rattle.ostore_base.specs.declared.numbers.PageNo.{PageNo}
use Rattle.ostore_base.specs.declared.page.PageImage.{PageImage}
use Rattle.ostore_schema_layout.specs.declared.schema.Schema.{Schema}
use Rattle.ostore_address_space.specs.Frames.{Frames, ArePaired, frame_of, page_in}
use Rattle.ostore_relocation.specs.Forms.{IsResidentPage, stored_form}
use Rattle.ostore_page_service.specs.Told.{Side, Told}
use Rattle.ostore_graph_model.specs.declared.commands.Script.{Script}
use Rattle.ostore_graph_model.specs.declared.history.Entry.{Entry}
use Rattle.ostore_client_cache.specs.declared.entries.CachedPage.{CachedPage}
use Rattle.ostore_client_cache.specs.declared.entries.Hold.{Hold}
use Rattle.ostore_client_cache.specs.declared.entries.Hold.TheVariants.{Retained, InUse, Owned}
use Rattle.ostore_client_cache.specs.Entries.{is_used, is_in_use}
use Rattle.ostore_client_core.specs.Cells.{HasCellsOf}

pub record ClientView : Type 0 where
  pub schema : Schema
  pub frames : Frames
  -- its pages, the one that was used last first, and how many there may be
  pub pages : List (ℕ × CachedPage)
  pub most : ℕ
  -- how many claims were Fetched so far
  pub fetches : ℕ

abbrev pub client_view : Schema → Frames → List (ℕ × CachedPage) → ℕ → ℕ → ClientView
client_view schema frames pages most fetches = record {
  schema = schema;
  frames = frames;
  pages = pages;
  most = most;
  fetches = fetches;
}

abbrev pub with_pages : List (ℕ × CachedPage) → ClientView → ClientView
with_pages pages client = client_view client.schema client.frames pages client.most client.fetches

abbrev pub entry_of : ClientView → ℕ → Option CachedPage
entry_of client page = lookup (nat_eq page) client.pages

abbrev pub is_page_used : ClientView → ℕ → Type 0
is_page_used client page = is_in_use (entry_of client page) ≡ true

-- no page is in use
abbrev pub IsIdle : ClientView → Type 0
IsIdle client = (page : ℕ) → is_in_use (entry_of client page) ≡ false

-- no page is in a frame
abbrev pub AreFree : List (Option PageNo) → Type 0
AreFree pages = (frame : ℕ) → page_in pages frame ≡ None

-- each page in a frame is one of so many
abbrev pub AreKnown : ℕ → List (Option PageNo) → Type 0
AreKnown count pages = (frame : ℕ) (page : PageNo) → page_in pages frame ≡ Some page → page.0 < count

-- ---- the stored form of what the client has

-- a page's image in its stored form
abbrev pub stored_image : ClientView → ℕ → PageImage → PageImage
stored_image client page image = record { bytes = stored_form client.frames.pages client.schema page image.bytes }

-- the image of a page that is resident: it may be relocated out at any moment
pub record IsResident (client : ClientView) (page : ℕ) (image : PageImage) : Type 0 where
  pub form : IsResidentPage client.frames.pages client.schema page image.bytes
  pub framed : IsSome (frame_of client.frames.pages page)
  pub cells : HasCellsOf client.schema page (stored_image client page image).bytes

-- ---- the service is the client's own

module _ {E : Type 0} where
  -- the client hasn't the page, and the service holds nothing of it
  pub record IsAbsent (mine : Side E) (page : ℕ) : Type 0 where
    pub held : mine.held page ≡ None
    pub owned : mine.owned page ≡ false
    pub kept : mine.kept page ≡ None

  -- the page is retained; where the service still keeps it, with this image
  pub record IsRetained (stored : PageImage) (mine : Side E) (page : ℕ) : Type 0 where
    pub held : mine.held page ≡ None
    pub owned : mine.owned page ≡ false
    pub kept : (image : PageImage) → mine.kept page ≡ Some image → image ≡ stored
    pub droppable : mine.droppable page ≡ true

  -- the page is in use with this image, and not owned
  pub record IsTaken (stored : PageImage) (mine : Side E) (page : ℕ) : Type 0 where
    pub held : mine.held page ≡ Some stored
    pub owned : mine.owned page ≡ false

  -- the page is in use and owned
  pub record IsTheOwner (mine : Side E) (page : ℕ) : Type 0 where
    pub held : IsSome (mine.held page)
    pub owned : mine.owned page ≡ true

  abbrev pub IsTiedBy : Hold → PageImage → Side E → ℕ → Type 0
  IsTiedBy Retained stored mine page = IsRetained stored mine page
  IsTiedBy InUse stored mine page = IsTaken stored mine page
  IsTiedBy Owned stored mine page = IsTheOwner mine page

  -- what the client has of a page goes with what its service holds of it
  abbrev pub IsTied : (PageImage → PageImage) → Side E → ℕ → Option CachedPage → Type 0
  IsTied stored mine page None = IsAbsent mine page
  IsTied stored mine page (Some entry) = IsTiedBy entry.hold (stored entry.image) mine page

-- pages in use were all used later than those that are only retained
abbrev pub AreUsedFirst : List (ℕ × CachedPage) → Type 0
AreUsedFirst [] = Unit {0}
AreUsedFirst (e ∷ pages) =
    AllByRecursion (λ later. is_used later.1.hold ≡ true → is_used e.1.hold ≡ true) pages × AreUsedFirst pages

-- The service is the client's own: it has the client's number, and a script with the client's schema; page by page
-- the two go together; each image that the client has is resident, and pages and frames are those of pages that the
-- service knows. The client may have as many pages as said.
pub record IsOwn (serves : Script → Type 0) (told : Told Entry) (client : ClientView) : Type 0 where
  pub number : told.client ≡ client.frames.client.0
  pub script : (script : Script) × serves script × (script.schema ≡ client.schema)
  pub tied : (page : ℕ) → IsTied (stored_image client page) told.mine page (entry_of client page)
  pub resident : (page : ℕ) (entry : CachedPage) → entry_of client page ≡ Some entry
      → IsResident client page entry.image
  pub known : (page : ℕ) (entry : CachedPage) → entry_of client page ≡ Some entry
      → page < length told.opened
  pub frames : ArePaired client.frames.pages
  pub framed : AreKnown (length told.opened) client.frames.pages
  pub short : length client.pages ≤ client.most
  pub first : AreUsedFirst client.pages
