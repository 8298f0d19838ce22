-- A client and its service as a holder of pages: what it stands for, and what its calls do.
use Rattle.std.specs.Prelude.{◌≡◌, ◌⊎◌, ℕ, ◌<◌, ◌++◌, Bool, true, false, ◌&&◌, List, [], ◌∷◌, length, IsSome}
use Rattle.std.specs.Option.{option_map}
use Rattle.std.specs.Borrow.{GName}
use Rattle.ostore_base.specs.Faults.{Rose}
use Rattle.ostore_base.specs.declared.numbers.PageNo.{PageNo}
use Rattle.ostore_base.specs.declared.page.PageImage.{PageImage}
use Rattle.ostore_schema_layout.specs.Cells.{pointers_of}
use Rattle.ostore_page_tags.specs.PageLists.{with_bytes}
use Rattle.ostore_address_space.specs.Frames.{KeepsFrames, frame_of, free_frames}
use Rattle.ostore_segments.specs.Holdings.{PagesTold, PagesHeld}
use Rattle.ostore_segments.specs.SchemaCells.{size_told}
use Rattle.ostore_page_service.specs.Told.{Side, Told, SameRecords, StillServes, NoBusy, OwnedByAnother, UsedByAnother}
use Rattle.ostore_graph_model.specs.declared.commands.Script.{Script}
use Rattle.ostore_graph_model.specs.declared.history.Entry.{Entry}
use Rattle.ostore_client_cache.specs.Entries.{is_owned}
use Rattle.ostore_client_cache.specs.Caches.{used_pages}
use Rattle.ostore_client_core.specs.declared.fault.AttemptFault.{AttemptFault}
use Rattle.ostore_client_core.specs.declared.fault.AttemptFault.TheVariants.{Busy, NoSpace, CacheFull, SpaceFull, Commit, OutOfMemory}
use Rattle.ostore_client_core.specs.Clients.{ClientView, entry_of, is_page_used, IsOwn}
use Rattle.ostore_client_core.specs.Attempts.{Attempts, MayBe, home_of}
use Rattle.ostore_client_core.specs.Calls.{SameClient, OwnsNoMore, LacksFrames}

-- ---- what it stands for

-- the page is in use, and has a frame
pub record InView (client : ClientView) (page : ℕ) : Type 0 where
  pub used : is_page_used client page
  pub framed : IsSome (frame_of client.frames.pages page)

-- the cells are the schema's, and pages may be changed where the attempt updates and the service's client may write
abbrev pub access_told : Bool → Told Entry → ClientView → List GName → PagesTold
access_told updates told client behind = record {
  sizes = size_told client.schema;
  pointers = pointers_of client.schema;
  may_edit = updates && told.may_write;
  behind = behind;
}

-- The lists are those on which the attempt may have begun, each with what the attempt has made of it. Pages in use are
-- in view, those that the attempt owns are owned, and a resident pointer stands for the page in its frame.
abbrev pub access_held : (Script → Type 0) → Told Entry → ClientView → PagesHeld
access_held serves told client = record {
  may_be = MayBe serves told client;
  in_view = InView client;
  owned = λ page. is_owned (entry_of client page) ≡ true;
  home = home_of client;
}

-- ---- what its calls do

-- Bytes of a page were replaced, in each list for which the holder may stand. Pages in use stay in use, and
-- pages in their frames.
pub record Edits (serves later : Script → Type 0) (told now : Told Entry) (old new : ClientView) (page at : ℕ)
    (bytes : List ℕ) : Type 0 where
  pub runs : Attempts later now new
  pub lists : (base list : List PageImage) → MayBe later now new base list
      → (earlier : List PageImage) × MayBe serves told old base earlier × (list ≡ with_bytes earlier page at bytes)
  pub schema : new.schema ≡ old.schema
  pub frames : KeepsFrames old.frames.pages new.frames.pages
  pub views : (page : ℕ) → is_page_used old page → is_page_used new page

-- the attempt owns no page
abbrev pub OwnsNothing : ClientView → Type 0
OwnsNothing client = (page : ℕ) → is_owned (entry_of client page) ≡ false

-- After calls that were Ok: the service met no other client, and has the records that it had. An attempt that only reads
-- owns no page that it didn't own.
pub record Passes (updates : Bool) (serves later : Script → Type 0) (told now : Told Entry) (old new : ClientView)
    : Type 0 where
  pub same : SameRecords told now
  pub served : StillServes serves later
  pub calm : NoBusy told now
  pub client : SameClient old new
  pub owned : updates ≡ false → OwnsNoMore old new

-- another client is at the page: it owns it, or it uses it where the attempt updates
abbrev pub MeetsAnother : Bool → Told Entry → ℕ → Type 0
MeetsAnother updates told page = OwnedByAnother told page ⊎ ((updates ≡ true) × UsedByAnother told page)

-- a page that was to come in, or one that its pointers lead to, found no frame: every frame is reserved for a page
pub record FoundNoFrame (client : ClientView) (frames : ℕ) (mine : Side Entry) : Type 0 where
  pub old : ClientView
  pub page : PageNo
  pub lacks : LacksFrames old client page frames mine
  pub full : free_frames client.frames.pages ≡ []

-- Why a call failed. Busy was answered by the service, once, for another client is at the page that it names; else no
-- Busy came. The cache and the frames were full only where they are fewer than the pages of the database.
abbrev pub Causes : Bool → AttemptFault → Told Entry → Told Entry → ClientView → Type 0
Causes updates (Busy busy) told now client =
    Rose told.busy now.busy × (now.busies ≡ option_map (λ earlier. earlier ++ busy ∷ []) told.busies)
    × MeetsAnother updates told busy.page.0
Causes updates (CacheFull used capacity) told now client =
    NoBusy told now × (used ≡ length (used_pages client.pages)) × (capacity ≡ client.most) × (used ≡ capacity)
    × (capacity < length told.opened)
Causes updates (SpaceFull frames) told now client =
    NoBusy told now × FoundNoFrame client frames now.mine × (frames ≡ length client.frames.pages) × (frames < length told.opened)
Causes updates OutOfMemory told now client = NoBusy told now
Causes updates (NoSpace segment need) told now client = ⊥
Causes updates (Commit fault) told now client = ⊥

-- the faults that leave the client, and what the service tells, as they were: a full cache is found before all else
abbrev pub Stays : AttemptFault → Type 0
Stays (CacheFull used capacity) = Unit {0}
Stays (Busy busy) = ⊥
Stays (SpaceFull frames) = ⊥
Stays OutOfMemory = ⊥
Stays (NoSpace segment need) = ⊥
Stays (Commit fault) = ⊥

-- After a call that failed, where those before it were Ok: the service is still the client's own, so that the attempt
-- can be aborted.
pub record Fails (updates : Bool) (fault : AttemptFault) (serves later : Script → Type 0) (told now : Told Entry)
    (old new : ClientView) : Type 0 where
  pub own : IsOwn later now new
  pub same : SameRecords told now
  pub served : StillServes serves later
  pub client : SameClient old new
  pub owned : updates ≡ false → OwnsNoMore old new
  pub cause : Causes updates fault told now new
