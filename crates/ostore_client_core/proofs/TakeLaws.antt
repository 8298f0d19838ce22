-- A page that was claimed: it comes into use, or is lost for want of a frame.
use Rattle.std.proofs.Common.{◌≡◌, ◌≢◌, ℕ, ◌<◌, ◌≤◌, false, nat_eq, length, Option, Some, None, refl, sym, ap, subst, ◌∙◌, arith}
use Rattle.std.specs.List.{AllByRecursion, IsDistinct}
use Rattle.std.specs.Map.{lookup, remove_entry, keys_of}
use Rattle.ostore_base.specs.declared.numbers.PageNo.{PageNo}
use Rattle.ostore_base.specs.declared.page.PageImage.{PageImage}
use Rattle.ostore_address_space.specs.Frames.{Frames, ArePaired, KeepsFrames}
use Rattle.ostore_schema_layout.specs.declared.schema.Schema.{Schema}
use Rattle.ostore_relocation.specs.Reserving.{pages_wanted, reserve_all}
use Rattle.ostore_relocation.proofs.ReserveLaws.{long_all}
use Rattle.ostore_page_service.specs.Told.{Side, Told, SameService, SameElsewhere, InUse, NoBusy}
use Rattle.ostore_graph_model.specs.declared.commands.Script.{Script}
use Rattle.ostore_graph_model.specs.declared.history.Entry.{Entry}
use Rattle.ostore_client_cache.specs.declared.entries.CachedPage.{CachedPage}
use Rattle.ostore_client_cache.specs.declared.entries.Hold.TheVariants.{Retained}
use Rattle.ostore_client_cache.specs.Entries.{is_used, is_in_use, imaged_as, hold_of}
use Rattle.ostore_client_cache.specs.Caches.{used_pages}
use Rattle.ostore_client_cache.proofs.CountLaws.{long_removed, used_set}
use Rattle.ostore_client_core.specs.declared.fault.AttemptFault.{AttemptFault}
use Rattle.ostore_client_core.specs.declared.fault.AttemptFault.TheVariants.{Busy, NoSpace, CacheFull, SpaceFull, Commit, OutOfMemory}
use Rattle.ostore_client_core.specs.Clients.{ClientView, with_pages, entry_of, stored_image, AreKnown, IsOwn, AreUsedFirst}
use Rattle.ostore_client_core.specs.Attempts.{Attempts}
use Rattle.ostore_client_core.specs.Calls.{one_more, IsFitPage, Settles, Takes, FindsNoFrame, LetsGo, Loses, OwnsNoMore, Refused}
use Rattle.ostore_client_core.proofs.EntryLaws.{Pages, some_of, held_there, hold_there, set_here, gone_here, gone_other, first_less}
use Rattle.ostore_client_core.proofs.TiedLaws.{SameAt}
use Rattle.ostore_client_core.proofs.GoesLaws.{Extends}
use Rattle.ostore_client_core.proofs.BeginLaws.{unheld}
use Rattle.ostore_client_core.proofs.BringLaws.{ReachedFor, Comes, OtherGoes, has_taken, taken_comes, other_keeps, lost_own, lost_owns}
use Rattle.ostore_client_core.proofs.RoomLaws.{known_all, lacking_below}

pub retained_idle : (found : Option CachedPage) → hold_of found ≡ Some Retained → is_in_use found ≡ false
retained_idle found held = let is = held_there found Retained held in ap is_in_use is.is ∙ ap is_used (hold_there found is.entry Retained is.is held)

-- what the claim left of the other pages
elsewhere : {E : Type 0} (old new : Side E) (page other : ℕ) → SameElsewhere old new page → other ≢ page → SameAt old new other
elsewhere old new page other same apart = record { held = same.held other apart; owned = same.owned other apart; kept = same.kept other apart; droppable = same.droppable other apart }

same_then : {E : Type 0} (a b c : Side E) (other : ℕ) → SameAt a b other → SameAt b c other → SameAt a c other
same_then a b c other one two = record { held = two.held ∙ one.held; owned = two.owned ∙ one.owned; kept = two.kept ∙ one.kept; droppable = two.droppable ∙ one.droppable }

-- ---- a retained page

pub retained_taken : (serves later : Script → Type 0) (told claimed now : Told Entry) (old new : ClientView) (page : ℕ) (image : PageImage) → Attempts serves told old → ((s : Script) → serves s → later s) → SameService told claimed → page < length told.opened
    → hold_of (entry_of old page) ≡ Some Retained → InUse told claimed page image → now ≡ claimed → IsFitPage old.schema page image → Takes old new page image → ((s : Script) → serves s → ReachedFor s claimed)
    → (entry : CachedPage) × Comes serves later told now old new page entry
retained_taken serves later told claimed now old new page image runs served service below retained in_use same fit takes reached =
    let t = has_taken old new page image fit takes in
    let idle = retained_idle (entry_of old page) retained in
    subst (λ (x : Told Entry). (entry : CachedPage) × Comes serves later told x old new page entry) (sym same)
    (taken_comes serves later told claimed old old new page image runs served service below idle (unheld (stored_image old page) told.mine page (entry_of old page) idle (runs.own.tied page)) t in_use.held in_use.owned refl refl refl runs.own.short
    (first_less page old.pages runs.own.first) reached
    (λ other apart. other_keeps (length told.opened) old new told.mine claimed.mine other (record { entry = t.others other apart; side = elsewhere told.mine claimed.mine page other in_use.others apart })))

-- what a client has where no frame was found
pub record HasLost (mid new : ClientView) (page : PageNo) (image : PageImage) (frames : ℕ) : Type 0 where
  pub full : ClientView
  pub finds : FindsNoFrame mid full page image frames
  pub client : new ≡ with_pages (remove_entry (nat_eq page.0) full.pages) full

module _ (mid new : ClientView) (page : PageNo) (image : PageImage) (frames : ℕ) (h : HasLost mid new page image frames) where
  lost_frames : new.frames ≡ (reserve_all h.finds.choice mid.frames (pages_wanted mid.schema page image.bytes)).frames
  lost_frames = ap (λ (v : ClientView). v.frames) h.client ∙ h.finds.frames_are

  pub lost_pages : new.pages ≡ remove_entry (nat_eq page.0) mid.pages
  lost_pages = ap (λ (v : ClientView). v.pages) h.client ∙ ap (remove_entry (nat_eq page.0)) h.finds.pages

  pub lost_most : new.most ≡ mid.most
  lost_most = ap (λ (v : ClientView). v.most) h.client ∙ h.finds.most

  pub lost_more : Extends mid new
  lost_more = record {
    schema = ap (λ (v : ClientView). v.schema) h.client ∙ h.finds.schema;
    most = lost_most;
    count = ap (λ (f : Frames). length f.pages) lost_frames ∙ long_all h.finds.choice mid.frames (pages_wanted mid.schema page image.bytes);
    client = ap (λ (v : ClientView). v.frames.client) h.client ∙ h.finds.client;
    frames = subst (λ (v : ClientView). KeepsFrames mid.frames.pages v.frames.pages) (sym h.client) h.finds.more;
    paired = subst (λ (v : ClientView). ArePaired v.frames.pages) (sym h.client) h.finds.paired;
  }

  -- the frames are those of pages of the database, and fewer than these
  pub lost_known : (count : ℕ) → AreKnown count mid.frames.pages → AllByRecursion (λ (p : PageNo). p.0 < count) (pages_wanted mid.schema page image.bytes) → AreKnown count new.frames.pages × (length mid.frames.pages < count)
  lost_known count known low = (
    subst (λ (f : Frames). AreKnown count f.pages) (sym lost_frames) (known_all h.finds.choice mid.frames (pages_wanted mid.schema page image.bytes) count known low),
    lacking_below h.finds.choice mid.frames (pages_wanted mid.schema page image.bytes) count known low (subst (λ (f : Frames). ArePaired f.pages) h.finds.frames_are h.finds.paired) h.finds.lacks,
  )

  pub lost_short : length mid.pages ≤ mid.most → length new.pages ≤ new.most
  lost_short short =
      let one : length new.pages ≡ length (remove_entry (nat_eq page.0) mid.pages) = ap (λ (l : Pages). length l) lost_pages in
      let two = long_removed page.0 mid.pages (lookup (nat_eq page.0) mid.pages) refl in
      let most = lost_most in
      omega arith

-- the fault, and what it left
pub record WasLost (fault : AttemptFault) (mid new : ClientView) (page : PageNo) (image : PageImage) (before after : Side Entry) : Type 0 where
  pub frames : ℕ
  pub is : fault ≡ SpaceFull frames
  pub lost : HasLost mid new page image frames
  pub gone : LetsGo before after page.0

pub was_lost : (fault : AttemptFault) (mid new : ClientView) (page : PageNo) (image : PageImage) (before after : Side Entry) → Loses fault mid new page image before after → WasLost fault mid new page image before after
was_lost (Busy busy) mid new page image before after h = absurd h
was_lost (NoSpace segment need) mid new page image before after h = absurd h
was_lost (CacheFull used capacity) mid new page image before after h = absurd h
was_lost (SpaceFull frames) mid new page image before after h = record { frames = frames; is = refl; lost = record { full = h.0; finds = h.1; client = h.2 }; gone = h.3 }
was_lost (Commit fault) mid new page image before after h = absurd h
was_lost OutOfMemory mid new page image before after h = absurd h

pub lacks_frames : (fault : AttemptFault) (told now : Told Entry) (old mid new : ClientView) (page : PageNo) (image : PageImage) (before : Side Entry) (w : WasLost fault mid new page image before now.mine) → NoBusy told now → mid.schema ≡ old.schema → mid.frames ≡ old.frames → mid.fetches ≡ old.fetches
    → entry_of new page.0 ≡ None → length mid.frames.pages < length told.opened → Refused fault old new page told now
lacks_frames fault told now old mid new page image before w calm schema frames fetches gone few = subst (λ (f : AttemptFault). Refused f old new page told now) (sym w.is) (
  record {
    image = image;
    choice = w.lost.finds.choice;
    lacks = subst (λ (f : Frames). (reserve_all w.lost.finds.choice f (pages_wanted old.schema page image.bytes)).all ≡ false) frames
        (subst (λ (s : Schema). (reserve_all w.lost.finds.choice mid.frames (pages_wanted s page image.bytes)).all ≡ false) schema w.lost.finds.lacks);
    frames_are = subst (λ (f : Frames). new.frames ≡ (reserve_all w.lost.finds.choice f (pages_wanted old.schema page image.bytes)).frames) frames
        (subst (λ (s : Schema). new.frames ≡ (reserve_all w.lost.finds.choice mid.frames (pages_wanted s page image.bytes)).frames) schema (ap (λ (v : ClientView). v.frames) w.lost.client ∙ w.lost.finds.frames_are));
    count = w.lost.finds.count ∙ ap (λ (f : Frames). length f.pages) frames;
    gone = gone;
    held = w.gone.held;
    kept = w.gone.kept;
    schema = ap (λ (v : ClientView). v.schema) w.lost.client ∙ w.lost.finds.schema ∙ schema;
    fetches = ap (λ (v : ClientView). v.fetches) w.lost.client ∙ w.lost.finds.fetches ∙ ap one_more fetches;
  },
  calm,
  (let count = w.lost.finds.count in omega arith),
)

pub retained_lost : (serves later : Script → Type 0) (fault : AttemptFault) (told claimed now : Told Entry) (old new : ClientView) (page : PageNo) (image : PageImage) → Attempts serves told old → ((s : Script) → serves s → later s) → SameService told now
    → IsDistinct nat_eq (keys_of old.pages) → SameElsewhere told.mine claimed.mine page.0 → AllByRecursion (λ (p : PageNo). p.0 < length told.opened) (pages_wanted old.schema page image.bytes) → (w : WasLost fault old new page image claimed.mine now.mine)
    → IsOwn later now new × OwnsNoMore old new
retained_lost serves later fault told claimed now old new page image runs served service distinct claim low w =
    let l = w.lost in
    let pages = lost_pages old new page image w.frames l in
    let gone : entry_of new page.0 ≡ None = ap (lookup (nat_eq page.0)) pages ∙ gone_here page.0 old.pages distinct in
    let others : (other : ℕ) → other ≢ page.0 → OtherGoes (length told.opened) old new told.mine now.mine other = λ other apart. other_keeps (length told.opened) old new told.mine now.mine other (record {
      entry = ap (lookup (nat_eq other)) pages ∙ gone_other page.0 other old.pages apart;
      side = same_then told.mine claimed.mine now.mine other (elsewhere told.mine claimed.mine page.0 other claim apart) (elsewhere claimed.mine now.mine page.0 other w.gone.others apart);
    }) in (
      lost_own serves later told now old old new page.0 runs.own served service (lost_more old new page image w.frames l) (lost_known old new page image w.frames l (length told.opened) runs.own.framed low).0
          gone (record { held = w.gone.held; owned = w.gone.owned; kept = w.gone.kept }) others
          (lost_short old new page image w.frames l runs.own.short) (subst AreUsedFirst (sym pages) (first_less page.0 old.pages runs.own.first)),
      lost_owns (length told.opened) old new told.mine now.mine page.0 gone others,
    )

-- ---- an entry that was settled

pub settled_there : (old new : ClientView) (page : ℕ) (image : PageImage) → Settles old new page image → hold_of (entry_of old page) ≡ Some Retained → hold_of (entry_of new page) ≡ Some Retained
settled_there old new page image s held =
    ap (λ (l : Pages). hold_of (lookup (nat_eq page) l)) s.pages ∙ ap hold_of (set_here page (imaged_as s.resident s.entry) old.pages (some_of (entry_of old page) s.entry s.there)) ∙ sym (ap hold_of s.there) ∙ held

pub settled_room : (old new : ClientView) (page : ℕ) (image : PageImage) → Settles old new page image → length (used_pages old.pages) < old.most → length (used_pages new.pages) < new.most
settled_room old new page image s room =
    let count = ap (λ (l : Pages). length (used_pages l)) s.pages ∙ used_set page old.pages s.entry (imaged_as s.resident s.entry) s.there refl in
    let most = s.most in
    omega arith
