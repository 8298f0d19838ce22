-- A client and its own service, after calls of either.
use Rattle.std.proofs.Common.{◌≡◌, ◌⊎◌, ℕ, ◌<◌, ◌≤◌, List, length, Option, Some, None, refl, sym, ap, subst, ◌∙◌, inl, inr}
use Rattle.std.specs.Prelude.{IsSome}
use Rattle.ostore_base.specs.declared.numbers.PageNo.{PageNo}
use Rattle.ostore_base.specs.declared.page.PageImage.{PageImage}
use Rattle.ostore_schema_layout.specs.declared.schema.Schema.{Schema}
use Rattle.ostore_address_space.specs.declared.space.Frame.{Frame}
use Rattle.ostore_address_space.specs.Frames.{ArePaired, KeepsFrames, frame_of, page_in}
use Rattle.ostore_relocation.specs.Forms.{IsResidentPage, stored_form}
use Rattle.ostore_relocation.proofs.MoreFrames.{stored_so}
use Rattle.ostore_page_service.specs.Told.{Side, Told, SameService, SamePages}
use Rattle.ostore_graph_model.specs.declared.commands.Script.{Script}
use Rattle.ostore_graph_model.specs.declared.history.Entry.{Entry}
use Rattle.ostore_client_cache.specs.declared.entries.CachedPage.{CachedPage}
use Rattle.ostore_client_core.specs.Cells.{HasCellsOf}
use Rattle.ostore_client_core.specs.Clients.{ClientView, entry_of, stored_image, AreKnown, IsResident, IsTied, IsOwn, AreUsedFirst}
use Rattle.ostore_client_core.specs.Calls.{SameClient}
use Rattle.ostore_client_core.proofs.TiedLaws.{SameAt, tied_still}

-- ---- more frames

frame_is : (o : Option Frame) → IsSome o → (frame : Frame) × (o ≡ Some frame)
frame_is None some = absurd cc
frame_is (Some frame) some = (frame, refl)

-- a page keeps its frame
pub framed_still : (old new : List (Option PageNo)) (page : ℕ) → ArePaired old → ArePaired new → KeepsFrames old new → IsSome (frame_of old page) → IsSome (frame_of new page)
framed_still old new page was are more some =
    let frame = frame_is (frame_of old page) some in
    let held : page_in old frame.0.0 ≡ Some (record { 0 = page }) = (was.frame frame.0.0 page).0 frame.1 in
    subst IsSome (sym ((are.frame frame.0.0 page).1 (more.pages frame.0.0 (record { 0 = page }) held))) refl

-- what is the same of both, but that more pages may have frames
pub record Extends (old new : ClientView) : Type 0 where
  pub schema : new.schema ≡ old.schema
  pub most : new.most ≡ old.most
  pub count : length new.frames.pages ≡ length old.frames.pages
  pub client : new.frames.client ≡ old.frames.client
  pub frames : KeepsFrames old.frames.pages new.frames.pages
  pub paired : ArePaired new.frames.pages

pub same_client_of : {old new : ClientView} → Extends old new → SameClient old new
same_client_of more = record { schema = more.schema; most = more.most; client = more.client; frames = more.count }

pub same_client_is : {old new : ClientView} → new ≡ old → SameClient old new
same_client_is is = record { schema = ap (λ (v : ClientView). v.schema) is; most = ap (λ (v : ClientView). v.most) is; client = ap (λ (v : ClientView). v.frames.client) is; frames = ap (λ (v : ClientView). length v.frames.pages) is }

pub client_then : {a b c : ClientView} → SameClient a b → SameClient b c → SameClient a c
client_then one two = record { schema = two.schema ∙ one.schema; most = two.most ∙ one.most; client = two.client ∙ one.client; frames = two.frames ∙ one.frames }

pub same_stored : (old new : ClientView) (page : ℕ) (image : PageImage) → Extends old new → IsResidentPage old.frames.pages old.schema page image.bytes → stored_image new page image ≡ stored_image old page image
same_stored old new page image more is =
    ap (λ (s : Schema). record { bytes = stored_form new.frames.pages s page image.bytes }) more.schema
    ∙ ap (λ (b : List ℕ). record { bytes = b }) (stored_so old.frames.pages new.frames.pages old.schema page image.bytes more.frames is).form

pub same_resident : (old new : ClientView) (page : ℕ) (image : PageImage) → ArePaired old.frames.pages → Extends old new → IsResident old page image → IsResident new page image
same_resident old new page image was more is = record {
  form = subst (λ (s : Schema). IsResidentPage new.frames.pages s page image.bytes) (sym more.schema) (stored_so old.frames.pages new.frames.pages old.schema page image.bytes more.frames is.form).resident;
  framed = framed_still old.frames.pages new.frames.pages page was more.paired more.frames is.framed;
  cells = subst (λ (i : PageImage). HasCellsOf new.schema page i.bytes) (sym (same_stored old new page image more is.form)) (subst (λ (s : Schema). HasCellsOf s page (stored_image old page image).bytes) (sym more.schema) is.cells);
}

-- ---- page by page

-- neither changed a page
pub record KeepsPage (old new : ClientView) (before after : Side Entry) (page : ℕ) : Type 0 where
  pub entry : entry_of new page ≡ entry_of old page
  pub side : SameAt before after page

-- what the two have of a page goes together
pub record SettlesPage (count : ℕ) (new : ClientView) (after : Side Entry) (page : ℕ) : Type 0 where
  pub tied : IsTied (stored_image new page) after page (entry_of new page)
  pub resident : (entry : CachedPage) → entry_of new page ≡ Some entry → IsResident new page entry.image
  pub known : (entry : CachedPage) → entry_of new page ≡ Some entry → page < count

abbrev pub Goes : ℕ → ClientView → ClientView → Side Entry → Side Entry → ℕ → Type 0
Goes count old new before after page = KeepsPage old new before after page ⊎ SettlesPage count new after page

pub record GoesOn (serves later : Script → Type 0) (told now : Told Entry) (old new : ClientView) : Type 0 where
  pub own : IsOwn serves told old
  pub served : (s : Script) → serves s → later s
  pub service : SameService told now
  pub more : Extends old new
  pub each : (page : ℕ) → Goes (length told.opened) old new told.mine now.mine page
  pub framed : AreKnown (length told.opened) new.frames.pages
  pub short : length new.pages ≤ new.most
  pub first : AreUsedFirst new.pages

pub goes_own : (serves later : Script → Type 0) (told now : Told Entry) (old new : ClientView) → GoesOn serves later told now old new → IsOwn later now new
goes_own serves later told now old new h = record {
  number = h.service.client ∙ h.own.number ∙ sym (ap (λ c. c.0) h.more.client);
  script = (h.own.script.0, h.served h.own.script.0 h.own.script.1, h.own.script.2 ∙ sym h.more.schema);
  tied = λ page. tied_at page (h.each page);
  resident = λ page entry is. resident_at page entry is (h.each page);
  known = λ page entry is. subst (λ (l : List PageImage). page < length l) (sym h.service.opened) (known_at page entry is (h.each page));
  frames = h.more.paired;
  framed = λ frame page is. subst (λ (l : List PageImage). page.0 < length l) (sym h.service.opened) (h.framed frame page is);
  short = h.short;
  first = h.first;
}
  where
    tied_at : (page : ℕ) → Goes (length told.opened) old new told.mine now.mine page → IsTied (stored_image new page) now.mine page (entry_of new page)
    tied_at page (inl keeps) =
        subst (IsTied (stored_image new page) now.mine page) (sym keeps.entry)
        (tied_still (entry_of old page) (stored_image old page) (stored_image new page) told.mine now.mine page (λ entry is. same_stored old new page entry.image h.more (h.own.resident page entry is).form) keeps.side (h.own.tied page))
    tied_at page (inr settles) = settles.tied

    resident_at : (page : ℕ) (entry : CachedPage) → entry_of new page ≡ Some entry → Goes (length told.opened) old new told.mine now.mine page → IsResident new page entry.image
    resident_at page entry is (inl keeps) = same_resident old new page entry.image h.own.frames h.more (h.own.resident page entry (sym keeps.entry ∙ is))
    resident_at page entry is (inr settles) = settles.resident entry is

    known_at : (page : ℕ) (entry : CachedPage) → entry_of new page ≡ Some entry → Goes (length told.opened) old new told.mine now.mine page → page < length told.opened
    known_at page entry is (inl keeps) = h.own.known page entry (sym keeps.entry ∙ is)
    known_at page entry is (inr settles) = settles.known entry is

-- ---- calls that leave the client

pub extends_refl : (client : ClientView) → ArePaired client.frames.pages → Extends client client
extends_refl client are = record { schema = refl; most = refl; count = refl; client = refl; frames = record { pages = λ frame page is. is }; paired = are }

pub same_pages_at : {E : Type 0} (a b : Side E) → SamePages a b → (page : ℕ) → SameAt a b page
same_pages_at a b same page = record { held = same.held page; owned = same.owned page; kept = same.kept page; droppable = same.droppable page }

pub own_still : (serves later : Script → Type 0) (told now : Told Entry) (client : ClientView) → IsOwn serves told client → ((s : Script) → serves s → later s) → SameService told now → SamePages told.mine now.mine → IsOwn later now client
own_still serves later told now client own served service pages =
    goes_own serves later told now client client (record {
      own = own;
      served = served;
      service = service;
      more = extends_refl client own.frames;
      each = λ page. inl (record { entry = refl; side = same_pages_at told.mine now.mine pages page });
      framed = own.framed;
      short = own.short;
      first = own.first;
    })
