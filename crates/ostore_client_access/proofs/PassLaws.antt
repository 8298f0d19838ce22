-- Calls of a client that were Ok, or failed, one after the other.
use Rattle.std.proofs.Common.{◌≡◌, ◌<◌, ℕ, ◌+◌, ◌/◌, ◌%◌, Bool, true, false, nat_eq, List, [], None, inl, inr, refl, sym, ap, subst, ◌∙◌, arith}
use Rattle.std.proofs.lemmas.Bool.{and_parts, false≢true}
use Rattle.std.specs.Prelude.{◌&&◌, Option, Some, IfSome, Result, Ok, Err, OnOk, IfErr, length}
use Rattle.std.specs.Map.{set_value}
use Rattle.ostore_address_space.specs.Frames.{Frames, free_frames, page_in}
use Rattle.ostore_relocation.specs.Reserving.{pages_wanted}
use Rattle.ostore_base.specs.declared.numbers.PageNo.{PageNo}
use Rattle.ostore_page_service.specs.Told.{Side, Told, SameRecords, StillServes, NoBusy, OwnedByAnother, UsedByAnother}
use Rattle.ostore_graph_model.specs.declared.commands.Script.{Script}
use Rattle.ostore_graph_model.specs.declared.history.Entry.{Entry}
use Rattle.ostore_client_cache.specs.declared.entries.CachedPage.{CachedPage}
use Rattle.ostore_client_cache.specs.Entries.{is_owner, is_owned, with_bytes}
use Rattle.ostore_client_cache.specs.Caches.{used_pages}
use Rattle.ostore_client_core.specs.declared.fault.AttemptFault.{AttemptFault}
use Rattle.ostore_client_core.specs.declared.fault.AttemptFault.TheVariants.{Busy, NoSpace, CacheFull, SpaceFull, Commit, OutOfMemory}
use Rattle.ostore_client_core.specs.Clients.{ClientView, entry_of, with_pages, IsOwn}
use Rattle.ostore_client_core.specs.Attempts.{Narrows}
use Rattle.ostore_client_core.specs.Calls.{BringsPage, SameClient, OwnsNoMore, IsAddressOf, IsBusy, LacksFrames, Refused}
use Rattle.ostore_client_core.proofs.RecordLaws.{calm_refl}
use Rattle.ostore_client_core.proofs.RoomLaws.{lacking_full}
use Rattle.ostore_client_access.specs.Accesses.{MeetsAnother, Passes, Fails, Causes}
use Rattle.ostore_client_access.specs.inside.Passing.{HasPassed, HasFailed}
use Rattle.ostore_client_access.specs.inside.Puts.{OwnsOne, PutsInto}

-- ---- why a page didn't come, and why it isn't owned

-- a page that came in found no frame, so all of them are reserved
lacks_full : (old new : ClientView) (page : PageNo) (frames : ℕ) (mine : Side Entry) → LacksFrames old new page frames mine → free_frames new.frames.pages ≡ []
lacks_full old new page frames mine lacks =
    ap (λ (f : Frames). free_frames f.pages) lacks.frames_are ∙ lacking_full lacks.choice old.frames (pages_wanted old.schema page lacks.image.bytes) lacks.lacks

refused_causes : (fault : AttemptFault) (old new : ClientView) (page : PageNo) (told now : Told Entry) → SameClient old new → Refused fault old new page told now → Causes false fault told now new
refused_causes (Busy busy) old new page told now same h = (h.1.rose, h.1.told, inl (subst (OwnedByAnother told) (sym h.1.page) h.2))
refused_causes (NoSpace segment need) old new page told now same h = absurd h
refused_causes (CacheFull used capacity) old new page told now same h = (
  subst (NoBusy told) (sym h.1) (calm_refl told),
  h.2 ∙ ap (λ (v : ClientView). length (used_pages v.pages)) (sym h.0),
  h.3 ∙ ap (λ (v : ClientView). v.most) (sym h.0),
  h.4,
  h.5,
)
refused_causes (SpaceFull frames) old new page told now same h = (h.1, record { old = old; page = page; lacks = h.0; full = lacks_full old new page frames now.mine h.0 }, h.0.count ∙ sym same.frames, h.2)
refused_causes (Commit fault) old new page told now same h = absurd h
refused_causes OutOfMemory old new page told now same h = subst (NoBusy told) (sym h.1) (calm_refl told)

-- a page that didn't come into use
pub enter_fails : {T : Type 0} (a b : Script → Type 0) (t u : Told Entry) (x y : ClientView) (page : PageNo) (r : Result T AttemptFault) → IfErr r (λ fault. Refused fault x y page t u)
    → IsOwn b u y → SameRecords t u → StillServes a b → SameClient x y → OwnsNoMore x y → IfErr r (λ fault. Fails false fault a b t u x y)
enter_fails a b t u x y page (Ok value) refused own same served client owned = refused
enter_fails a b t u x y page (Err fault) refused own same served client owned = record {
  own = own;
  same = same;
  served = served;
  client = client;
  owned = λ reads. owned;
  cause = refused_causes fault x y page t u client refused;
}

pub busy_causes : (fault : AttemptFault) (told now : Told Entry) (client : ClientView) (page : ℕ) → IsBusy fault told now page → Causes true fault told now client
busy_causes (Busy busy) told now client page h = (h.0.rose, h.0.told, inr (refl, subst (UsedByAnother told) (sym h.0.page) h.1))
busy_causes (NoSpace segment need) told now client page h = absurd h
busy_causes (CacheFull used capacity) told now client page h = absurd h
busy_causes (SpaceFull frames) told now client page h = absurd h
busy_causes (Commit fault) told now client page h = absurd h
busy_causes OutOfMemory told now client page h = absurd h

-- ---- what holds of reads holds of updates

met_any : (updates : Bool) (told : Told Entry) (page : ℕ) → MeetsAnother false told page → MeetsAnother updates told page
met_any updates told page (inl owned) = inl owned
met_any updates told page (inr used) = absurd (false≢true used.0)

causes_any : (updates : Bool) (fault : AttemptFault) (told now : Told Entry) (client : ClientView) → Causes false fault told now client → Causes updates fault told now client
causes_any updates (Busy busy) told now client h = (h.0, h.1, met_any updates told busy.page.0 h.2)
causes_any updates (NoSpace segment need) told now client h = h
causes_any updates (CacheFull used capacity) told now client h = h
causes_any updates (SpaceFull frames) told now client h = h
causes_any updates (Commit fault) told now client h = h
causes_any updates OutOfMemory told now client h = h

pub passes_any : (updates : Bool) (a b : Script → Type 0) (t u : Told Entry) (x y : ClientView) → Passes false a b t u x y → Passes updates a b t u x y
passes_any updates a b t u x y one = record { same = one.same; served = one.served; calm = one.calm; client = one.client; owned = λ reads. one.owned refl }

pub fails_any : (updates : Bool) (fault : AttemptFault) (a b : Script → Type 0) (t u : Told Entry) (x y : ClientView) → Fails false fault a b t u x y → Fails updates fault a b t u x y
fails_any updates fault a b t u x y one = record { own = one.own; same = one.same; served = one.served; client = one.client; owned = λ reads. one.owned refl; cause = causes_any updates fault t u y one.cause }

-- ---- a holder that updates

pub holder_updates : (updates may : Bool) → (updates && may) ≡ true → updates ≡ true
holder_updates updates may both = (and_parts updates may both).0

pub holder_writes : (updates may : Bool) → (updates && may) ≡ true → may ≡ true
holder_writes updates may both = (and_parts updates may both).1

pub holder_passed : {T F : Type 0} (updates : Bool) (a b : Script → Type 0) (t u : Told Entry) (x y : ClientView) (r : Result T F) → updates ≡ true → OnOk r (Passes true a b t u x y) → OnOk r (HasPassed updates updates a b t u x y)
holder_passed updates a b t u x y (Ok value) kind one = (refl, subst (λ (k : Bool). Passes k a b t u x y) (sym kind) one)
holder_passed updates a b t u x y (Err fault) kind one = one

pub holder_failed : {T : Type 0} (updates : Bool) (a b : Script → Type 0) (t u : Told Entry) (x y : ClientView) (r : Result T AttemptFault) → updates ≡ true → IfErr r (λ fault. Fails true fault a b t u x y) → IfErr r (λ fault. HasFailed updates updates fault a b t u x y)
holder_failed updates a b t u x y (Ok value) kind one = one
holder_failed updates a b t u x y (Err fault) kind one = (refl, subst (λ (k : Bool). Fails k fault a b t u x y) (sym kind) one)

-- ---- one narrowing after the other

pub narrows_then : (a b c : Script → Type 0) (t u v : Told Entry) (x y z : ClientView) → Narrows a b t u x y → Narrows b c u v y z → Narrows a c t v x z
narrows_then a b c t u v x y z one two = record {
  runs = two.runs;
  lists = λ base list may. one.lists base list (two.lists base list may);
  schema = two.schema ∙ one.schema;
  frames = record { pages = λ f p is. two.frames.pages f p (one.frames.pages f p is) };
  views = λ p used. two.views p (one.views p used);
}

-- a page that isn't owned, for another client is at it
pub own_fails : (b c : Script → Type 0) (u v : Told Entry) (fault : AttemptFault) (y z : ClientView) (page : PageNo) (frame : ℕ) → page_in y.frames.pages frame ≡ Some page → IfSome (page_in y.frames.pages frame) (λ p. (z ≡ y) × IsBusy fault u v p.0)
    → IsOwn c v z → SameRecords u v → StillServes b c → SameClient y z → Fails true fault b c u v y z
own_fails b c u v fault y z page frame leads refused own same served client =
    let why = subst (λ (o : Option PageNo). IfSome o (λ p. (z ≡ y) × IsBusy fault u v p.0)) leads refused in
    record {
      own = own;
      same = same;
      served = served;
      client = client;
      owned = λ reads. absurd (false≢true (sym reads));
      cause = busy_causes fault u v z page.0 why.1;
    }

-- ---- bytes that are put into a page

owned_there : (found : Option CachedPage) → is_owned found ≡ true → (entry : CachedPage) × (found ≡ Some entry) × (is_owner entry.hold ≡ true)
owned_there None is = absurd (false≢true is)
owned_there (Some entry) is = (entry, refl, is)

-- what a store at an address in the frame of an owned page does
abbrev StoresAt : ClientView → ClientView → Option PageNo → ℕ → List ℕ → Type 0
StoresAt y new found at bytes = IfSome found (λ p. IfSome (entry_of y p.0) (λ entry. new ≡ with_pages (set_value (nat_eq p.0) y.pages (with_bytes entry at bytes)) y))

pub puts_into : (a b : Script → Type 0) (t u : Told Entry) (x y new : ClientView) (page address at moved : ℕ) (bytes : List ℕ) → moved ≡ at → Narrows a b t u x y → BringsPage x y page → OwnsOne x y page → is_owned (entry_of y page) ≡ true → IsAddressOf y page address → at < 4096
    → IfSome (page_in y.frames.pages ((address + moved) / 4096)) (λ p. IfSome (entry_of y p.0) (λ entry. new ≡ with_pages (set_value (nat_eq p.0) y.pages (with_bytes entry ((address + moved) % 4096) bytes)) y)) → PutsInto a b t u x new page at bytes
puts_into a b t u x y new page address at moved bytes same narrows brings owns owned is low stores =
    let found = owned_there (entry_of y page) owned in
    let first = is.first in
    let frame : (address + moved) / 4096 ≡ address / 4096 = omega arith in
    let place : (address + moved) % 4096 ≡ at = omega arith in
    record {
      owned = y;
      narrows = narrows;
      brings = brings;
      owns = owns;
      entry = found.0;
      there = found.1;
      owner = found.2;
      client =
          subst (λ (o : Option CachedPage). IfSome o (λ entry. new ≡ with_pages (set_value (nat_eq page) y.pages (with_bytes entry at bytes)) y)) found.1
          (subst (λ (o : Option PageNo). StoresAt y new o at bytes) is.leads
          (subst (λ (k : ℕ). StoresAt y new (page_in y.frames.pages k) at bytes) frame
          (subst (λ (k : ℕ). StoresAt y new (page_in y.frames.pages ((address + moved) / 4096)) k bytes) place stores)));
    }
