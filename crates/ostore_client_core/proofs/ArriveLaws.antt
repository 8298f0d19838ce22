-- What becomes of the pages where one of them comes into use.
use Rattle.std.proofs.Common.{◌≡◌, ℕ, ◌<◌, nat_eq, ◌∷◌, length, Option, Some, None, sym, ap, subst, ◌∙◌, inl, inr}
use Rattle.std.specs.Prelude.{IsSome}
use Rattle.std.specs.List.{IsDistinct}
use Rattle.std.specs.Map.{lookup, remove_entry, keys_of}
use Rattle.ostore_base.specs.declared.numbers.PageNo.{PageNo}
use Rattle.ostore_base.specs.declared.page.PageImage.{PageImage}
use Rattle.ostore_page_service.specs.Told.{Side, Told}
use Rattle.ostore_graph_model.specs.declared.commands.Script.{Script}
use Rattle.ostore_graph_model.specs.declared.history.Entry.{Entry}
use Rattle.ostore_client_cache.specs.declared.entries.CachedPage.{CachedPage}
use Rattle.ostore_client_cache.specs.declared.entries.Hold.TheVariants.{Retained, InUse}
use Rattle.ostore_client_cache.specs.Entries.{held_as, hold_of, imaged_as}
use Rattle.ostore_client_cache.specs.Caches.{used_pages}
use Rattle.ostore_client_core.specs.declared.fault.AttemptFault.{AttemptFault}
use Rattle.ostore_client_core.specs.Arrivals.{Counts, ComesFirst, LeavesOthers, staying}
use Rattle.ostore_client_core.specs.Attempts.{Attempts}
use Rattle.ostore_client_core.specs.Calls.{one_more, Takes}
use Rattle.ostore_client_core.specs.Clients.{ClientView, with_pages, entry_of}
use Rattle.ostore_client_cache.specs.Entries.{first_as}
use Rattle.ostore_client_core.proofs.EntryLaws.{Pages, some_of, held_there, first_is, set_here}
use Rattle.ostore_client_core.proofs.BringLaws.{removed_set}
use Rattle.ostore_client_core.proofs.TakeLaws.{WasLost, lost_pages}
use Rattle.ostore_client_core.proofs.NewLaws.{Trims, IsLost, mid_rest, mid_fetches}

-- a retained page that was kept
pub kept_first : (old new : ClientView) (page : ℕ) → hold_of (entry_of old page) ≡ Some Retained → new ≡ with_pages (first_as InUse old.pages page) old → ComesFirst old new page
kept_first old new page retained is =
    let was = held_there (entry_of old page) Retained retained in
    record {
      entry = held_as InUse was.entry;
      pages = ap (λ (v : ClientView). v.pages) is ∙ first_is InUse page old.pages was.entry was.is
          ∙ ap (λ (o : Option CachedPage). (page, held_as InUse was.entry) ∷ staying o old page) (sym was.is);
      counts = subst (λ (o : Option CachedPage). Counts o old new) (sym was.is) (inl (ap (λ (v : ClientView). v.fetches) is));
    }

-- what a page that was taken leaves of the others, and that it was counted
pub record IsFirst (mid new : ClientView) (page : ℕ) : Type 0 where
  pub entry : CachedPage
  pub pages : new.pages ≡ (page, entry) ∷ remove_entry (nat_eq page) mid.pages
  pub counted : new.fetches ≡ one_more mid.fetches

pub taken_first : (mid new : ClientView) (page : ℕ) (image : PageImage) → Takes mid new page image → IsFirst mid new page
taken_first mid new page image t =
    let s = t.settles in
    let v : ClientView = t.settled in
    let some : IsSome (lookup (nat_eq page) mid.pages) = some_of (entry_of mid page) s.entry s.there in
    let found : lookup (nat_eq page) v.pages ≡ Some (imaged_as s.resident s.entry) = ap (lookup (nat_eq page)) s.pages ∙ set_here page (imaged_as s.resident s.entry) mid.pages some in
    let entry : CachedPage = held_as InUse (imaged_as s.resident s.entry) in
    record {
      entry = entry;
      pages = ap (λ (x : ClientView). x.pages) t.client ∙ first_is InUse page v.pages (imaged_as s.resident s.entry) found
          ∙ ap (λ (l : Pages). (page, entry) ∷ remove_entry (nat_eq page) l) s.pages ∙ ap (λ (l : Pages). (page, entry) ∷ l) (removed_set page (imaged_as s.resident s.entry) mid.pages);
      counted = ap (λ (x : ClientView). x.fetches) t.client ∙ s.fetches;
    }

-- a retained page that was fetched
pub fetched_first : (old new : ClientView) (page : ℕ) (image : PageImage) → hold_of (entry_of old page) ≡ Some Retained → Takes old new page image → ComesFirst old new page
fetched_first old new page image retained takes =
    let was = held_there (entry_of old page) Retained retained in
    let t = taken_first old new page image takes in
    record {
      entry = t.entry;
      pages = t.pages ∙ ap (λ (o : Option CachedPage). (page, t.entry) ∷ staying o old page) (sym was.is);
      counts = subst (λ (o : Option CachedPage). Counts o old new) (sym was.is) (inr t.counted);
    }

-- a retained page that was lost
pub retained_leaves : (fault : AttemptFault) (old new : ClientView) (page : PageNo) (image : PageImage) (before after : Side Entry) → hold_of (entry_of old page.0) ≡ Some Retained → WasLost fault old new page image before after → LeavesOthers fault old new page.0
retained_leaves fault old new page image before after retained w =
    let was = held_there (entry_of old page.0) Retained retained in
    subst (λ (f : AttemptFault). LeavesOthers f old new page.0) (sym w.is)
    (lost_pages old new page image w.frames w.lost ∙ ap (λ (o : Option CachedPage). staying o old page.0) (sym was.is))

-- a page that the client hadn't, and that was lost
pub new_leaves : (later : Script → Type 0) (fault : AttemptFault) (told now : Told Entry) (old mid new : ClientView) (page : PageNo) (image : PageImage) (before after : Side Entry) → entry_of old page.0 ≡ None → WasLost fault mid new page image before after → IsLost later told now old mid new page.0 → LeavesOthers fault old new page.0
new_leaves later fault told now old mid new page image before after absent w lost =
    subst (λ (f : AttemptFault). LeavesOthers f old new page.0) (sym w.is)
    (lost.pages ∙ ap (λ (o : Option CachedPage). staying o old page.0) (sym absent))

-- a page that the client hadn't
module _ (serves : Script → Type 0) (told : Told Entry) (old : ClientView) (page : ℕ) (runs : Attempts serves told old) (absent : entry_of old page ≡ None) (room : length (used_pages old.pages) < old.most) (distinct : IsDistinct nat_eq (keys_of old.pages)) where
  pub new_first : (admitted mid new : ClientView) (image : PageImage) → Trims old admitted mid page → Takes mid new page image → ComesFirst old new page
  new_first admitted mid new image trims takes =
      let t = taken_first mid new page image takes in
      record {
        entry = t.entry;
        pages = t.pages ∙ ap (λ (l : Pages). (page, t.entry) ∷ l) (mid_rest serves told old page runs absent room distinct admitted mid trims)
            ∙ ap (λ (o : Option CachedPage). (page, t.entry) ∷ staying o old page) (sym absent);
        counts = subst (λ (o : Option CachedPage). Counts o old new) (sym absent) (t.counted ∙ ap one_more (mid_fetches serves told old page runs absent room distinct admitted mid trims));
      }
