-- Which pages come into view, and calls that leave all as it was.
use Rattle.std.proofs.Common.{◌≡◌, ◌⊎◌, ℕ, Bool, nat_eq, List, Option, Some, inl, inr, refl, sym, ap, subst, ◌∙◌}
use Rattle.std.specs.Prelude.{Result, Ok, Err, IfErr, IfSome}
use Rattle.std.specs.Map.{set_value}
use Rattle.std.proofs.lemmas.Bool.{cases_eq}
use Rattle.ostore_base.specs.declared.numbers.PageNo.{PageNo}
use Rattle.ostore_segments.specs.Holdings.{BringsOnly, Rests}
use Rattle.ostore_page_service.specs.Told.{Told}
use Rattle.ostore_graph_model.specs.declared.commands.Script.{Script}
use Rattle.ostore_graph_model.specs.declared.history.Entry.{Entry}
use Rattle.ostore_client_cache.specs.declared.entries.CachedPage.{CachedPage}
use Rattle.ostore_client_cache.specs.declared.entries.Hold.TheVariants.{Owned}
use Rattle.ostore_client_cache.specs.Entries.{is_in_use, held_as, with_bytes}
use Rattle.ostore_client_core.specs.declared.fault.AttemptFault.{AttemptFault}
use Rattle.ostore_client_core.specs.declared.fault.AttemptFault.TheVariants.{Busy, NoSpace, CacheFull, SpaceFull, Commit, OutOfMemory}
use Rattle.ostore_client_core.specs.Clients.{ClientView, entry_of, with_pages, is_page_used, IsOwn}
use Rattle.ostore_client_core.specs.Attempts.{seen_list, Attempts}
use Rattle.ostore_client_core.specs.Calls.{BringsPage, IsBusy, OwnsPage, Refused}
use Rattle.ostore_client_core.proofs.EntryLaws.{some_of, set_other, used_there}
use Rattle.ostore_client_access.specs.Accesses.{InView, access_held, Fails, Stays}
use Rattle.ostore_client_access.specs.inside.Puts.{AreAsBefore, PutsInto}

-- ---- one page came into use

-- another entry of that page brings no other one
brings_set : (x y z : ClientView) (page : ℕ) (was now : CachedPage) → entry_of y page ≡ Some was → z ≡ with_pages (set_value (nat_eq page) y.pages now) y → BringsPage x y page → BringsPage x z page
brings_set x y z page was now there is one = record {
  used = λ other used. elim (cases_eq other page) as (λ _. is_page_used x other ⊎ (other ≡ page)) [
    | inl same ↦ inr same
    | inr apart ↦ one.used other (sym (ap is_in_use (ap (λ (v : ClientView). entry_of v other) is ∙ set_other page other now y.pages (some_of (entry_of y page) was there) apart)) ∙ used)
  ];
}

pub brings_owned : (x y z : ClientView) (page : PageNo) (found : Option PageNo) → found ≡ Some page → BringsPage x y page.0 → IfSome found (λ p. OwnsPage y z p.0) → BringsPage x z page.0
brings_owned x y z page found is one owns =
    let o : OwnsPage y z page.0 = subst (λ (f : Option PageNo). IfSome f (λ p. OwnsPage y z p.0)) is owns in
    brings_set x y z page.0 o.entry (held_as Owned o.entry) o.there o.client one

brings_put : (a b : Script → Type 0) (t u : Told Entry) (x new : ClientView) (page at : ℕ) (bytes : List ℕ) → PutsInto a b t u x new page at bytes → BringsPage x new page
brings_put a b t u x new page at bytes p = brings_set x p.owned new page p.entry (with_bytes p.entry at bytes) p.there p.client p.brings

-- ---- one page came into view

pub view_of : (a : Script → Type 0) (t : Told Entry) (x : ClientView) (page : ℕ) → IsOwn a t x → is_page_used x page → InView x page
view_of a t x page own used =
    let found = used_there (entry_of x page) used in
    record { used = used; framed = (own.resident page found.entry found.is).framed }

pub brings_view : (a b : Script → Type 0) (t u : Told Entry) (x y : ClientView) (page : ℕ) → Attempts a t x → BringsPage x y page → BringsOnly (access_held a t x) (access_held b u y) (λ named. named ≡ page)
brings_view a b t u x y page runs one = record {
  views = λ other view. elim (one.used other view.used) as (λ _. InView x other ⊎ (other ≡ page)) [
    | inl used ↦ inl (view_of a t x other runs.own used)
    | inr same ↦ inr same
  ];
}

pub puts_view : (a b : Script → Type 0) (t u : Told Entry) (x y : ClientView) (page at : ℕ) (bytes : List ℕ) → Attempts a t x → PutsInto a b t u x y page at bytes → BringsOnly (access_held a t x) (access_held b u y) (λ named. named ≡ page)
puts_view a b t u x y page at bytes runs p = brings_view a b t u x y page runs (brings_put a b t u x y page at bytes p)

pub brings_none : (a : Script → Type 0) (t : Told Entry) (x : ClientView) (page : ℕ) → BringsOnly (access_held a t x) (access_held a t x) (λ named. named ≡ page)
brings_none a t x page = record { views = λ other view. inl view }

-- ---- all is as it was

refused_stays : (fault : AttemptFault) (old new : ClientView) (page : PageNo) (told now : Told Entry) → Refused fault old new page told now → Stays fault → AreAsBefore told now old new
refused_stays (Busy busy) old new page told now h stays = absurd stays
refused_stays (NoSpace segment need) old new page told now h stays = absurd stays
refused_stays (CacheFull used capacity) old new page told now h stays = record { client = h.0; service = h.1 }
refused_stays (SpaceFull frames) old new page told now h stays = absurd stays
refused_stays (Commit fault) old new page told now h stays = absurd stays
refused_stays OutOfMemory old new page told now h stays = absurd stays

pub enter_stays : {T : Type 0} (r : Result T AttemptFault) (old new : ClientView) (page : PageNo) (told now : Told Entry) → IfErr r (λ fault. Refused fault old new page told now) → IfErr r (λ fault. Stays fault → AreAsBefore told now old new)
enter_stays (Ok value) old new page told now h = h
enter_stays (Err fault) old new page told now h = refused_stays fault old new page told now h

busy_moves : (fault : AttemptFault) (told now : Told Entry) (page : ℕ) → IsBusy fault told now page → Stays fault → ⊥
busy_moves (Busy busy) told now page h stays = stays
busy_moves (NoSpace segment need) told now page h stays = stays
busy_moves (CacheFull used capacity) told now page h stays = h
busy_moves (SpaceFull frames) told now page h stays = stays
busy_moves (Commit fault) told now page h stays = stays
busy_moves OutOfMemory told now page h stays = stays

pub own_moves : (fault : AttemptFault) (told now : Told Entry) (y z : ClientView) (page : PageNo) (found : Option PageNo) → found ≡ Some page → IfSome found (λ p. (z ≡ y) × IsBusy fault told now p.0) → Stays fault → ⊥
own_moves fault told now y z page found is refused stays =
    let why = subst (λ (f : Option PageNo). IfSome f (λ p. (z ≡ y) × IsBusy fault told now p.0)) is refused in
    busy_moves fault told now page.0 why.1 stays

same_rests : (a b : Script → Type 0) (t : Told Entry) (x : ClientView) → Attempts a t x → IsOwn b t x → Rests (access_held a t x) (access_held b t x)
same_rests a b t x runs own = record {
  lists = record {
    some = (runs.some.0, seen_list x runs.some.0, record { runs = record { own = own; few = runs.few; some = runs.some }; began = runs.some.1; made = refl });
    from = λ base new may. (new, record { runs = runs; began = may.began; made = may.made }, refl);
    views = λ page view. view;
    homes = λ pointer stored is. is;
  };
  views = λ page view. view;
  owns = λ page owned. owned;
}

pub rests : (a b : Script → Type 0) (t u : Told Entry) (x y : ClientView) → Attempts a t x → IsOwn b u y → AreAsBefore t u x y → Rests (access_held a t x) (access_held b u y)
rests a b t u x y runs own same =
    subst (λ (v : ClientView). Rests (access_held a t x) (access_held b u v)) (sym same.client)
    (subst (λ (w : Told Entry). Rests (access_held a t x) (access_held b w x)) (sym same.service)
    (same_rests a b t x runs (subst (λ (w : Told Entry). IsOwn b w x) same.service (subst (λ (v : ClientView). IsOwn b u v) same.client own))))

pub holder_rests : {T : Type 0} (updates : Bool) (a b : Script → Type 0) (t u : Told Entry) (x y : ClientView) (r : Result T AttemptFault) → Attempts a t x → IfErr r (λ fault. Fails updates fault a b t u x y) → IfErr r (λ fault. Stays fault → AreAsBefore t u x y)
    → IfErr r (λ fault. Stays fault → Rests (access_held a t x) (access_held b u y))
holder_rests updates a b t u x y (Ok value) runs failed same = same
holder_rests updates a b t u x y (Err fault) runs failed same = λ stays. rests a b t u x y runs failed.own (same stays)
