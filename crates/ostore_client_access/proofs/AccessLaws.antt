-- What a client and its service stand for as a holder of pages.
use Rattle.std.proofs.Common.{◌≡◌, ℕ, ◌+◌, ◌<◌, true, List, [], ◌∷◌, ◌++◌, length, get_or, set, take, drop, Some, refl, sym, ap, subst, ◌∙◌, arith}
use Rattle.std.specs.List.{AllByRecursion}
use Rattle.std.proofs.lemmas.List.{append-nil, set-get_or, take-append-drop}
use Rattle.std.proofs.lemmas.Option.{same_Some}
use Rattle.ostore_base.specs.Disk.{replaced}
use Rattle.ostore_base.specs.declared.page.PageImage.{PageImage}
use Rattle.ostore_schema_layout.specs.Cells.{pointers_of}
use Rattle.ostore_page_tags.specs.PageLists.{bytes_at, with_bytes}
use Rattle.ostore_address_space.specs.Frames.{ArePaired, KeepsFrames}
use Rattle.ostore_page_tags.specs.Numbers.{number_at}
use Rattle.ostore_relocation.specs.Places.{IsOutside, page_pointers}
use Rattle.ostore_relocation.specs.Pointers.{stored_pointer}
use Rattle.ostore_relocation.specs.Forms.{pointers_end, stored_form}
use Rattle.ostore_relocation.specs.Stores.{StoresAs}
use Rattle.ostore_relocation.proofs.ChangeLaws.{changes, stored_fits}
use Rattle.ostore_relocation.proofs.PageLaws.{end_low}
use Rattle.ostore_relocation.proofs.OutsideLaws.{has_form}
use Rattle.ostore_segments.specs.Holdings.{Stands, Becomes}
use Rattle.ostore_segments.specs.Seen.{IsSeenAs}
use Rattle.ostore_page_service.specs.Told.{Told}
use Rattle.ostore_graph_model.specs.declared.commands.Script.{Script}
use Rattle.ostore_graph_model.specs.declared.history.Entry.{Entry}
use Rattle.ostore_client_cache.specs.declared.entries.CachedPage.{CachedPage}
use Rattle.ostore_client_cache.specs.declared.entries.Hold.{Hold}
use Rattle.ostore_client_cache.specs.declared.entries.Hold.TheVariants.{Retained, InUse, Owned}
use Rattle.ostore_client_cache.specs.Entries.{is_used, is_in_use, image_held, used_image}
use Rattle.std.proofs.lemmas.Bool.{false≢true}
use Rattle.ostore_client_core.specs.Cells.{HasCellsOf}
use Rattle.ostore_client_core.specs.Clients.{ClientView, entry_of}
use Rattle.ostore_client_core.specs.Attempts.{seen_list, home_of, Attempts, MayBe, Narrows}
use Rattle.ostore_client_core.proofs.EntryLaws.{used_there}
use Rattle.ostore_client_core.proofs.GoesLaws.{framed_still}
use Rattle.ostore_client_core.proofs.SeenLaws.{length_seen, seen_used}
use Rattle.ostore_client_access.specs.Accesses.{InView, access_held, Edits}
use Rattle.ostore_client_access.specs.inside.Puts.{PutsInto}
use Rattle.ostore_client_access.proofs.StoreSteps.{owner_used, stored, seen_get}
use Rattle.ostore_client_access.proofs.HomeLaws.{homes_kept, homes_stored}

pub stands_runs : {P : List PageImage → Type 0} (a : Script → Type 0) (t : Told Entry) (x : ClientView) → Stands (access_held a t x) P → Attempts a t x
stands_runs a t x stands = stands.some.2.runs

may_long : (a : Script → Type 0) (t : Told Entry) (x : ClientView) (base list : List PageImage) → MayBe a t x base list → length list ≡ length t.opened
may_long a t x base list may = ap (λ (l : List PageImage). length l) may.made ∙ length_seen x 0 base ∙ may.began.long

pub stands_range : {P : List PageImage → Type 0} (a : Script → Type 0) (t : Told Entry) (x : ClientView) (page : ℕ) → ((list : List PageImage) → P list → page < length list) → Stands (access_held a t x) P → page < length t.opened
stands_range a t x page below stands =
    let there = below stands.some.1 (stands.each stands.some.0 stands.some.1 stands.some.2) in
    let long = may_long a t x stands.some.0 stands.some.1 stands.some.2 in
    omega arith

-- ---- what the holder becomes

view_kept : (x y : ClientView) (page : ℕ) → ArePaired x.frames.pages → ArePaired y.frames.pages → ((p : ℕ) → is_in_use (entry_of x p) ≡ true → is_in_use (entry_of y p) ≡ true) → KeepsFrames x.frames.pages y.frames.pages → InView x page → InView y page
view_kept x y page was now views frames v = record { used = views page v.used; framed = framed_still x.frames.pages y.frames.pages page was now frames v.framed }

pub becomes_narrows : (a b : Script → Type 0) (t u : Told Entry) (x y : ClientView) → Attempts a t x → Narrows a b t u x y → Becomes (access_held a t x) (access_held b u y) (λ old new. new ≡ old)
becomes_narrows a b t u x y was one = record {
  some = (one.runs.some.0, seen_list y one.runs.some.0, record { runs = one.runs; began = one.runs.some.1; made = refl });
  from = λ base new may. (new, one.lists base new may, refl);
  views = λ page v. view_kept x y page was.own.frames one.runs.own.frames one.views one.frames v;
  homes = homes_kept x y one.frames;
}

pub becomes_edits : (a b : Script → Type 0) (t u : Told Entry) (x y : ClientView) (page at : ℕ) (bytes : List ℕ) → Attempts a t x → Edits a b t u x y page at bytes → Becomes (access_held a t x) (access_held b u y) (λ old new. new ≡ with_bytes old page at bytes)
becomes_edits a b t u x y page at bytes was one = record {
  some = (one.runs.some.0, seen_list y one.runs.some.0, record { runs = one.runs; began = one.runs.some.1; made = refl });
  from = λ base new may. one.lists base new may;
  views = λ p v. view_kept x y p was.own.frames one.runs.own.frames one.views one.frames v;
  homes = homes_kept x y one.frames;
}

-- no bytes
none_put : (list : List PageImage) (page at : ℕ) → with_bytes list page at [] ≡ list
none_put list page at =
    ap (λ (b : List ℕ). set list page (record { bytes = b })) (same_bytes (bytes_at list page))
    ∙ set-get_or list page (record { bytes = [] })
  where
    same_bytes : (bytes : List ℕ) → replaced at [] bytes ≡ bytes
    same_bytes bytes =
        let start : at + 0 ≡ at = omega arith in
        ap (λ (l : List ℕ). l ++ drop (at + 0) bytes) (append-nil (take at bytes)) ∙ ap (λ (n : ℕ). take at bytes ++ drop n bytes) start ∙ take-append-drop at bytes

pub becomes_none : {P : List PageImage → Type 0} (a : Script → Type 0) (t : Told Entry) (x : ClientView) (page at : ℕ) (bytes : List ℕ) → length bytes ≡ 0 → Stands (access_held a t x) P → Becomes (access_held a t x) (access_held a t x) (λ old new. new ≡ with_bytes old page at bytes)
becomes_none a t x page at bytes empty stands = record {
  some = stands.some;
  from = λ base new may. (new, may, sym (subst (λ (l : List ℕ). with_bytes new page at l ≡ new) (sym (nothing bytes empty)) (none_put new page at)));
  views = λ p v. v;
  homes = λ pointer stored is. is;
}
  where
    nothing : (xs : List ℕ) → length xs ≡ 0 → xs ≡ []
    nothing [] empty = refl
    nothing (z ∷ xs) empty = absurd (omega arith)

-- ---- a page that is owned

-- one of the lists, in which the page is the stored form of the client's image
pub record HasList (a b : Script → Type 0) (t u : Told Entry) (x y : ClientView) (page : ℕ) (entry : CachedPage) : Type 0 where
  pub base : List PageImage
  pub list : List PageImage
  pub may : MayBe a t x base list
  pub bytes : bytes_at list page ≡ stored_form y.frames.pages y.schema page entry.image.bytes

pub owned_list : (a b : Script → Type 0) (t u : Told Entry) (x new : ClientView) (page at : ℕ) (bytes : List ℕ) (p : PutsInto a b t u x new page at bytes) → HasList a b t u x p.owned page p.entry
owned_list a b t u x new page at bytes p =
    let runs = p.narrows.runs in
    let base : List PageImage = runs.some.0 in
    let known = runs.own.known page p.entry p.there in
    let long = runs.some.1.long in
    let below : page < length base = omega arith in
    record {
      base = base;
      list = seen_list p.owned base;
      may = p.narrows.lists base (seen_list p.owned base) (record { runs = runs; began = runs.some.1; made = refl });
      bytes =
          ap (λ (i : PageImage). i.bytes) (seen_get p.owned base page (record { bytes = [] }) below
          ∙ seen_used p.owned page p.entry (get_or base page (record { bytes = [] })) p.there (owner_used p.entry.hold p.owner));
    }

pub edits_put : (a b : Script → Type 0) (t u : Told Entry) (x new : ClientView) (page at : ℕ) (bytes put : List ℕ) (p : PutsInto a b t u x new page at bytes)
    → StoresAs p.owned.frames.pages p.owned.schema page (replaced at bytes p.entry.image.bytes) (replaced at put (stored_form p.owned.frames.pages p.owned.schema page p.entry.image.bytes))
    → HasCellsOf p.owned.schema page (replaced at put (stored_form p.owned.frames.pages p.owned.schema page p.entry.image.bytes))
    → Edits a b t u x new page at put
edits_put a b t u x new page at bytes put p stores cells =
    let one = stored b u p.owned new page at bytes put p.narrows.runs (record { entry = p.entry; there = p.there; owner = p.owner; client = p.client; stores = stores; cells = cells }) in
    record {
      runs = one.runs;
      lists = λ base list may. (let edited = one.lists base list may in (edited.0, p.narrows.lists base edited.0 edited.1, edited.2));
      schema = one.schema ∙ p.narrows.schema;
      frames = record { pages = λ f q is. one.frames.pages f q (p.narrows.frames.pages f q is) };
      views = λ q used. one.views q (p.narrows.views q used);
    }

-- ---- a page in use is seen

held_image : (hold : Hold) (was image : PageImage) → is_used hold ≡ true → Some image ≡ image_held hold was → was ≡ image
held_image Retained was image used is = absurd (false≢true used)
held_image InUse was image used is = sym (same_Some image was is)
held_image Owned was image used is = sym (same_Some image was is)

pub sees : (a : Script → Type 0) (t : Told Entry) (x : ClientView) (page : ℕ) (image : PageImage) (base list : List PageImage) → MayBe a t x base list → page < length list → InView x page → Some image ≡ used_image (entry_of x page)
    → IsSeenAs (pointers_of x.schema) (home_of x) page image.bytes (bytes_at list page)
sees a t x page image base list may there view is =
    let own = may.runs.own in
    let found = used_there (entry_of x page) view.used in
    let used : is_used found.entry.hold ≡ true = sym (ap is_in_use found.is) ∙ view.used in
    let same : found.entry.image ≡ image = held_image found.entry.hold found.entry.image image used (is ∙ ap used_image found.is) in
    let held : List ℕ = found.entry.image.bytes in
    let made : List ℕ = stored_form x.frames.pages x.schema page held in
    let long : length list ≡ length base = ap (λ (l : List PageImage). length l) may.made ∙ length_seen x 0 base in
    let bytes : bytes_at list page ≡ made =
    ap (λ (l : List PageImage). bytes_at l page) may.made
    ∙ ap (λ (i : PageImage). i.bytes) (seen_get x base page (record { bytes = [] }) (omega arith) ∙ seen_used x page found.entry (get_or base page (record { bytes = [] })) found.is used) in
    let resident = (own.resident page found.entry found.is).form in
    let are = own.frames.all in
    let form = has_form x.frames.pages x.schema page held are resident in
    let high = end_low page held in
    let whole = resident.whole in
    let all = changes (stored_pointer x.frames.pages) 32 (pointers_end page held) (page_pointers x.schema page held) held (stored_fits x.frames.pages are) resident.lie (omega arith) in
    subst (λ (b : List ℕ). IsSeenAs (pointers_of x.schema) (home_of x) page image.bytes b) (sym bytes) (subst (λ (i : PageImage). IsSeenAs (pointers_of x.schema) (home_of x) page i.bytes made) same (record {
      long = sym form.long;
      same = λ k out. sym (form.outside k (subst (AllByRecursion (IsOutside k)) form.places out));
      leads = subst (AllByRecursion (λ at. home_of x (number_at 4 at held) ≡ Some (number_at 4 at made))) (sym form.places) (homes_stored x held made (page_pointers x.schema page held) all.pointers resident.frames);
    }))
