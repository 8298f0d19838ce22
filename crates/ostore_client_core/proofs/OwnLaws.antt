-- A client that owns a page, and one whose attempt has ended.
use Rattle.std.proofs.Common.{◌≡◌, ◌≢◌, ℕ, ◌≤◌, Bool, true, false, nat_eq, [], ◌∷◌, length, Option, Some, None, refl, sym, ap, subst, ◌∙◌, arith, inl, inr}
use Rattle.std.specs.Prelude.{IsSome}
use Rattle.std.specs.List.{AllByRecursion}
use Rattle.std.specs.Map.{lookup, set_value}
use Rattle.std.proofs.lemmas.Bool.{cases_eq, eq-eqb, ne_eqb, false≢true}
use Rattle.std.proofs.lemmas.Option.{same_Some}
use Rattle.ostore_base.specs.declared.page.PageImage.{PageImage}
use Rattle.ostore_schema_layout.specs.declared.schema.Schema.{Schema}
use Rattle.ostore_address_space.specs.Frames.{KeepsFrames, ArePaired}
use Rattle.ostore_page_service.specs.Told.{Side, Told, SameService, BecomesOwner}
use Rattle.ostore_graph_model.specs.declared.commands.Script.{Script}
use Rattle.ostore_graph_model.specs.declared.history.Entry.{Entry}
use Rattle.ostore_graph_model.specs.Valid.{IsValid}
use Rattle.ostore_client_cache.specs.declared.entries.CachedPage.{CachedPage}
use Rattle.ostore_client_cache.specs.declared.entries.Hold.{Hold}
use Rattle.ostore_client_cache.specs.declared.entries.Hold.TheVariants.{Retained, InUse, Owned}
use Rattle.ostore_client_cache.specs.Entries.{is_used, held_as}
use Rattle.ostore_client_cache.proofs.CountLaws.{long_set}
use Rattle.ostore_client_core.specs.declared.release.Ending.{Ending}
use Rattle.ostore_client_core.specs.declared.release.Ending.TheVariants.{Aborted}
use Rattle.ostore_client_core.specs.Clients.{ClientView, with_pages, entry_of, stored_image, AreKnown, IsResident, IsTied, IsTiedBy, IsOwn, AreUsedFirst}
use Rattle.ostore_client_core.specs.Attempts.{seen, Attempts, Narrows}
use Rattle.ostore_client_core.specs.Calls.{OwnsPage, SameClient, is_void}
use Rattle.ostore_client_core.specs.inside.Releasing.{HaveImages, IsHeld, EndsWith}
use Rattle.ostore_client_core.proofs.EntryLaws.{Pages, none_some, some_of, set_here, set_other}
use Rattle.ostore_client_core.proofs.GoesLaws.{Extends, KeepsPage, Goes, GoesOn, goes_own, same_stored, same_resident}
use Rattle.ostore_client_core.proofs.SeenLaws.{narrows, seen_used, seen_kept}

-- ---- the order, where an entry changes and is in use as it was

all_set : (P : CachedPage → Type 0) (page : ℕ) (pages : Pages) (was now : CachedPage) → lookup (nat_eq page) pages ≡ Some was → (P was → P now) → AllByRecursion (λ e. P e.1) pages → AllByRecursion (λ e. P e.1) (set_value (nat_eq page) pages now)
all_set P page [] was now found more all = absurd (none_some found)
all_set P page (e ∷ pages) was now found more all = elim (cases_eq page e.0) [
  | inl here ↦
      let is : e.1 ≡ was = same_Some e.1 was (rw (eq-eqb page e.0 here) at found) in
      rw (eq-eqb page e.0 here) (more (subst P is all.0), all.1)
  | inr apart ↦ rw (ne_eqb page e.0 apart) (all.0, all_set P page pages was now (rw (ne_eqb page e.0 apart) at found) more all.1)
]

all_less : (x y : Bool) (pages : Pages) → x ≡ y → AllByRecursion (λ later. is_used later.1.hold ≡ true → y ≡ true) pages → AllByRecursion (λ later. is_used later.1.hold ≡ true → x ≡ true) pages
all_less x y pages same all = subst (λ (b : Bool). AllByRecursion (λ later. is_used later.1.hold ≡ true → b ≡ true) pages) (sym same) all

pub first_set : (page : ℕ) (pages : Pages) (was now : CachedPage) → lookup (nat_eq page) pages ≡ Some was → is_used now.hold ≡ is_used was.hold → AreUsedFirst pages → AreUsedFirst (set_value (nat_eq page) pages now)
first_set page [] was now found same first = absurd (none_some found)
first_set page (e ∷ pages) was now found same first = elim (cases_eq page e.0) [
  | inl here ↦
      let is : e.1 ≡ was = same_Some e.1 was (rw (eq-eqb page e.0 here) at found) in
      rw (eq-eqb page e.0 here) (all_less (is_used now.hold) (is_used e.1.hold) pages (same ∙ ap (λ (x : CachedPage). is_used x.hold) (sym is)) first.0, first.1)
  | inr apart ↦
      let later : lookup (nat_eq page) pages ≡ Some was = rw (ne_eqb page e.0 apart) at found in
      rw (ne_eqb page e.0 apart)
      (all_set (λ (x : CachedPage). is_used x.hold ≡ true → is_used e.1.hold ≡ true) page pages was now later (λ holds used. holds (sym same ∙ used)) first.0, first_set page pages was now later same first.1)
]

-- ---- owning

some_held : (hold : Hold) (stored : PageImage) (side : Side Entry) (page : ℕ) → is_used hold ≡ true → IsTiedBy hold stored side page → IsSome (side.held page)
some_held Retained stored side page used tie = absurd (false≢true used)
some_held InUse stored side page used tie = subst IsSome (sym tie.held) refl
some_held Owned stored side page used tie = tie.held

-- a page in use is held
pub page_held : (client : ClientView) (side : Side Entry) (page : ℕ) (entry : CachedPage) → IsTied (stored_image client page) side page (entry_of client page) → entry_of client page ≡ Some entry → is_used entry.hold ≡ true → IsSome (side.held page)
page_held client side page entry tied is used = some_held entry.hold (stored_image client page entry.image) side page used (subst (IsTied (stored_image client page) side page) is tied)

pub owns : (serves later : Script → Type 0) (told now : Told Entry) (old new : ClientView) (page : ℕ) (o : OwnsPage old new page) → Attempts serves told old → ((s : Script) → serves s → later s) → SameService told now → BecomesOwner told now page → is_used o.entry.hold ≡ true
    → Narrows serves later told now old new
owns serves later told now old new page o runs served service becomes used =
    let entry : CachedPage = held_as Owned o.entry in
    let some : IsSome (lookup (nat_eq page) old.pages) = some_of (entry_of old page) o.entry o.there in
    let pages : new.pages ≡ set_value (nat_eq page) old.pages entry = ap (λ (v : ClientView). v.pages) o.client in
    let here : entry_of new page ≡ Some entry = ap (lookup (nat_eq page)) pages ∙ set_here page entry old.pages some in
    let more : Extends old new = record {
      schema = ap (λ (v : ClientView). v.schema) o.client;
      most = ap (λ (v : ClientView). v.most) o.client;
      count = ap (λ (v : ClientView). length v.frames.pages) o.client;
      client = ap (λ (v : ClientView). v.frames.client) o.client;
      frames = subst (λ (v : ClientView). KeepsFrames old.frames.pages v.frames.pages) (sym o.client) (record { pages = λ f p e. e });
      paired = subst (λ (v : ClientView). ArePaired v.frames.pages) (sym o.client) runs.own.frames;
    } in
    let resident = runs.own.resident page o.entry o.there in
    let keeps : (other : ℕ) → other ≢ page → KeepsPage old new told.mine now.mine other = λ other apart. record {
      entry = ap (lookup (nat_eq other)) pages ∙ set_other page other entry old.pages some apart;
      side = record { held = becomes.held other; owned = becomes.others other apart; kept = becomes.kept other; droppable = becomes.droppable other };
    } in
    let on : GoesOn serves later told now old new = record {
      own = runs.own;
      served = served;
      service = service;
      more = more;
      each = λ other. elim (cases_eq other page) as (λ _. Goes (length told.opened) old new told.mine now.mine other) [
        | inl same ↦ subst (λ (p : ℕ). Goes (length told.opened) old new told.mine now.mine p) (sym same) (inr (record {
          tied = subst (IsTied (stored_image new page) now.mine page) (sym here) (record { held = subst IsSome (sym (becomes.held page)) (page_held old told.mine page o.entry (runs.own.tied page) o.there used); owned = becomes.owned });
          resident = λ e is. subst (λ (x : CachedPage). IsResident new page x.image) (same_Some entry e (sym here ∙ is)) (same_resident old new page o.entry.image runs.own.frames more resident);
          known = λ e is. runs.own.known page o.entry o.there;
        }))
        | inr apart ↦ inl (keeps other apart)
      ];
      framed = subst (λ (v : ClientView). AreKnown (length told.opened) v.frames.pages) (sym o.client) runs.own.framed;
      short = few pages;
      first = subst AreUsedFirst (sym pages) (first_set page old.pages o.entry entry o.there (sym used) runs.own.first);
    } in
    narrows serves later told now old new runs on
    (runs.some.0, record { long = runs.some.1.long ∙ ap length (sym service.opened); valid = subst (λ (s : Schema). IsValid s runs.some.0) (sym more.schema) runs.some.1.valid; agrees = λ p image held. runs.some.1.agrees p image (sym (becomes.held p) ∙ held) })
    (λ other image is. becomes.held other ∙ is)
    (λ base other image agrees is. elim (cases_eq other page) as (λ _. seen new other image ≡ seen old other image) [
      | inl same ↦
          subst (λ (p : ℕ). seen new p image ≡ seen old p image) (sym same)
          (seen_used new page entry image here refl ∙ same_stored old new page o.entry.image more resident.form ∙ sym (seen_used old page o.entry image o.there used))
      | inr apart ↦ seen_kept serves later told now old new other image on (keeps other apart)
    ])
  where
    few : new.pages ≡ set_value (nat_eq page) old.pages (held_as Owned o.entry) → length new.pages ≤ new.most
    few pages =
        let long : length new.pages ≡ length old.pages = ap (λ (l : Pages). length l) pages ∙ long_set page old.pages (held_as Owned o.entry) in
        let most : new.most ≡ old.most = ap (λ (v : ClientView). v.most) o.client in
        let short = runs.own.short in
        omega arith

-- ---- the end

held_aborted : (hold : Hold) (image stored : PageImage) (side : Side Entry) (page : ℕ) → IsTiedBy hold stored side page → is_used hold ≡ true → is_void Aborted (Some (record { image = image; hold = hold })) ≡ false → side.held page ≡ Some stored
held_aborted Retained image stored side page tie used void = absurd (false≢true used)
held_aborted InUse image stored side page tie used void = tie.held
held_aborted Owned image stored side page tie used void = absurd (false≢true (sym void))

held_end : (stored : PageImage → PageImage) (side : Side Entry) (page : ℕ) (found : Option CachedPage) → IsTied stored side page found → IsHeld Aborted stored side page found
held_end stored side page None tied = tt
held_end stored side page (Some entry) tied = λ used void. held_aborted entry.hold entry.image (stored entry.image) side page tied used void

pub aborts : (serves : Script → Type 0) (told : Told Entry) (client : ClientView) → IsOwn serves told client → EndsWith Aborted (stored_image client) told.mine client.pages
aborts serves told client own = record { tied = own.tied; held = λ page. held_end (stored_image client page) told.mine page (entry_of client page) (own.tied page) }

pub ended : (serves later : Script → Type 0) (told now : Told Entry) (old new : ClientView) (ending : Ending) (pages : Pages) → IsOwn serves told old → ((s : Script) → serves s → later s) → SameService told now → new ≡ with_pages pages old
    → HaveImages old.pages new.pages → EndsWith ending (stored_image old) now.mine new.pages → length new.pages ≤ old.most → AreUsedFirst new.pages → IsOwn later now new
ended serves later told now old new ending pages own served service is images ends short first = goes_own serves later told now old new (record {
  own = own;
  served = served;
  service = service;
  more = more;
  each = λ page. inr (record {
    tied = subst (λ (v : ClientView). IsTied (stored_image v page) now.mine page (entry_of new page)) (sym is) (ends.tied page);
    resident = λ entry there.
        let had = images page entry there in
        subst (λ (i : PageImage). IsResident new page i) (sym had.image) (same_resident old new page had.was.image own.frames more (own.resident page had.was had.there));
    known = λ entry there. (let had = images page entry there in own.known page had.was had.there);
  });
  framed = subst (λ (v : ClientView). AreKnown (length told.opened) v.frames.pages) (sym is) own.framed;
  short = subst (λ (n : ℕ). length new.pages ≤ n) (sym (ap (λ (v : ClientView). v.most) is)) short;
  first = first;
})
  where
    more : Extends old new
    more = record {
      schema = ap (λ (v : ClientView). v.schema) is;
      most = ap (λ (v : ClientView). v.most) is;
      count = ap (λ (v : ClientView). length v.frames.pages) is;
      client = ap (λ (v : ClientView). v.frames.client) is;
      frames = subst (λ (v : ClientView). KeepsFrames old.frames.pages v.frames.pages) (sym is) (record { pages = λ f p e. e });
      paired = subst (λ (v : ClientView). ArePaired v.frames.pages) (sym is) own.frames;
    }

-- what gives pages another entry leaves all else
pub same_with : {old new : ClientView} {pages : Pages} → new ≡ with_pages pages old → SameClient old new
same_with is = record { schema = ap (λ (v : ClientView). v.schema) is; most = ap (λ (v : ClientView). v.most) is; client = ap (λ (v : ClientView). v.frames.client) is; frames = ap (λ (v : ClientView). length v.frames.pages) is }
