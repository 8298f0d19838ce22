-- Pages that come into use.
use Rattle.std.proofs.Common.{◌≡◌, ◌≢◌, ◌⊎◌, ℕ, zero, suc, ◌-◌, ◌<◌, ◌≤◌, Bool, true, false, cond, nat_eq, List, [], ◌∷◌, length, Option, Some, None, refl, sym, ap, subst, ◌∙◌, arith, inl, inr}
use Rattle.std.specs.Prelude.{IsSome, slice_get}
use Rattle.std.specs.List.{AllByRecursion, IsDistinct}
use Rattle.std.specs.Map.{lookup, remove_entry, set_value, keys_of}
use Rattle.std.proofs.lemmas.Bool.{cases_eq, cases_lt, eq-eqb, ne_eqb, lt-leb, false≢true}
use Rattle.std.specs.Option.{option_map}
use Rattle.lru.specs.LruCache.{last_entry}
use Rattle.ostore_base.specs.declared.numbers.PageNo.{PageNo}
use Rattle.ostore_base.specs.declared.page.PageImage.{PageImage}
use Rattle.ostore_schema_layout.specs.declared.schema.Schema.{Schema}
use Rattle.ostore_address_space.specs.Frames.{Frames, ArePaired, KeepsFrames}
use Rattle.ostore_relocation.specs.Forms.{IsResidentPage, stored_form}
use Rattle.ostore_relocation.specs.Reserving.{pages_wanted}
use Rattle.ostore_relocation.proofs.ReserveLaws.{long_all}
use Rattle.ostore_page_service.specs.History.{Agrees, IsReached}
use Rattle.ostore_page_service.specs.declared.answers.Claim.{Claim}
use Rattle.ostore_page_service.specs.declared.answers.Claim.TheVariants as claim
use Rattle.ostore_page_service.specs.Told.{Claims, Side, Told, SameService, SameElsewhere, InUse}
use Rattle.ostore_graph_model.specs.declared.commands.Script.{Script}
use Rattle.ostore_graph_model.specs.declared.history.Entry.{Entry}
use Rattle.ostore_client_cache.specs.declared.entries.CachedPage.{CachedPage}
use Rattle.ostore_client_cache.specs.declared.entries.Hold.{Hold}
use Rattle.ostore_client_cache.specs.declared.entries.Hold.TheVariants as hold
use Rattle.ostore_client_cache.specs.Entries.{is_used, is_in_use, is_owned, is_owner, imaged_as, held_as, first_as, hold_of}
use Rattle.ostore_client_cache.specs.Caches.{fresh, oldest, surplus, without_one}
use Rattle.ostore_client_cache.proofs.CountLaws.{long_first, long_removed, long_set}
use Rattle.ostore_client_core.specs.Cells.{HasCellsOf}
use Rattle.ostore_client_core.specs.Kinds.{graph_meaning}
use Rattle.ostore_client_core.specs.Clients.{ClientView, with_pages, entry_of, stored_image, is_page_used, AreKnown, IsResident, IsAbsent, IsRetained, IsTied, IsTiedBy, IsOwn, AreUsedFirst}
use Rattle.ostore_client_core.specs.Attempts.{seen, IsBase, Attempts, Narrows}
use Rattle.ostore_client_core.specs.Calls.{BringsPage, Drops, IsFitPage, OwnsNoMore, Settles, Takes, trimmed}
use Rattle.ostore_client_core.proofs.EntryLaws.{Pages, none_some, some_of, held_there, hold_there, first_is, first_here, first_other, front_here, front_other, gone_here, gone_other, set_here, first_used, first_less}
use Rattle.ostore_client_core.proofs.OldestLaws.{IsOldest}
use Rattle.ostore_client_core.proofs.TiedLaws.{SameAt}
use Rattle.ostore_client_core.proofs.GoesLaws.{Extends, KeepsPage, Goes, GoesOn, goes_own, same_stored, same_resident}
use Rattle.ostore_client_core.proofs.SeenLaws.{narrows, seen_used, seen_idle, seen_kept}
use Rattle.ostore_client_core.proofs.FitLaws.{valid_fits, wanted_within}
use Rattle.ostore_client_core.proofs.RoomLaws.{known_all}

some_is : {X : Type 0} {x y : X} → Some x ≡ Some y → x ≡ y
some_is {X} {x} {y} e = cc

-- ---- what a claim says

abbrev pub ReachedFor : Script → Told Entry → Type 0
ReachedFor s now = (n : ℕ) × (xs : List PageImage) × IsReached graph_meaning s now.first now.opened now.client now.mine.records n xs × Agrees now.mine.held xs

pub base_of : (s : Script) (schema : Schema) (now : Told Entry) → s.schema ≡ schema → ReachedFor s now → (base : List PageImage) × IsBase schema now base
base_of s schema now same reached = (
  reached.1,
  record {
    long = reached.2.legal.long;
    valid = subst (λ (x : Schema). (graph_meaning.valid (record s { schema = x }) reached.1)) same reached.2.legal.valid;
    agrees = reached.3;
  },
)

pub fit_of : (schema : Schema) (now : Told Entry) (page : ℕ) (image : PageImage) → (base : List PageImage) × IsBase schema now base → now.mine.held page ≡ Some image → IsFitPage schema page image
fit_of schema now page image base held = valid_fits schema base.0 base.1.valid page image (base.1.agrees page image held)

-- each page that it needs in a frame is one of the database
pub wanted_of : (schema : Schema) (now : Told Entry) (page : ℕ) (image : PageImage) → (base : List PageImage) × IsBase schema now base → now.mine.held page ≡ Some image → AllByRecursion (λ (p : PageNo). p.0 < length now.opened) (pages_wanted schema (record { 0 = page }) image.bytes)
wanted_of schema now page image base held =
    subst (λ (n : ℕ). AllByRecursion (λ (p : PageNo). p.0 < n) (pages_wanted schema (record { 0 = page }) image.bytes)) base.1.long
    (wanted_within schema base.0 base.1.valid page image (base.1.agrees page image held))

pub fetched_use : (c : Claim) (told now : Told Entry) (page : ℕ) (before after : PageImage) → c ≡ claim.Fetched → Claims c told now page before after → InUse told now page after
fetched_use c told now page before after is claimed = subst (λ (x : Claim). Claims x told now page before after) is claimed

pub kept_use : (c : Claim) (told now : Told Entry) (page : ℕ) (before after : PageImage) → c ≡ claim.Kept → Claims c told now page before after → (copy : PageImage) × (told.mine.kept page ≡ Some copy) × InUse told now page copy
kept_use c told now page before after is claimed = let both : Claims claim.Kept told now page before after = subst (λ (x : Claim). Claims x told now page before after) is claimed in both.1

-- a page that the service keeps no copy of was fetched
pub new_use : (c : Claim) (told now : Told Entry) (page : ℕ) (before after : PageImage) → told.mine.kept page ≡ None → Claims c told now page before after → InUse told now page after
new_use claim.Kept told now page before after none claimed = absurd (none_some (sym none ∙ claimed.1.1))
new_use claim.Fetched told now page before after none claimed = claimed

-- ---- a page that comes into use, and what becomes of the others

pub record Comes (serves later : Script → Type 0) (told now : Told Entry) (old new : ClientView) (page : ℕ) (entry : CachedPage) : Type 0 where
  pub runs : Attempts serves told old
  pub served : (s : Script) → serves s → later s
  pub service : SameService told now
  pub more : Extends old new
  pub below : page < length told.opened
  pub idle : is_in_use (entry_of old page) ≡ false
  pub unheld : told.mine.held page ≡ None
  pub here : entry_of new page ≡ Some entry
  pub in_use : entry.hold ≡ hold.InUse
  pub held : now.mine.held page ≡ Some (stored_image new page entry.image)
  pub owned : now.mine.owned page ≡ false
  pub resident : IsResident new page entry.image
  pub framed : AreKnown (length told.opened) new.frames.pages
  pub others : (other : ℕ) → other ≢ page → Goes (length told.opened) old new told.mine now.mine other
  pub held_others : (other : ℕ) → other ≢ page → now.mine.held other ≡ told.mine.held other
  pub idle_others : (other : ℕ) → other ≢ page → KeepsPage old new told.mine now.mine other ⊎ ((is_in_use (entry_of old other) ≡ false) × (is_in_use (entry_of new other) ≡ false))
  pub short : length new.pages ≤ new.most
  pub first : AreUsedFirst new.pages
  pub some : (base : List PageImage) × IsBase new.schema now base

pub owns_is : {old new : ClientView} → new ≡ old → OwnsNoMore old new
owns_is is page owned = sym (ap (λ (v : ClientView). is_owned (entry_of v page)) is) ∙ owned

idle_unowned : (found : Option CachedPage) → is_in_use found ≡ false → is_owned found ≡ true → ⊥
idle_unowned None idle owned = false≢true owned
idle_unowned (Some entry) idle owned = go entry.hold idle owned
  where
    go : (held : Hold) → is_used held ≡ false → is_owner held ≡ true → ⊥
    go hold.Retained idle owned = false≢true owned
    go hold.InUse idle owned = false≢true owned
    go hold.Owned idle owned = false≢true (sym idle)

-- a page that is as it was, or in use neither before nor after, was owned before where it is now
pub owned_before : (old new : ClientView) (before after : Side Entry) (other : ℕ) → KeepsPage old new before after other ⊎ ((is_in_use (entry_of old other) ≡ false) × (is_in_use (entry_of new other) ≡ false)) → is_owned (entry_of new other) ≡ true → is_owned (entry_of old other) ≡ true
owned_before old new before after other (inl keeps) owned = sym (ap is_owned keeps.entry) ∙ owned
owned_before old new before after other (inr idles) owned = absurd (idle_unowned (entry_of new other) idles.1 owned)

-- and was in use before where it is now
used_before : (old new : ClientView) (before after : Side Entry) (other : ℕ) → KeepsPage old new before after other ⊎ ((is_in_use (entry_of old other) ≡ false) × (is_in_use (entry_of new other) ≡ false)) → is_page_used new other → is_page_used old other
used_before old new before after other (inl keeps) used = sym (ap is_in_use keeps.entry) ∙ used
used_before old new before after other (inr idles) used = absurd (false≢true (sym idles.1 ∙ used))

-- no page came into use
pub brings_none : (client : ClientView) (page : ℕ) → BringsPage client client page
brings_none client page = record { used = λ other used. inl used }

module _ (serves later : Script → Type 0) (told now : Told Entry) (old new : ClientView) (page : ℕ) (entry : CachedPage) (h : Comes serves later told now old new page entry) where
  comes_on : GoesOn serves later told now old new
  comes_on = record {
    own = h.runs.own;
    served = h.served;
    service = h.service;
    more = h.more;
    each = λ other. elim (cases_eq other page) as (λ _. Goes (length told.opened) old new told.mine now.mine other) [
      | inl same ↦ subst (λ (p : ℕ). Goes (length told.opened) old new told.mine now.mine p) (sym same) (inr (record {
        tied = subst (IsTied (stored_image new page) now.mine page) (sym h.here) (subst (λ (k : Hold). IsTiedBy k (stored_image new page entry.image) now.mine page) (sym h.in_use) (record { held = h.held; owned = h.owned }));
        resident = λ e is. subst (λ (x : CachedPage). IsResident new page x.image) (some_is (sym h.here ∙ is)) h.resident;
        known = λ e is. h.below;
      }))
      | inr apart ↦ h.others other apart
    ];
    framed = h.framed;
    short = h.short;
    first = h.first;
  }

  used_now : is_used entry.hold ≡ true
  used_now = ap is_used h.in_use

  -- nothing more is owned
  pub comes_owns : OwnsNoMore old new
  comes_owns other owned = elim (cases_eq other page) as (λ _. is_owned (entry_of old other) ≡ true) [
    | inl same ↦ absurd (false≢true (sym (ap (λ (p : ℕ). is_owned (entry_of new p)) same ∙ ap is_owned h.here ∙ ap is_owner h.in_use) ∙ owned))
    | inr apart ↦ owned_before old new told.mine now.mine other (h.idle_others other apart) owned
  ]

  -- no other page came into use
  pub comes_brings : BringsPage old new page
  comes_brings = record {
    used = λ other used. elim (cases_eq other page) as (λ _. is_page_used old other ⊎ (other ≡ page)) [
      | inl same ↦ inr same
      | inr apart ↦ inl (used_before old new told.mine now.mine other (h.idle_others other apart) used)
    ];
  }

  pub comes_use : is_page_used new page
  comes_use = ap is_in_use h.here ∙ used_now

  pub comes_narrows : Narrows serves later told now old new
  comes_narrows = narrows serves later told now old new h.runs comes_on h.some
      (λ other image is. elim (cases_eq other page) as (λ _. now.mine.held other ≡ Some image) [
        | inl same ↦ absurd (none_some (sym h.unheld ∙ sym (ap told.mine.held same) ∙ is))
        | inr apart ↦ h.held_others other apart ∙ is
      ])
      (λ base other image agrees is. elim (cases_eq other page) as (λ _. seen new other image ≡ seen old other image) [
        | inl same ↦
            subst (λ (p : ℕ). seen new p image ≡ seen old p image) (sym same)
            (seen_used new page entry image h.here used_now
            ∙ some_is (sym (agrees page (stored_image new page entry.image) h.held) ∙ ap (slice_get base) (sym same) ∙ is)
            ∙ sym (seen_idle old page image h.idle))
        | inr apart ↦ elim (h.idle_others other apart) [
          | inl keeps ↦ seen_kept serves later told now old new other image comes_on keeps
          | inr idles ↦ seen_idle new other image idles.1 ∙ sym (seen_idle old other image idles.0)
        ]
      ])

-- ---- an image that was settled

pub resident_of : (old new : ClientView) (page : ℕ) (image : PageImage) → IsFitPage old.schema page image → (s : Settles old new page image) → IsResident new page s.resident × (stored_image new page s.resident ≡ image)
resident_of old new page image fit s =
    let form : stored_form new.frames.pages new.schema page s.resident.bytes ≡ image.bytes = ap (λ (x : Schema). stored_form new.frames.pages x page s.resident.bytes) s.schema ∙ s.comes.undone in (
      record {
        form = subst (λ (x : Schema). IsResidentPage new.frames.pages x page s.resident.bytes) (sym s.schema) s.comes.resident;
        framed = s.framed;
        cells = subst (HasCellsOf new.schema page) (sym form) (subst (λ (x : Schema). HasCellsOf x page image.bytes) (sym s.schema) fit.cells);
      },
      ap (λ (b : List ℕ). record { bytes = b }) form,
    )

-- ---- a retained page is kept

first_long : (held : Hold) (page : ℕ) (pages : Pages) → length (first_as held pages page) ≡ length pages
first_long held page pages = long_first held page pages (lookup (nat_eq page) pages) refl ∙ sym (long_removed page pages (lookup (nat_eq page) pages) refl)

few : (old new : ClientView) (page : ℕ) → new.pages ≡ first_as hold.InUse old.pages page → new.most ≡ old.most → length old.pages ≤ old.most → length new.pages ≤ new.most
few old new page pages most short =
    let long : length new.pages ≡ length old.pages = ap (λ (l : Pages). length l) pages ∙ first_long hold.InUse page old.pages in
    omega arith

pub kept_comes : (serves later : Script → Type 0) (told now : Told Entry) (old new : ClientView) (page : ℕ) (copy : PageImage) → Attempts serves told old → ((s : Script) → serves s → later s) → SameService told now → page < length told.opened
    → hold_of (entry_of old page) ≡ Some hold.Retained → told.mine.kept page ≡ Some copy → InUse told now page copy → ((s : Script) → serves s → ReachedFor s now) → new ≡ with_pages (first_as hold.InUse old.pages page) old
    → (entry : CachedPage) × Comes serves later told now old new page entry
kept_comes serves later told now old new page copy runs served service below retained kept claimed reached is =
    let was = held_there (entry_of old page) hold.Retained retained in
    let held = hold_there (entry_of old page) was.entry hold.Retained was.is retained in
    let tie : IsRetained (stored_image old page was.entry.image) told.mine page = subst (λ (k : Hold). IsTiedBy k (stored_image old page was.entry.image) told.mine page) held (subst (IsTied (stored_image old page) told.mine page) was.is (runs.own.tied page)) in
    let entry : CachedPage = held_as hold.InUse was.entry in
    let pages : new.pages ≡ first_as hold.InUse old.pages page = ap (λ (v : ClientView). v.pages) is in
    let more : Extends old new = record { schema = ap (λ (v : ClientView). v.schema) is; most = ap (λ (v : ClientView). v.most) is; count = ap (λ (v : ClientView). length v.frames.pages) is; client = ap (λ (v : ClientView). v.frames.client) is; frames = subst (λ (v : ClientView). KeepsFrames old.frames.pages v.frames.pages) (sym is) (record { pages = λ f p e. e }); paired = subst (λ (v : ClientView). ArePaired v.frames.pages) (sym is) runs.own.frames } in
    let form : stored_image new page was.entry.image ≡ stored_image old page was.entry.image = same_stored old new page was.entry.image more (runs.own.resident page was.entry was.is).form in (
      entry,
      record {
        runs = runs;
        served = served;
        service = service;
        more = more;
        below = below;
        idle = ap is_in_use was.is ∙ ap is_used held;
        unheld = tie.held;
        here = ap (lookup (nat_eq page)) pages ∙ first_here hold.InUse page old.pages was.entry was.is;
        in_use = refl;
        held = claimed.held ∙ ap Some (tie.kept copy kept ∙ sym form);
        owned = claimed.owned;
        resident = same_resident old new page was.entry.image runs.own.frames more (runs.own.resident page was.entry was.is);
        framed = subst (λ (v : ClientView). AreKnown (length told.opened) v.frames.pages) (sym is) runs.own.framed;
        others = λ other apart. inl (keeps other apart pages);
        held_others = λ other apart. claimed.others.held other apart;
        idle_others = λ other apart. inl (keeps other apart pages);
        short = few old new page pages (ap (λ (v : ClientView). v.most) is) runs.own.short;
        first = subst AreUsedFirst (sym (pages ∙ first_is hold.InUse page old.pages was.entry was.is)) (first_used (page, entry) (remove_entry (nat_eq page) old.pages) refl (first_less page old.pages runs.own.first));
        some = base_of runs.own.script.0 new.schema now (runs.own.script.2 ∙ sym more.schema) (reached runs.own.script.0 runs.own.script.1);
      },
    )
  where
    keeps : (other : ℕ) → other ≢ page → new.pages ≡ first_as hold.InUse old.pages page → KeepsPage old new told.mine now.mine other
    keeps other apart pages = record {
      entry = ap (lookup (nat_eq other)) pages ∙ first_other hold.InUse page other old.pages apart;
      side = record { held = claimed.others.held other apart; owned = claimed.others.owned other apart; kept = claimed.others.kept other apart; droppable = claimed.others.droppable other apart };
    }

-- ---- the other pages

pub record OtherGoes (count : ℕ) (old new : ClientView) (before after : Side Entry) (other : ℕ) : Type 0 where
  pub goes : Goes count old new before after other
  pub held : after.held other ≡ before.held other
  pub idle : KeepsPage old new before after other ⊎ ((is_in_use (entry_of old other) ≡ false) × (is_in_use (entry_of new other) ≡ false))

pub other_keeps : (count : ℕ) (old new : ClientView) (before after : Side Entry) (other : ℕ) → KeepsPage old new before after other → OtherGoes count old new before after other
other_keeps count old new before after other keeps = record { goes = inl keeps; held = keeps.side.held; idle = inl keeps }

-- a retained page that was dropped
pub other_dropped : (count : ℕ) (old new : ClientView) (before after : Side Entry) (other : ℕ) (entry : CachedPage) → entry_of old other ≡ Some entry → is_used entry.hold ≡ false → IsTied (stored_image old other) before other (entry_of old other)
    → entry_of new other ≡ None → after.held other ≡ before.held other → after.owned other ≡ before.owned other → after.kept other ≡ None → OtherGoes count old new before after other
other_dropped count old new before after other entry is idle tied gone held owned kept =
    let tie : IsTiedBy entry.hold (stored_image old other entry.image) before other = subst (IsTied (stored_image old other) before other) is tied in
    let free = unheld entry.hold (stored_image old other entry.image) idle tie in
    record {
      goes = inr (record {
        tied = subst (IsTied (stored_image new other) after other) (sym gone) (record { held = held ∙ free.0; owned = owned ∙ free.1; kept = kept });
        resident = λ e there. absurd (none_some (sym gone ∙ there));
        known = λ e there. absurd (none_some (sym gone ∙ there));
      });
      held = held;
      idle = inr (ap is_in_use is ∙ idle, ap is_in_use gone);
    }
  where
    unheld : (k : Hold) (stored : PageImage) → is_used k ≡ false → IsTiedBy k stored before other → (before.held other ≡ None) × (before.owned other ≡ false)
    unheld hold.Retained stored idle tie = (tie.held, tie.owned)
    unheld hold.InUse stored idle tie = absurd (false≢true (sym idle))
    unheld hold.Owned stored idle tie = absurd (false≢true (sym idle))

-- ---- a page that was taken, from what the client had when it was settled

pub record HasTaken (mid new : ClientView) (page : ℕ) (image : PageImage) : Type 0 where
  pub entry : CachedPage
  pub in_use : entry.hold ≡ hold.InUse
  pub here : entry_of new page ≡ Some entry
  pub stored : stored_image new page entry.image ≡ image
  pub resident : IsResident new page entry.image
  pub others : (other : ℕ) → other ≢ page → entry_of new other ≡ entry_of mid other
  pub long : length new.pages ≡ length mid.pages
  pub most : new.most ≡ mid.most
  pub first : AreUsedFirst (remove_entry (nat_eq page) mid.pages) → AreUsedFirst new.pages
  pub more : Extends mid new
  pub framed : (count : ℕ) → AreKnown count mid.frames.pages → AllByRecursion (λ (p : PageNo). p.0 < count) (pages_wanted mid.schema (record { 0 = page }) image.bytes) → AreKnown count new.frames.pages

pub removed_set : (page : ℕ) (entry : CachedPage) (pages : Pages) → remove_entry (nat_eq page) (set_value (nat_eq page) pages entry) ≡ remove_entry (nat_eq page) pages
removed_set page entry [] = refl
removed_set page entry (e ∷ pages) = elim (cases_eq page e.0) [
  | inl same ↦ rw (eq-eqb page e.0 same) (rw (eq-eqb page e.0 same) refl)
  | inr apart ↦ rw (ne_eqb page e.0 apart) (rw (ne_eqb page e.0 apart) (ap (λ (l : Pages). e ∷ l) (removed_set page entry pages)))
]

pub has_taken : (mid new : ClientView) (page : ℕ) (image : PageImage) → IsFitPage mid.schema page image → Takes mid new page image → HasTaken mid new page image
has_taken mid new page image fit t =
    let s = t.settles in
    let v : ClientView = t.settled in
    let done = resident_of mid v page image fit s in
    let some : IsSome (lookup (nat_eq page) mid.pages) = some_of (entry_of mid page) s.entry s.there in
    let found : lookup (nat_eq page) v.pages ≡ Some (imaged_as s.resident s.entry) = ap (lookup (nat_eq page)) s.pages ∙ set_here page (imaged_as s.resident s.entry) mid.pages some in
    let entry : CachedPage = held_as hold.InUse (imaged_as s.resident s.entry) in
    let pages : new.pages ≡ first_as hold.InUse v.pages page = ap (λ (x : ClientView). x.pages) t.client in
    let front : new.pages ≡ (page, entry) ∷ remove_entry (nat_eq page) mid.pages =
    pages ∙ first_is hold.InUse page v.pages (imaged_as s.resident s.entry) found
    ∙ ap (λ (l : Pages). (page, entry) ∷ remove_entry (nat_eq page) l) s.pages ∙ ap (λ (l : Pages). (page, entry) ∷ l) (removed_set page (imaged_as s.resident s.entry) mid.pages) in
    record {
      entry = entry;
      in_use = refl;
      here = ap (lookup (nat_eq page)) front ∙ front_here page entry (remove_entry (nat_eq page) mid.pages);
      stored = subst (λ (x : ClientView). stored_image x page s.resident ≡ image) (sym t.client) done.1;
      resident = subst (λ (x : ClientView). IsResident x page s.resident) (sym t.client) (record { form = done.0.form; framed = done.0.framed; cells = done.0.cells });
      others = λ other apart.
          ap (lookup (nat_eq other)) front ∙ front_other page other entry (remove_entry (nat_eq page) mid.pages) apart ∙ gone_other page other mid.pages apart;
      long = ap (λ (l : Pages). length l) pages ∙ first_long hold.InUse page v.pages ∙ ap (λ (l : Pages). length l) s.pages ∙ long_set page mid.pages (imaged_as s.resident s.entry);
      most = ap (λ (x : ClientView). x.most) t.client ∙ s.most;
      first = λ first. subst AreUsedFirst (sym front) (first_used (page, entry) (remove_entry (nat_eq page) mid.pages) refl first);
      framed = λ count known low.
          subst (λ (f : Frames). AreKnown count f.pages) (sym (ap (λ (x : ClientView). x.frames) t.client ∙ s.frames_are)) (known_all s.choice mid.frames (pages_wanted mid.schema (record { 0 = page }) image.bytes) count known low);
      more = record {
        schema = ap (λ (x : ClientView). x.schema) t.client ∙ s.schema;
        most = ap (λ (x : ClientView). x.most) t.client ∙ s.most;
        count = ap (λ (x : ClientView). length x.frames.pages) t.client ∙ ap (λ (f : Frames). length f.pages) s.frames_are ∙ long_all s.choice mid.frames (pages_wanted mid.schema (record { 0 = page }) image.bytes);
        client = ap (λ (x : ClientView). x.frames.client) t.client ∙ s.client;
        frames = subst (λ (x : ClientView). KeepsFrames mid.frames.pages x.frames.pages) (sym t.client) s.more;
        paired = subst (λ (x : ClientView). ArePaired x.frames.pages) (sym t.client) s.paired;
      };
    }

-- the page that was taken is in use, whatever its image
pub takes_use : (mid new : ClientView) (page : ℕ) (image : PageImage) → Takes mid new page image → is_page_used new page
takes_use mid new page image t =
    let s = t.settles in
    let some : IsSome (lookup (nat_eq page) mid.pages) = some_of (entry_of mid page) s.entry s.there in
    ap (λ (x : ClientView). is_in_use (entry_of x page)) t.client
    ∙ ap is_in_use (first_here hold.InUse page t.settled.pages (imaged_as s.resident s.entry) (ap (lookup (nat_eq page)) s.pages ∙ set_here page (imaged_as s.resident s.entry) mid.pages some))

pub taken_comes : (serves later : Script → Type 0) (told now : Told Entry) (old mid new : ClientView) (page : ℕ) (image : PageImage) → Attempts serves told old → ((s : Script) → serves s → later s) → SameService told now → page < length told.opened
    → is_in_use (entry_of old page) ≡ false → told.mine.held page ≡ None → HasTaken mid new page image → now.mine.held page ≡ Some image → now.mine.owned page ≡ false
    → mid.schema ≡ old.schema → mid.frames ≡ old.frames → mid.most ≡ old.most → length mid.pages ≤ mid.most → AreUsedFirst (remove_entry (nat_eq page) mid.pages)
    → ((s : Script) → serves s → ReachedFor s now) → ((other : ℕ) → other ≢ page → OtherGoes (length told.opened) old new told.mine now.mine other)
    → (entry : CachedPage) × Comes serves later told now old new page entry
taken_comes serves later told now old mid new page image runs served service below idle unheld t held owned schema frames most short first reached others =
    let more : Extends old new = record {
      schema = t.more.schema ∙ schema;
      most = t.more.most ∙ most;
      count = t.more.count ∙ ap (λ (f : Frames). length f.pages) frames;
      client = t.more.client ∙ ap (λ f. f.client) frames;
      frames = subst (λ f. KeepsFrames f.pages new.frames.pages) frames t.more.frames;
      paired = t.more.paired;
    } in
    let long = t.long in
    let most_new = t.most in (
      t.entry,
      record {
        runs = runs;
        served = served;
        service = service;
        more = more;
        below = below;
        idle = idle;
        unheld = unheld;
        here = t.here;
        in_use = t.in_use;
        held = held ∙ ap Some (sym t.stored);
        owned = owned;
        resident = t.resident;
        framed = t.framed (length told.opened) (subst (λ (f : Frames). AreKnown (length told.opened) f.pages) (sym frames) runs.own.framed)
            (subst (λ (s : Schema). AllByRecursion (λ (p : PageNo). p.0 < length told.opened) (pages_wanted s (record { 0 = page }) image.bytes)) (sym schema)
            (subst (λ (l : List PageImage). AllByRecursion (λ (p : PageNo). p.0 < length l) (pages_wanted old.schema (record { 0 = page }) image.bytes)) service.opened
            (wanted_of old.schema now page image (base_of runs.own.script.0 old.schema now runs.own.script.2 (reached runs.own.script.0 runs.own.script.1)) held)));
        others = λ other apart. (others other apart).goes;
        held_others = λ other apart. (others other apart).held;
        idle_others = λ other apart. (others other apart).idle;
        short = omega arith;
        first = t.first first;
        some = base_of runs.own.script.0 new.schema now (runs.own.script.2 ∙ sym more.schema) (reached runs.own.script.0 runs.own.script.1);
      },
    )

-- ---- a page that was lost for want of a frame

pub lost_own : (serves later : Script → Type 0) (told now : Told Entry) (old mid new : ClientView) (page : ℕ) → IsOwn serves told old → ((s : Script) → serves s → later s) → SameService told now → Extends old new → AreKnown (length told.opened) new.frames.pages
    → entry_of new page ≡ None → IsAbsent now.mine page → ((other : ℕ) → other ≢ page → OtherGoes (length told.opened) old new told.mine now.mine other)
    → length new.pages ≤ new.most → AreUsedFirst new.pages → IsOwn later now new
lost_own serves later told now old mid new page own served service more framed gone absent others short first = goes_own serves later told now old new (record {
  own = own;
  served = served;
  service = service;
  more = more;
  each = λ other. elim (cases_eq other page) as (λ _. Goes (length told.opened) old new told.mine now.mine other) [
    | inl same ↦ subst (λ (p : ℕ). Goes (length told.opened) old new told.mine now.mine p) (sym same) (inr (record {
      tied = subst (IsTied (stored_image new page) now.mine page) (sym gone) absent;
      resident = λ e there. absurd (none_some (sym gone ∙ there));
      known = λ e there. absurd (none_some (sym gone ∙ there));
    }))
    | inr apart ↦ (others other apart).goes
  ];
  framed = framed;
  short = short;
  first = first;
})

-- and nothing more is owned
pub lost_owns : (count : ℕ) (old new : ClientView) (before after : Side Entry) (page : ℕ) → entry_of new page ≡ None → ((other : ℕ) → other ≢ page → OtherGoes count old new before after other) → OwnsNoMore old new
lost_owns count old new before after page gone others other owned = elim (cases_eq other page) as (λ _. is_owned (entry_of old other) ≡ true) [
  | inl same ↦ absurd (false≢true (sym (ap (λ (p : ℕ). is_owned (entry_of new p)) same ∙ ap is_owned gone) ∙ owned))
  | inr apart ↦ owned_before old new before after other (others other apart).idle owned
]

-- ---- a page that the client hadn't, and the one that makes way for it

pub trimmed_is : (most page : ℕ) (pages : Pages) (o : Option PageNo) → surplus ((page, fresh) ∷ pages) most ≡ o → ((q : PageNo) → o ≡ Some q → IsOldest pages page q) → trimmed most ((page, fresh) ∷ pages) ≡ (page, fresh) ∷ without_one o pages
trimmed_is most page pages None is old = ap (λ (x : Option PageNo). without_one x ((page, fresh) ∷ pages)) is
trimmed_is most page pages (Some q) is old =
    ap (λ (x : Option PageNo). without_one x ((page, fresh) ∷ pages)) is
    ∙ ap (λ (b : Bool). cond b pages ((page, fresh) ∷ remove_entry (nat_eq q.0) pages)) (ne_eqb q.0 page (old q refl).other)

no_surplus : (pages : Pages) (e : ℕ × CachedPage) (most : ℕ) → surplus (e ∷ pages) most ≡ None → length (e ∷ pages) ≤ most
no_surplus pages e most is = elim (cases_lt most (length (e ∷ pages))) as (λ _. length (e ∷ pages) ≤ most) [
  | inl more ↦ absurd (some_last (e ∷ pages) (omega arith) (sym (ap (λ (b : Bool). cond b None (oldest (e ∷ pages))) (lt-leb (length (e ∷ pages)) most more)) ∙ is))
  | inr below ↦ below
]
  where
    some_get : {X : Type 0} (xs : List X) (k : ℕ) → k < length xs → slice_get xs k ≡ None → ⊥
    some_get [] k below none = absurd (omega arith)
    some_get (x ∷ xs) zero below none = absurd cc
    some_get (x ∷ xs) (suc k) below none = some_get xs k (omega arith) none

    none_key : (o : Option (ℕ × CachedPage)) → option_map {U = PageNo} (λ (x : ℕ × CachedPage). record { 0 = x.0 }) o ≡ None → o ≡ None
    none_key None none = refl
    none_key (Some x) none = absurd cc

    some_last : (l : Pages) → 0 < length l → oldest l ≡ None → ⊥
    some_last l some none = some_get l (length l - 1) (omega arith) (none_key (last_entry l) none)

pub trimmed_short : (most page : ℕ) (pages : Pages) (o : Option PageNo) → surplus ((page, fresh) ∷ pages) most ≡ o → ((q : PageNo) → o ≡ Some q → IsOldest pages page q) → length pages ≤ most → length ((page, fresh) ∷ without_one o pages) ≤ most
trimmed_short most page pages None is old short = no_surplus pages (page, fresh) most is
trimmed_short most page pages (Some q) is old short =
    let oldest_is = old q refl in
    let long = long_removed q.0 pages (Some oldest_is.entry) oldest_is.there in
    omega arith

pub trimmed_first : (o : Option PageNo) (pages : Pages) → AreUsedFirst pages → AreUsedFirst (without_one o pages)
trimmed_first None pages first = first
trimmed_first (Some q) pages first = first_less q.0 pages first

-- what was said of the other pages by the claim, by the drop, and by what came after
pub other_new : (count : ℕ) (told claimed dropped : Told Entry) (after : Side Entry) (old new : ClientView) (page other : ℕ) (o : Option PageNo) → other ≢ page
    → ((x : ℕ) → IsTied (stored_image old x) told.mine x (entry_of old x)) → IsDistinct nat_eq (keys_of old.pages) → ((q : PageNo) → o ≡ Some q → IsOldest old.pages page q)
    → SameElsewhere told.mine claimed.mine page → Drops o claimed dropped → SameAt dropped.mine after other
    → entry_of new other ≡ lookup (nat_eq other) (without_one o old.pages) → OtherGoes count old new told.mine after other
other_new count told claimed dropped after old new page other None apart tied distinct oldest_is claim drops last entry =
    other_keeps count old new told.mine after other (record {
      entry = entry;
      side = record {
        held = last.held ∙ ap (λ (t : Told Entry). t.mine.held other) drops ∙ claim.held other apart;
        owned = last.owned ∙ ap (λ (t : Told Entry). t.mine.owned other) drops ∙ claim.owned other apart;
        kept = last.kept ∙ ap (λ (t : Told Entry). t.mine.kept other) drops ∙ claim.kept other apart;
        droppable = last.droppable ∙ ap (λ (t : Told Entry). t.mine.droppable other) drops ∙ claim.droppable other apart;
      };
    })
other_new count told claimed dropped after old new page other (Some q) apart tied distinct oldest_is claim drops last entry = elim (cases_eq other q.0) [
  | inl same ↦
      let is = oldest_is q refl in
      let there : entry_of old other ≡ Some is.entry = ap (λ (n : ℕ). lookup (nat_eq n) old.pages) same ∙ is.there in
      let gone : entry_of new other ≡ None = entry ∙ ap (λ (n : ℕ). lookup (nat_eq n) (remove_entry (nat_eq q.0) old.pages)) same ∙ gone_here q.0 old.pages distinct in
      other_dropped count old new told.mine after other is.entry there is.idle (tied other) gone
      (last.held ∙ drops.held other ∙ claim.held other apart) (last.owned ∙ drops.owned other ∙ claim.owned other apart) (last.kept ∙ ap dropped.mine.kept same ∙ drops.kept)
  | inr differs ↦ other_keeps count old new told.mine after other (record {
    entry = entry ∙ gone_other q.0 other old.pages differs;
    side = record {
      held = last.held ∙ drops.held other ∙ claim.held other apart;
      owned = last.owned ∙ drops.owned other ∙ claim.owned other apart;
      kept = last.kept ∙ drops.others other differs ∙ claim.kept other apart;
      droppable = last.droppable ∙ drops.droppable other differs ∙ claim.droppable other apart;
    };
  })
]
