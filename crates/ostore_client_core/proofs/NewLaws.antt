-- A page that the client hadn't: the one that makes way for it, and what becomes of it.
use Rattle.std.proofs.Common.{◌≡◌, ◌≢◌, ℕ, ◌<◌, ◌≤◌, Bool, true, false, cond, nat_eq, List, ◌∷◌, length, Option, Some, None, refl, sym, ap, subst, ◌∙◌, arith}
use Rattle.std.specs.Prelude.{Result, Ok, Err, OnOk}
use Rattle.std.specs.Result.{is_err}
use Rattle.std.specs.List.{AllByRecursion, IsDistinct}
use Rattle.std.specs.Map.{lookup, remove_entry, keys_of}
use Rattle.std.proofs.lemmas.Bool.{eq-eqb, false≢true}
use Rattle.ostore_base.specs.declared.numbers.PageNo.{PageNo}
use Rattle.ostore_base.specs.declared.page.PageImage.{PageImage}
use Rattle.ostore_schema_layout.specs.declared.schema.Schema.{Schema}
use Rattle.ostore_address_space.specs.Frames.{Frames, KeepsFrames}
use Rattle.ostore_relocation.specs.Reserving.{pages_wanted}
use Rattle.ostore_page_service.specs.History.{IsReached}
use Rattle.ostore_page_service.specs.Told.{Side, Told, SameService, SameRecords, SameElsewhere, InUse, NoBusy}
use Rattle.ostore_graph_model.specs.declared.commands.Script.{Script}
use Rattle.ostore_graph_model.specs.declared.history.Entry.{Entry}
use Rattle.ostore_client_cache.specs.declared.entries.CachedPage.{CachedPage}
use Rattle.ostore_client_cache.specs.declared.entries.Hold.{Hold}
use Rattle.ostore_client_cache.specs.declared.entries.Hold.TheVariants.{Retained, InUse as InUseHold, Owned}
use Rattle.ostore_client_cache.specs.Entries.{is_used, is_in_use, hold_of}
use Rattle.ostore_client_cache.specs.Caches.{fresh, surplus, used_pages, without_one}
use Rattle.ostore_client_core.specs.declared.fault.AttemptFault.{AttemptFault}
use Rattle.ostore_client_core.specs.Kinds.{graph_meaning}
use Rattle.ostore_client_core.specs.Clients.{ClientView, with_pages, entry_of, stored_image, AreKnown, IsAbsent, IsTied, IsTiedBy, IsOwn, AreUsedFirst}
use Rattle.ostore_client_core.specs.Attempts.{Attempts}
use Rattle.ostore_client_core.specs.Calls.{Drops, IsFitPage, OwnsNoMore, SameClient, Takes, trimmed}
use Rattle.ostore_client_core.proofs.EntryLaws.{Pages, front_here, front_other, gone_other}
use Rattle.ostore_client_core.proofs.RecordLaws.{calm_refl}
use Rattle.ostore_client_core.proofs.KeptLaws.{fresh_idle, fresh_held, admitted_count, removed_count}
use Rattle.ostore_client_core.proofs.OldestLaws.{IsOldest, oldest_idle}
use Rattle.ostore_client_core.proofs.TiedLaws.{same_at}
use Rattle.ostore_client_core.proofs.GoesLaws.{Extends, same_client_of}
use Rattle.ostore_client_core.proofs.BringLaws.{ReachedFor, Comes, OtherGoes, has_taken, taken_comes, other_new, lost_own, lost_owns, trimmed_is, trimmed_short, trimmed_first}
use Rattle.ostore_client_core.proofs.TakeLaws.{WasLost, lost_pages, lost_more, lost_known, lost_short}

-- the page was admitted, and what is too much was dropped
pub record Trims (old admitted mid : ClientView) (page : ℕ) : Type 0 where
  pub admitted_is : admitted ≡ with_pages ((page, fresh) ∷ old.pages) old
  pub mid_is : mid ≡ with_pages (trimmed admitted.most admitted.pages) admitted

abbrev pub way : ClientView → ℕ → Option PageNo
way old page = surplus ((page, fresh) ∷ old.pages) old.most

-- what is left of a page that was lost
pub record IsLost (later : Script → Type 0) (was now : Told Entry) (old mid new : ClientView) (page : ℕ) : Type 0 where
  pub gone : entry_of new page ≡ None
  pub pages : new.pages ≡ without_one (way old page) old.pages
  pub own : IsOwn later now new
  pub owns : OwnsNoMore old new
  pub client : SameClient old new
  pub few : length mid.frames.pages < length was.opened

dropped_held : (o : Option PageNo) (told now : Told Entry) → Drops o told now → (q : ℕ) → now.mine.held q ≡ told.mine.held q
dropped_held None told now drops q = ap (λ (t : Told Entry). t.mine.held q) drops
dropped_held (Some p) told now drops q = drops.held q

dropped_owned : (o : Option PageNo) (told now : Told Entry) → Drops o told now → (q : ℕ) → now.mine.owned q ≡ told.mine.owned q
dropped_owned None told now drops q = ap (λ (t : Told Entry). t.mine.owned q) drops
dropped_owned (Some p) told now drops q = drops.owned q

pub dropped_kept : (o : Option PageNo) (told now : Told Entry) → Drops o told now → (q : ℕ) → o ≢ Some (record { 0 = q }) → now.mine.kept q ≡ told.mine.kept q
dropped_kept None told now drops q apart = ap (λ (t : Told Entry). t.mine.kept q) drops
dropped_kept (Some p) told now drops q apart = drops.others q (λ same. apart (ap (λ (n : ℕ). Some (record { 0 = n })) (sym same)))

-- the reached list is still reached, and has the images that are held
pub reached_still : (s : Script) (told now : Told Entry) → SameRecords told now → ((q : ℕ) → now.mine.held q ≡ told.mine.held q) → ReachedFor s told → ReachedFor s now
reached_still s told now same held reached = (
  reached.0,
  reached.1,
  subst (λ (r : List (Entry × ℕ)). IsReached graph_meaning s now.first now.opened now.client r reached.0 reached.1) (sym same.records)
      (subst (λ (c : ℕ). IsReached graph_meaning s now.first now.opened c told.mine.records reached.0 reached.1) (sym same.service.client)
      (subst (λ (l : List PageImage). IsReached graph_meaning s now.first l told.client told.mine.records reached.0 reached.1) (sym same.service.opened)
      (subst (λ (n : ℕ). IsReached graph_meaning s n told.opened told.client told.mine.records reached.0 reached.1) (sym same.service.first) reached.2))),
  λ page image is. reached.3 page image (sym (held page) ∙ is),
)

droppable_by : (hold : Hold) (stored : PageImage) (side : Side Entry) (page : ℕ) → is_used hold ≡ false → IsTiedBy hold stored side page → side.droppable page ≡ true
droppable_by Retained stored side page idle tie = tie.droppable
droppable_by InUseHold stored side page idle tie = absurd cc
droppable_by Owned stored side page idle tie = absurd cc

module _ (serves : Script → Type 0) (told : Told Entry) (old : ClientView) (page : ℕ) (runs : Attempts serves told old) (absent : entry_of old page ≡ None) (room : length (used_pages old.pages) < old.most) (distinct : IsDistinct nat_eq (keys_of old.pages)) where
  pub makes_way : (q : PageNo) → way old page ≡ Some q → IsOldest old.pages page q
  makes_way q is = oldest_idle old.pages old.most page fresh q runs.own.first distinct runs.own.short room absent is

  pub absent_is : IsAbsent told.mine page
  absent_is = subst (IsTied (stored_image old page) told.mine page) absent (runs.own.tied page)

  -- the page that makes way may be dropped
  pub may_drop : (admitted : ClientView) (claimed : Told Entry) → admitted ≡ with_pages ((page, fresh) ∷ old.pages) old → SameElsewhere told.mine claimed.mine page → SameService told claimed → (q : PageNo) → surplus admitted.pages admitted.most ≡ Some q
      → (is_in_use (entry_of admitted q.0) ≡ false) × (q.0 < length claimed.opened) × (claimed.mine.droppable q.0 ≡ true)
  may_drop admitted claimed is claim service q surplus_is =
      let oldest = makes_way q (sym (ap (λ (v : ClientView). surplus v.pages v.most) is) ∙ surplus_is) in
      let tie : IsTiedBy oldest.entry.hold (stored_image old q.0 oldest.entry.image) told.mine q.0 = subst (IsTied (stored_image old q.0) told.mine q.0) oldest.there (runs.own.tied q.0) in (
        ap (λ (v : ClientView). is_in_use (entry_of v q.0)) is ∙ ap is_in_use (front_other page q.0 fresh old.pages oldest.other ∙ oldest.there) ∙ oldest.idle,
        subst (λ (l : List PageImage). q.0 < length l) (sym service.opened) (runs.own.known q.0 oldest.entry oldest.there),
        claim.droppable q.0 oldest.other ∙ droppable_by oldest.entry.hold (stored_image old q.0 oldest.entry.image) told.mine q.0 oldest.idle tie,
      )

  module _ (admitted mid : ClientView) (t : Trims old admitted mid page) where
    pub mid_pages : mid.pages ≡ (page, fresh) ∷ without_one (way old page) old.pages
    mid_pages =
        ap (λ (v : ClientView). v.pages) t.mid_is ∙ ap (λ (v : ClientView). trimmed v.most v.pages) t.admitted_is
        ∙ trimmed_is old.most page old.pages (way old page) refl makes_way

    pub mid_schema : mid.schema ≡ old.schema
    mid_schema = ap (λ (v : ClientView). v.schema) t.mid_is ∙ ap (λ (v : ClientView). v.schema) t.admitted_is

    pub mid_frames : mid.frames ≡ old.frames
    mid_frames = ap (λ (v : ClientView). v.frames) t.mid_is ∙ ap (λ (v : ClientView). v.frames) t.admitted_is

    pub mid_most : mid.most ≡ old.most
    mid_most = ap (λ (v : ClientView). v.most) t.mid_is ∙ ap (λ (v : ClientView). v.most) t.admitted_is

    pub mid_fetches : mid.fetches ≡ old.fetches
    mid_fetches = ap (λ (v : ClientView). v.fetches) t.mid_is ∙ ap (λ (v : ClientView). v.fetches) t.admitted_is

    pub mid_there : hold_of (entry_of mid page) ≡ Some Retained
    mid_there = ap hold_of (ap (lookup (nat_eq page)) mid_pages ∙ front_here page fresh (without_one (way old page) old.pages)) ∙ fresh_held

    mid_other : (other : ℕ) → other ≢ page → entry_of mid other ≡ lookup (nat_eq other) (without_one (way old page) old.pages)
    mid_other other apart = ap (lookup (nat_eq other)) mid_pages ∙ front_other page other fresh (without_one (way old page) old.pages) apart

    less_used : (o : Option PageNo) → ((q : PageNo) → o ≡ Some q → IsOldest old.pages page q) → length (used_pages (without_one o old.pages)) ≡ length (used_pages old.pages)
    less_used None oldest = refl
    less_used (Some q) oldest = let is = oldest q refl in removed_count q.0 old.pages (ap is_in_use is.there ∙ is.idle)

    pub mid_room : length (used_pages mid.pages) < mid.most
    mid_room =
        let count = ap (λ (l : Pages). length (used_pages l)) mid_pages ∙ admitted_count page fresh (without_one (way old page) old.pages) fresh_idle ∙ less_used (way old page) makes_way in
        let most = mid_most in
        omega arith

    mid_short : length mid.pages ≤ mid.most
    mid_short =
        let long : length mid.pages ≡ length ((page, fresh) ∷ without_one (way old page) old.pages) = ap (λ (l : Pages). length l) mid_pages in
        let few = trimmed_short old.most page old.pages (way old page) refl makes_way runs.own.short in
        let most = mid_most in
        omega arith

    pub mid_rest : remove_entry (nat_eq page) mid.pages ≡ without_one (way old page) old.pages
    mid_rest = ap (remove_entry (nat_eq page)) mid_pages ∙ ap (λ (b : Bool). cond b (without_one (way old page) old.pages) ((page, fresh) ∷ remove_entry (nat_eq page) (without_one (way old page) old.pages))) (eq-eqb page page refl)

    mid_first : AreUsedFirst (remove_entry (nat_eq page) mid.pages)
    mid_first = subst AreUsedFirst (sym mid_rest) (trimmed_first (way old page) old.pages runs.own.first)

    -- it came into use
    pub new_taken : (later : Script → Type 0) (claimed dropped now : Told Entry) (new : ClientView) (image : PageImage) → ((s : Script) → serves s → later s) → SameService told claimed → SameRecords claimed dropped → page < length told.opened
        → InUse told claimed page image → Drops (way old page) claimed dropped → now ≡ dropped → IsFitPage mid.schema page image → Takes mid new page image → SameService told dropped → ((s : Script) → serves s → ReachedFor s claimed)
        → (entry : CachedPage) × Comes serves later told now old new page entry
    new_taken later claimed dropped now new image served service same below in_use drops now_is fit takes kept reached =
        let h = has_taken mid new page image fit takes in
        subst (λ (x : Told Entry). (entry : CachedPage) × Comes serves later told x old new page entry) (sym now_is)
        (taken_comes serves later told dropped old mid new page image runs served kept below (ap is_in_use absent) absent_is.held h
        (dropped_held (way old page) claimed dropped drops page ∙ in_use.held) (dropped_owned (way old page) claimed dropped drops page ∙ in_use.owned) mid_schema mid_frames mid_most mid_short mid_first
        (λ s serving. reached_still s claimed dropped same (dropped_held (way old page) claimed dropped drops) (reached s serving))
        (λ other apart. other_new (length told.opened) told claimed dropped dropped.mine old new page other (way old page) apart runs.own.tied distinct makes_way in_use.others drops (same_at dropped.mine other) (h.others other apart ∙ mid_other other apart)))

    -- it was lost
    pub new_lost : (later : Script → Type 0) (fault : AttemptFault) (claimed dropped now : Told Entry) (new : ClientView) (page_no : PageNo) (image : PageImage) → page_no.0 ≡ page → ((s : Script) → serves s → later s) → SameService told now
        → SameElsewhere told.mine claimed.mine page → Drops (way old page) claimed dropped → AllByRecursion (λ (p : PageNo). p.0 < length told.opened) (pages_wanted old.schema page_no image.bytes) → (w : WasLost fault mid new page_no image dropped.mine now.mine) → IsLost later told now old mid new page
    new_lost later fault claimed dropped now new page_no image same served service claim drops low w =
        let l = w.lost in
        let pages : new.pages ≡ without_one (way old page) old.pages = lost_pages mid new page_no image w.frames l ∙ ap (λ (n : ℕ). remove_entry (nat_eq n) mid.pages) same ∙ mid_rest in
        let more = lost_more mid new page_no image w.frames l in
        let gone : entry_of new page ≡ None = ap (lookup (nat_eq page)) pages ∙ none_here (way old page) makes_way in
        let extends : Extends old new = record {
          schema = more.schema ∙ mid_schema;
          most = more.most ∙ mid_most;
          count = more.count ∙ ap (λ (f : Frames). length f.pages) mid_frames;
          client = more.client ∙ ap (λ f. f.client) mid_frames;
          frames = subst (λ f. KeepsFrames f.pages new.frames.pages) mid_frames more.frames;
          paired = more.paired;
        } in
        let known = lost_known mid new page_no image w.frames l (length told.opened) (subst (λ (f : Frames). AreKnown (length told.opened) f.pages) (sym mid_frames) runs.own.framed)
        (subst (λ (s : Schema). AllByRecursion (λ (p : PageNo). p.0 < length told.opened) (pages_wanted s page_no image.bytes)) (sym mid_schema) low) in
        let others : (other : ℕ) → other ≢ page → OtherGoes (length told.opened) old new told.mine now.mine other = λ other apart. other_new (length told.opened) told claimed dropped now.mine old new page other (way old page) apart runs.own.tied distinct makes_way claim drops
        (record { held = w.gone.others.held other (λ e. apart (e ∙ same)); owned = w.gone.others.owned other (λ e. apart (e ∙ same)); kept = w.gone.others.kept other (λ e. apart (e ∙ same)); droppable = w.gone.others.droppable other (λ e. apart (e ∙ same)) })
        (ap (lookup (nat_eq other)) pages) in
        record {
          gone = gone;
          pages = pages;
          own = lost_own serves later told now old mid new page runs.own served service extends known.0 gone (subst (IsAbsent now.mine) same (record { held = w.gone.held; owned = w.gone.owned; kept = w.gone.kept })) others
              (lost_short mid new page_no image w.frames l mid_short) (subst AreUsedFirst (sym pages) (trimmed_first (way old page) old.pages runs.own.first));
          owns = lost_owns (length told.opened) old new told.mine now.mine page gone others;
          client = same_client_of extends;
          few = known.1;
        }
      where
        none_here : (o : Option PageNo) → ((q : PageNo) → o ≡ Some q → IsOldest old.pages page q) → lookup (nat_eq page) (without_one o old.pages) ≡ None
        none_here None oldest = absent
        none_here (Some q) oldest = gone_other q.0 page old.pages (λ e. (oldest q refl).other (sym e)) ∙ absent

-- ---- what the calls that a new page takes say of each other

pub admitted_ok : {T F : Type 0} (P : Type 0) (r : Result T F) → OnOk r P → false ≡ is_err r → P
admitted_ok P (Ok x) h fine = h
admitted_ok P (Err e) h fine = absurd (false≢true fine)

pub drops_calm : (o : Option PageNo) (told now : Told Entry) → Drops o told now → NoBusy told now
drops_calm None told now drops = subst (NoBusy told) (sym drops) (calm_refl told)
drops_calm (Some page) told now drops = drops.calm

-- a page that was admitted and forgotten
pub forgotten : (old admitted new : ClientView) (page : ℕ) → admitted ≡ with_pages ((page, fresh) ∷ old.pages) old → new ≡ with_pages (remove_entry (nat_eq page) admitted.pages) admitted → new ≡ old
forgotten old admitted new page is gone =
    gone ∙ ap (λ (v : ClientView). with_pages (remove_entry (nat_eq page) v.pages) v) is
    ∙ ap (λ (b : Bool). with_pages (cond b old.pages ((page, fresh) ∷ remove_entry (nat_eq page) old.pages)) old) (eq-eqb page page refl)

pub admitted_idle : (old admitted : ClientView) (page : ℕ) → admitted ≡ with_pages ((page, fresh) ∷ old.pages) old → is_in_use (lookup (nat_eq page) admitted.pages) ≡ false
admitted_idle old admitted page is = ap (λ (v : ClientView). is_in_use (lookup (nat_eq page) v.pages)) is ∙ ap is_in_use (front_here page fresh old.pages) ∙ fresh_idle
