-- What the releases so far leave of a client's pages, and of what its service holds for it.
use Rattle.std.proofs.Common.{◌≡◌, ◌≢◌, ◌≤◌, ◌<◌, ◌+◌, ℕ, Bool, true, false, cond, nat_eq, List, [], ◌∷◌, ◌++◌, length, get_or, take, Option, Some, None, sym, ap, subst, refl, ◌∙◌, arith, inl, inr}
use Rattle.std.specs.Prelude.{IsSome, is_some}
use Rattle.std.specs.List.{AllPairs, Contains, IsDistinct}
use Rattle.std.specs.Map.{lookup, remove_entry, keys_of}
use Rattle.std.proofs.lemmas.List.{get_or_default, take_all}
use Rattle.std.proofs.lemmas.List.Elements.{Contains-get_or, Contains-append_right}
use Rattle.std.proofs.lemmas.Bool.{cases_eq, cases_lt, false≢true}
use Rattle.std.proofs.lemmas.Option.{same_Some}
use Rattle.ostore_base.specs.declared.page.PageImage.{PageImage}
use Rattle.ostore_page_service.specs.Told.{Told, Side, SameElsewhere, SameRecords, NoBusy}
use Rattle.ostore_client_cache.specs.declared.entries.CachedPage.{CachedPage}
use Rattle.ostore_client_cache.specs.declared.entries.Hold.{Hold}
use Rattle.ostore_client_cache.specs.declared.entries.Hold.TheVariants.{Retained, InUse, Owned}
use Rattle.ostore_client_cache.specs.Entries.{first_as, pair_as, is_in_use, is_used, held_as}
use Rattle.ostore_client_cache.specs.Caches.{Cached, cached}
use Rattle.ostore_client_cache.specs.Releases.{released_all}
use Rattle.ostore_client_cache.proofs.CountLaws.{long_first, long_removed}
use Rattle.ostore_client_cache.proofs.OrderLaws.{Apart, later_apart, lookup_later, released_turn}
use Rattle.ostore_client_core.specs.declared.release.Ending.{Ending}
use Rattle.ostore_client_core.specs.Clients.{IsTied, IsTiedBy, IsRetained}
use Rattle.ostore_client_core.specs.Calls.{is_void, keeps}
use Rattle.ostore_client_core.specs.inside.Releasing.{GivesBack, HasImage, HaveImages, IsHeld, EndsWith}
use Rattle.ostore_client_core.proofs.EntryLaws.{Pages, first_here, first_other, gone_here, gone_other, none_some, IsThere, there}
use Rattle.ostore_client_core.proofs.TiedLaws.{SameAt, tied_still}
use Rattle.ostore_client_core.proofs.RecordLaws.{records_refl, records_then, calm_refl, calm_then}

-- the pages once one was given back
abbrev pub after_page : Pages → ℕ → Bool → Pages
after_page old page kept = cond kept (first_as Retained old page) (remove_entry (nat_eq page) old)

pub keeps_elsewhere : {E : Type 0} (old new : Side E) (page : ℕ) → SameElsewhere old new page → (other : ℕ) → other ≢ page → keeps new other ≡ keeps old other
keeps_elsewhere old new page same other apart = ap (λ (o : Option PageImage). is_some o) (same.kept other apart)

elsewhere_at : {E : Type 0} (old new : Side E) (page other : ℕ) → SameElsewhere old new page → other ≢ page → SameAt old new other
elsewhere_at old new page other same apart = record { held = same.held other apart; owned = same.owned other apart; kept = same.kept other apart; droppable = same.droppable other apart }

after_other : (pages : Pages) (page other : ℕ) (kept : Bool) → other ≢ page → lookup (nat_eq other) (after_page pages page kept) ≡ lookup (nat_eq other) pages
after_other pages page other true apart = first_other Retained page other pages apart
after_other pages page other false apart = gone_other page other pages apart

-- ---- a page that is given back

held_still : {E : Type 0} (ending : Ending) (stored : PageImage → PageImage) (old new : Side E) (page : ℕ) (found : Option CachedPage) → SameAt old new page → IsHeld ending stored old page found → IsHeld ending stored new page found
held_still ending stored old new page None same held = tt
held_still ending stored old new page (Some entry) same held = λ used kept. same.held ∙ held used kept

retained_by : {E : Type 0} (stored : PageImage) (old new : Side E) (page : ℕ) → GivesBack true old new page → old.held page ≡ Some stored → IsRetained stored new page
retained_by stored old new page gives held = record {
  held = gives.held;
  owned = gives.owned;
  kept = λ image kept. some_is (sym kept ∙ gives.copy.0 ∙ held);
  droppable = gives.copy.1;
}
  where
    some_is : {x y : PageImage} → Some x ≡ Some y → x ≡ y
    some_is {x} {y} e = cc

here_kept : {E : Type 0} (ending : Ending) (stored : PageImage → PageImage) (old new : Side E) (page : ℕ) (pages : Pages) (entry : CachedPage) → lookup (nat_eq page) pages ≡ Some entry → GivesBack true old new page → old.held page ≡ Some (stored entry.image)
    → IsTied stored new page (lookup (nat_eq page) (first_as Retained pages page))
here_kept ending stored old new page pages entry is gives held =
    subst (IsTied stored new page) (sym (first_here Retained page pages entry is)) (retained_by (stored entry.image) old new page gives held)

here_gone : {E : Type 0} (stored : PageImage → PageImage) (old new : Side E) (page : ℕ) (pages : Pages) → IsDistinct nat_eq (keys_of pages) → GivesBack false old new page → IsTied stored new page (lookup (nat_eq page) (remove_entry (nat_eq page) pages))
here_gone stored old new page pages apart gives = subst (IsTied stored new page) (sym (gone_here page pages apart)) (record { held = gives.held; owned = gives.owned; kept = gives.copy })

held_unused : {E : Type 0} (ending : Ending) (stored : PageImage → PageImage) (side : Side E) (page : ℕ) (found : Option CachedPage) → is_in_use found ≡ false → IsHeld ending stored side page found
held_unused ending stored side page None idle = tt
held_unused ending stored side page (Some entry) idle = λ used kept. absurd (false≢true (sym idle ∙ used))

idle_as : (page : ℕ) (pages : Pages) (found : Option CachedPage) → IsDistinct nat_eq (keys_of pages) → lookup (nat_eq page) pages ≡ found → is_in_use (lookup (nat_eq page) (first_as Retained pages page)) ≡ false
idle_as page pages None apart is = ap is_in_use (ap (λ (o : Option CachedPage). lookup (nat_eq page) (pair_as Retained page o ++ remove_entry (nat_eq page) pages)) is ∙ gone_here page pages apart)
idle_as page pages (Some entry) apart is = ap is_in_use (first_here Retained page pages entry is)

pub after_idle : (pages : Pages) (page : ℕ) (kept : Bool) → IsDistinct nat_eq (keys_of pages) → is_in_use (lookup (nat_eq page) (after_page pages page kept)) ≡ false
after_idle pages page true apart = idle_as page pages (lookup (nat_eq page) pages) apart refl
after_idle pages page false apart = ap is_in_use (gone_here page pages apart)

-- the page's entry: it is in use, so it is there
entry_held : {E : Type 0} (stored : PageImage → PageImage) (side : Side E) (page : ℕ) (found : Option CachedPage) → IsTied stored side page found → IsSome (side.held page) → IsThere found
entry_held stored side page None tied some = absurd (no_image (side.held page) tied.held some)
  where
    no_image : (o : Option PageImage) → o ≡ None → IsSome o → ⊥
    no_image None is some = absurd cc
    no_image (Some image) is some = absurd cc
entry_held stored side page (Some entry) tied some = record { entry = entry; is = refl }

entry_used : {E : Type 0} (hold : Hold) (stored : PageImage) (side : Side E) (page : ℕ) → IsTiedBy hold stored side page → IsSome (side.held page) → is_used hold ≡ true
entry_used Retained stored side page tied some = absurd (no_image (side.held page) tied.held some)
  where
    no_image : (o : Option PageImage) → o ≡ None → IsSome o → ⊥
    no_image None is some = absurd cc
    no_image (Some image) is some = absurd cc
entry_used InUse stored side page tied some = refl
entry_used Owned stored side page tied some = refl

ends_here : {E : Type 0} (ending : Ending) (stored : PageImage → PageImage) (old new : Side E) (page : ℕ) (pages : Pages) (kept void : Bool) → IsDistinct nat_eq (keys_of pages) → IsSome (old.held page) → GivesBack kept old new page
    → void ≡ is_void ending (lookup (nat_eq page) pages) → (void ≡ true → kept ≡ false) → IsTied stored old page (lookup (nat_eq page) pages) → IsHeld ending stored old page (lookup (nat_eq page) pages)
    → IsTied stored new page (lookup (nat_eq page) (after_page pages page kept))
ends_here ending stored old new page pages false void apart some gives void_is gone tied held = here_gone stored old new page pages apart gives
ends_here ending stored old new page pages true void apart some gives void_is gone tied held =
    let is = entry_held stored old page (lookup (nat_eq page) pages) tied some in
    let entry = is.entry in
    let used : is_used entry.hold ≡ true = entry_used entry.hold (stored entry.image) old page (subst (IsTied stored old page) is.is tied) some in
    let not_void : is_void ending (Some entry) ≡ false = by_void void refl (void_is ∙ ap (is_void ending) is.is) in
    here_kept ending stored old new page pages entry is.is gives (subst (IsHeld ending stored old page) is.is held used not_void)
  where
    by_void : (b : Bool) → void ≡ b → {c : Bool} → void ≡ c → c ≡ false
    by_void true is {c} other = absurd (false≢true (sym (gone is)))
    by_void false is {c} other = sym other ∙ is

pub ends_next : {E : Type 0} (ending : Ending) (old new : Side E) (page : ℕ) (pages : Pages) (kept void : Bool) → IsDistinct nat_eq (keys_of pages) → IsSome (old.held page) → GivesBack kept old new page
    → void ≡ is_void ending (lookup (nat_eq page) pages) → (void ≡ true → kept ≡ false) → (stored : ℕ → PageImage → PageImage) → EndsWith ending stored old pages → EndsWith ending stored new (after_page pages page kept)
ends_next ending old new page pages kept void apart some gives void_is gone stored ends =
    let here : IsTied (stored page) new page (lookup (nat_eq page) (after_page pages page kept)) = ends_here ending (stored page) old new page pages kept void apart some gives void_is gone (ends.tied page) (ends.held page) in
    record {
      tied = λ other. elim (cases_eq other page) as (λ _. IsTied (stored other) new other (lookup (nat_eq other) (after_page pages page kept))) [
        | inl same ↦ subst (λ (p : ℕ). IsTied (stored p) new p (lookup (nat_eq p) (after_page pages page kept))) (sym same) here
        | inr differs ↦
            subst (IsTied (stored other) new other) (sym (after_other pages page other kept differs))
            (tied_still (lookup (nat_eq other) pages) (stored other) (stored other) old new other (λ entry is. refl) (elsewhere_at old new page other gives.others differs) (ends.tied other))
      ];
      held = λ other. elim (cases_eq other page) as (λ _. IsHeld ending (stored other) new other (lookup (nat_eq other) (after_page pages page kept))) [
        | inl same ↦
            subst (λ (p : ℕ). IsHeld ending (stored p) new p (lookup (nat_eq p) (after_page pages page kept))) (sym same)
            (held_unused ending (stored page) new page (lookup (nat_eq page) (after_page pages page kept)) (after_idle pages page kept apart))
        | inr differs ↦
            subst (IsHeld ending (stored other) new other) (sym (after_other pages page other kept differs))
            (held_still ending (stored other) old new other (lookup (nat_eq other) pages) (elsewhere_at old new page other gives.others differs) (ends.held other))
      ];
    }

-- ---- images stay

after_image : (pages : Pages) (page : ℕ) (kept : Bool) (entry : CachedPage) → IsDistinct nat_eq (keys_of pages) → lookup (nat_eq page) (after_page pages page kept) ≡ Some entry → HasImage pages page entry
after_image pages page false entry apart is = absurd (none_some (sym (gone_here page pages apart) ∙ is))
after_image pages page true entry apart is = by_found (lookup (nat_eq page) pages) refl
  where
    by_found : (found : Option CachedPage) → lookup (nat_eq page) pages ≡ found → HasImage pages page entry
    by_found None none = absurd (none_some (sym (ap (λ (o : Option CachedPage). lookup (nat_eq page) (pair_as Retained page o ++ remove_entry (nat_eq page) pages)) none ∙ gone_here page pages apart) ∙ is))
    by_found (Some was) there = record { was = was; there = there; image = ap (λ (e : CachedPage). e.image) (same_Some entry (held_as Retained was) (sym is ∙ first_here Retained page pages was there)) }

images_next : (start pages : Pages) (page : ℕ) (kept : Bool) → IsDistinct nat_eq (keys_of pages) → HaveImages start pages → HaveImages start (after_page pages page kept)
images_next start pages page kept apart so_far other entry is = elim (cases_eq other page) as (λ _. HasImage start other entry) [
  | inl same ↦
      let here = after_image pages page kept entry apart (sym (ap (λ (n : ℕ). lookup (nat_eq n) (after_page pages page kept)) same) ∙ is) in
      let before = so_far page here.was here.there in
      subst (λ (n : ℕ). HasImage start n entry) (sym same) (record { was = before.was; there = before.there; image = here.image ∙ before.image })
  | inr apart_is ↦ so_far other entry (sym (after_other pages page other kept apart_is) ∙ is)
]

after_long : (pages : Pages) (page : ℕ) (kept : Bool) → length (after_page pages page kept) ≤ length pages
after_long pages page true =
    let one = long_first Retained page pages (lookup (nat_eq page) pages) refl in
    let two = long_removed page pages (lookup (nat_eq page) pages) refl in
    omega arith
after_long pages page false = let two = long_removed page pages (lookup (nat_eq page) pages) refl in omega arith

-- ---- the first pages were given back

pub record Released {E : Type 0} (ending : Ending) (old new : Cached) (was now : Told E) (i : ℕ) (pages : List ℕ) : Type 0 where
  pub cache : new ≡ cached (released_all old.pages (keeps now.mine) (take i pages)) old.most
  pub used : (k d : ℕ) → i ≤ k → k < length pages → IsSome (now.mine.held (get_or pages k d))
  pub void : (k d : ℕ) → k < i → k < length pages → is_void ending (lookup (nat_eq (get_or pages k d)) old.pages) ≡ true → now.mine.kept (get_or pages k d) ≡ None
  pub idle : (k d : ℕ) → k < i → k < length pages → is_in_use (lookup (nat_eq (get_or pages k d)) new.pages) ≡ false
  pub images : HaveImages old.pages new.pages
  pub long : length new.pages ≤ length old.pages
  pub same : SameRecords was now
  pub calm : NoBusy was now
  pub ends : (stored : ℕ → PageImage → PageImage) → EndsWith ending stored was.mine old.pages → EndsWith ending stored now.mine new.pages

none_kept : (found : Option PageImage) → false ≡ is_some found → found ≡ None
none_kept None is = refl
none_kept (Some image) is = cc

kept_is : {E : Type 0} (kept : Bool) (old new : Side E) (page : ℕ) → GivesBack kept old new page → IsSome (old.held page) → kept ≡ keeps new page
kept_is true old new page gives some = sym (ap (λ (o : Option PageImage). is_some o) gives.copy.0 ∙ some)
kept_is false old new page gives some = sym (ap (λ (o : Option PageImage). is_some o) gives.copy)

-- a page's entry is as it was before the pages before it were given back
pub still_there : {E : Type 0} (ending : Ending) (old new : Cached) (was now : Told E) (i page : ℕ) (pages : List ℕ) → AllPairs (λ page later. page < later) pages → i < length pages → page ≡ get_or pages i page → Released ending old new was now i pages
    → lookup (nat_eq page) new.pages ≡ lookup (nat_eq page) old.pages
still_there ending old new was now i page pages ascends below read so_far =
    ap (λ (c : Cached). lookup (nat_eq page) c.pages) so_far.cache
    ∙ lookup_later page (take i pages) old.pages (keeps now.mine) (subst (λ (n : ℕ). Apart n (take i pages)) (sym read) (later_apart pages i page ascends below))

pub next_released : {E : Type 0} (ending : Ending) (old new after : Cached) (was now then : Told E) (i page : ℕ) (pages : List ℕ) (void kept : Bool)
    → AllPairs (λ page later. page < later) pages → i < length pages → page ≡ get_or pages i page → Released ending old new was now i pages
    → IsDistinct nat_eq (keys_of new.pages) → void ≡ is_void ending (lookup (nat_eq page) new.pages) → GivesBack kept now.mine then.mine page → (void ≡ true → kept ≡ false)
    → SameRecords now then → NoBusy now then → after ≡ cached (after_page new.pages page kept) new.most → Released ending old after was then (i + 1) pages
next_released ending old new after was now then i page pages void kept ascends below read so_far apart void_is gives gone records calm is =
    let same = gives.others in
    let some : IsSome (now.mine.held page) = subst (λ (n : ℕ). IsSome (now.mine.held n)) (sym read) (so_far.used i page (omega arith) below) in
    let found = still_there ending old new was now i page pages ascends below read so_far in
    let pages_now : new.pages ≡ released_all old.pages (keeps now.mine) (take i pages) = ap (λ (c : Cached). c.pages) so_far.cache in
    let most_now : new.most ≡ old.most = ap (λ (c : Cached). c.most) so_far.cache in
    let kept_now = kept_is kept now.mine then.mine page gives some in
    let list : after_page new.pages page kept ≡ released_all old.pages (keeps then.mine) (take (i + 1) pages) =
    released_turn (keeps then.mine) (keeps now.mine) old.pages new.pages _ pages i page ascends below read (keeps_elsewhere now.mine then.mine page same) pages_now (ap (after_page new.pages page) kept_now) in
    record {
      cache = is ∙ ap (λ (l : Pages). cached l new.most) list ∙ ap (cached (released_all old.pages (keeps then.mine) (take (i + 1) pages))) most_now;
      used = λ k d low short. subst IsSome (sym (same.held (get_or pages k d) (apart_later k d (omega arith) short))) (so_far.used k d (omega arith) short);
      void = λ k d low short dropped. elim (cases_lt k i) [
        | inl less ↦ same.kept (get_or pages k d) (apart_before k d less) ∙ so_far.void k d less short dropped
        | inr last ↦
            let at : k ≡ i = omega arith in
            let here : get_or pages k d ≡ page = ap (λ (n : ℕ). get_or pages n d) at ∙ sym (read ∙ get_or_default pages i page d below) in
            let void_true : void ≡ true = void_is ∙ ap (is_void ending) found ∙ sym (ap (λ (n : ℕ). is_void ending (lookup (nat_eq n) old.pages)) here) ∙ dropped in
            ap then.mine.kept here ∙ none_kept (then.mine.kept page) (sym (gone void_true) ∙ kept_now)
      ];
      idle = λ k d low short. elim (cases_lt k i) [
        | inl less ↦
            ap (λ (c : Cached). is_in_use (lookup (nat_eq (get_or pages k d)) c.pages)) is
            ∙ ap is_in_use (after_other new.pages page (get_or pages k d) kept (apart_before k d less)) ∙ so_far.idle k d less short
        | inr last ↦
            let at : k ≡ i = omega arith in
            let here : get_or pages k d ≡ page = ap (λ (n : ℕ). get_or pages n d) at ∙ sym (read ∙ get_or_default pages i page d below) in
            ap (λ (c : Cached). is_in_use (lookup (nat_eq (get_or pages k d)) c.pages)) is
            ∙ ap (λ (n : ℕ). is_in_use (lookup (nat_eq n) (after_page new.pages page kept))) here ∙ after_idle new.pages page kept apart
      ];
      long = (let one : length after.pages ≡ length (after_page new.pages page kept) = ap (λ (c : Cached). length c.pages) is in let two = after_long new.pages page kept in let three = so_far.long in omega arith);
      images = subst (λ (c : Cached). HaveImages old.pages c.pages) (sym is) (images_next old.pages new.pages page kept apart so_far.images);
      same = records_then was now then so_far.same records;
      calm = calm_then was now then so_far.calm calm;
      ends = λ stored begun. subst (λ (c : Cached). EndsWith ending stored then.mine c.pages) (sym is) (ends_next ending now.mine then.mine page new.pages kept void apart some gives void_is gone stored (so_far.ends stored begun));
    }
  where
    apart_later : (k d : ℕ) → i < k → k < length pages → get_or pages k d ≢ page
    apart_later k d less short = λ equal.
        (let more = ascends i k d less short in
        let here : page ≡ get_or pages i d = read ∙ get_or_default pages i page d below in
        omega arith)

    apart_before : (k d : ℕ) → k < i → get_or pages k d ≢ page
    apart_before k d less = λ equal.
        (let more = ascends k i d less below in
        let here : page ≡ get_or pages i d = read ∙ get_or_default pages i page d below in
        omega arith)

pub started : {E : Type 0} (ending : Ending) (cache : Cached) (told : Told E) (pages : List ℕ) → ((k d : ℕ) → k < length pages → IsSome (told.mine.held (get_or pages k d))) → Released ending cache cache told told 0 pages
started ending cache told pages used = record {
  cache = refl;
  used = λ k d low short. used k d short;
  void = λ k d low. absurd (omega arith);
  idle = λ k d low. absurd (omega arith);
  images = λ page entry is. record { was = entry; there = is; image = refl };
  long = omega arith;
  same = records_refl told;
  calm = calm_refl told;
  ends = λ stored begun. begun;
}

-- ---- all pages were given back

pub taken_all : {E : Type 0} (ending : Ending) (old new : Cached) (was now : Told E) (i : ℕ) (pages : List ℕ) → length pages ≤ i → Released ending old new was now i pages → new ≡ cached (released_all old.pages (keeps now.mine) pages) old.most
taken_all ending old new was now i pages past so_far = so_far.cache ∙ ap (λ (l : List ℕ). cached (released_all old.pages (keeps now.mine) l) old.most) (take_all i pages past)

pub apart_from : (page : ℕ) (pages : List ℕ) → (Contains pages page → ⊥) → Apart page pages
apart_from page [] none = tt
apart_from page (other ∷ pages) none = (
  (λ is. none (subst (λ (n : ℕ). Contains (other ∷ pages) n) (sym is) (Contains-get_or (other ∷ pages) 0 other (omega arith)))),
  apart_from page pages (λ has. none (Contains-append_right (other ∷ []) pages page has)),
)

pub others_same : {E : Type 0} (ending : Ending) (old new : Cached) (was now : Told E) (i : ℕ) (pages : List ℕ) → length pages ≤ i → Released ending old new was now i pages
    → (page : ℕ) → (Contains pages page → ⊥) → lookup (nat_eq page) new.pages ≡ lookup (nat_eq page) old.pages
others_same ending old new was now i pages past so_far page none =
    ap (λ (c : Cached). lookup (nat_eq page) c.pages) (taken_all ending old new was now i pages past so_far) ∙ lookup_later page pages old.pages (keeps now.mine) (apart_from page pages none)
