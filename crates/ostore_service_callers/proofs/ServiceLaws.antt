-- One call after another.
use Rattle.std.proofs.Common.{◌≡◌, ◌≢◌, ℕ, ◌<◌, ◌⊎◌, inl, inr, true, false, [], ◌∷◌, ◌++◌, Option, Some, None, Result, Ok, Err, refl, sym, ap, subst, ◌∙◌, arith}
use Rattle.std.specs.Prelude.{OnOk, IfErr, IsSome}
use Rattle.std.specs.Option.{option_map}
use Rattle.std.proofs.lemmas.Bool.{false≢true}
use Rattle.std.proofs.lemmas.Option.{none-some}
use Rattle.ostore_base.specs.Limits.{most_clients}
use Rattle.ostore_base.specs.Faults.{Rose}
use Rattle.ostore_base.specs.declared.page.PageImage.{PageImage}
use Rattle.ostore_page_service.specs.declared.answers.Busy.{Busy}
use Rattle.ostore_page_service.specs.Told.{Side, Told, Undisturbed, SameService, SameRecords, SamePages, SameElsewhere, NoBusy, BecomesOwner, OwnedByAnother, UsedByAnother, Refuses}
use Rattle.ostore_service_callers.specs.Held.{HoldsBoth}
use Rattle.ostore_service_callers.specs.Claimed.{ComesIntoUse, IsCounted, MeetsOwner}

undisturbed_then : {E : Type 0} {a b c : Side E} → Undisturbed a b → Undisturbed b c → Undisturbed a c
undisturbed_then x y = record {
  held = λ q. y.held q ∙ x.held q;
  owned = λ q. y.owned q ∙ x.owned q;
  kept = λ q image h. x.kept q image (y.kept q image h);
  droppable = λ q. y.droppable q ∙ x.droppable q;
  records = y.records ∙ x.records;
  room = y.room ∙ x.room;
}

pub same_then : {E : Type 0} {t u v : Told E} → SameService t u → SameService u v → SameService t v
same_then x y = record {
  behind = y.behind ∙ x.behind;
  client = y.client ∙ x.client;
  may_write = y.may_write ∙ x.may_write;
  may_fail = y.may_fail ∙ x.may_fail;
  first = y.first ∙ x.first;
  opened = y.opened ∙ x.opened;
  tells_others = y.tells_others ∙ x.tells_others;
  others = λ d l ne. undisturbed_then (x.others d l ne) (y.others d l (λ e. ne (e ∙ x.client)));
}

pub always_ok : {T E : Type 0} {P : Type 0} (r : Result T E) → P → OnOk r P
always_ok (Ok x) p = p
always_ok (Err e) p = tt

pub holds_still : (held now : ℕ → Option PageImage) (p q : ℕ) → ((r : ℕ) → now r ≡ held r) → HoldsBoth held p q → HoldsBoth now p q
holds_still held now p q same h = record {
  one = (h.one.0, same p ∙ h.one.1);
  two = (h.two.0, same q ∙ h.two.1);
  rest = λ r a b. same r ∙ h.rest r a b;
}

-- ---- records

pub records_then : {E : Type 0} {t u v : Told E} → SameRecords t u → SameRecords u v → SameRecords t v
records_then x y = record {
  service = same_then x.service y.service;
  records = y.records ∙ x.records;
  room = let first = x.room in let second = y.room in omega arith;
  faults = y.faults ∙ x.faults;
  number = y.number ∙ x.number;
  disk_faults = y.disk_faults ∙ x.disk_faults;
  writes = y.writes ∙ x.writes;
}

-- ---- Busy answers

pub calm_then : {E : Type 0} {t u v : Told E} → NoBusy t u → NoBusy u v → NoBusy t v
calm_then x y = record { busy = y.busy ∙ x.busy; busies = y.busies ∙ x.busies }

pub counts : {E : Type 0} {t u : Told E} {p : ℕ} {busy : Busy} → Refuses t u p busy → IsCounted t u busy
counts refused = record { rose = refused.rose; told = refused.told }

pub counted_between : {E : Type 0} {t u v w : Told E} {busy : Busy} → NoBusy t u → IsCounted u v busy → NoBusy v w → IsCounted t w busy
counted_between {E} {t} {u} {v} {w} {busy} x one y = record {
  rose = subst (λ n. Rose n w.busy) x.busy (subst (Rose u.busy) (sym y.busy) one.rose);
  told = y.busies ∙ one.told ∙ ap (option_map (λ busies. busies ++ busy ∷ [])) x.busies;
}

pub owned_before : {E : Type 0} {t u : Told E} (p : ℕ) → SameService t u → OwnedByAnother u p → OwnedByAnother t p
owned_before {E} {t} {u} p same met = λ tells.
    let m = met (same.tells_others ∙ tells) in
    let other : m.0 ≢ t.client = λ e. m.2 (e ∙ sym same.client) in
    (m.0, m.1, other, sym ((same.others m.0 m.1 other).owned p) ∙ m.3)

pub used_before : {E : Type 0} {t u : Told E} (p : ℕ) → SameService t u → UsedByAnother u p → UsedByAnother t p
used_before {E} {t} {u} p same met = λ tells.
    let m = met (same.tells_others ∙ tells) in
    let other : m.0 ≢ t.client = λ e. m.2 (e ∙ sym same.client) in
    (m.0, m.1, other, subst IsSome ((same.others m.0 m.1 other).held p) m.3)

-- the first client owns neither page, so a later Busy has met a third one
pub third : {T E : Type 0} (r : Result T Busy) (a b : ℕ → Side E) (p q : ℕ) → ((d : ℕ) → d < most_clients → d ≢ 0 → Undisturbed (a d) (b d)) → (b 0).owned p ≡ false → (b 0).owned q ≡ false
    → IfErr r (MeetsOwner b 1 p q) → IfErr r (MeetsOwner a 0 p q)
third (Ok x) a b p q others one two met = tt
third (Err busy) a b p q others one two met =
    let m = met.owner in
    let later : m.0 ≢ 0 = λ zero. not_first m.0 busy.page.0 zero met.page m.3 in
    record { page = met.page; owner = (m.0, m.1, later, sym ((others m.0 m.1 later).owned busy.page.0) ∙ m.3) }
  where
    not_first : (d k : ℕ) → d ≡ 0 → (k ≡ p) ⊎ (k ≡ q) → (b d).owned k ≡ true → ⊥
    not_first d k zero (inl is) own = false≢true (sym one ∙ subst (λ n. (b 0).owned n ≡ true) is (subst (λ n. (b n).owned k ≡ true) zero own))
    not_first d k zero (inr is) own = false≢true (sym two ∙ subst (λ n. (b 0).owned n ≡ true) is (subst (λ n. (b n).owned k ≡ true) zero own))

-- where a client kept no copy, it keeps none after what others did
no_copy : (now before : Option PageImage) → ((image : PageImage) → now ≡ Some image → before ≡ Some image) → before ≡ None → now ≡ None
no_copy None before kept none = refl
no_copy (Some image) before kept none = absurd (none-some image (sym none ∙ kept image refl))

-- a page that comes into use afterwards comes so from before it
pub comes_after : {T X E : Type 0} (r : Result T X) (a b c : Side E) (p : ℕ) (image : PageImage) → Undisturbed a b → OnOk r (ComesIntoUse b c p image) → OnOk r (ComesIntoUse a c p image)
comes_after (Ok x) a b c p image same comes = record {
  owned = comes.owned;
  fetched = λ none. comes.fetched (no_copy (b.kept p) (a.kept p) (same.kept p) none);
}
comes_after (Err e) a b c p image same comes = tt

-- ---- other pages

pub pages_elsewhere : {E : Type 0} {a b : Side E} (p : ℕ) → SamePages a b → SameElsewhere a b p
pages_elsewhere p x = record { held = λ q ne. x.held q; owned = λ q ne. x.owned q; kept = λ q ne. x.kept q; droppable = λ q ne. x.droppable q }

pub elsewhere_then : {E : Type 0} {a b c : Side E} {p : ℕ} → SameElsewhere a b p → SameElsewhere b c p → SameElsewhere a c p
elsewhere_then x y = record {
  held = λ q ne. y.held q ne ∙ x.held q ne;
  owned = λ q ne. y.owned q ne ∙ x.owned q ne;
  kept = λ q ne. y.kept q ne ∙ x.kept q ne;
  droppable = λ q ne. y.droppable q ne ∙ x.droppable q ne;
}

pub owner_elsewhere : {E : Type 0} {t u : Told E} {p : ℕ} → BecomesOwner t u p → SameElsewhere t.mine u.mine p
owner_elsewhere x = record { held = λ q ne. x.held q; owned = x.others; kept = λ q ne. x.kept q; droppable = λ q ne. x.droppable q }
