-- Pages that come into view in steps of a holder of pages.
use Rattle.std.proofs.Common.{◌≡◌, ℕ, List, length, refl, sym, subst, arith, inl, inr}
use Rattle.std.specs.Prelude.{Result, Ok, Err, OnOk}
use Rattle.ostore_base.specs.declared.page.PageImage.{PageImage}
use Rattle.ostore_segments.specs.Holdings.{PagesHeld, Stands, Becomes, BringsOnly, BringsOnEach, Rests, BreaksOff, Sees, alone}

abbrev pub Sets : Type 1
Sets = List PageImage → ℕ → Type 0

-- ---- calls that were Ok

pub brings_nothing : {a : PagesHeld} {N : ℕ → Type 0} → BringsOnly a a N
brings_nothing = record { views = λ page seen. inl seen }

pub brings_weaker : {a b : PagesHeld} {M N : ℕ → Type 0} → ((page : ℕ) → M page → N page) → BringsOnly a b M → BringsOnly a b N
brings_weaker weaker one = record {
  views = λ page seen. elim (one.views page seen) [
    | inl before ↦ inl before
    | inr named ↦ inr (weaker page named)
  ];
}

pub brings_then : {a b c : PagesHeld} {N : ℕ → Type 0} → BringsOnly a b N → BringsOnly b c N → BringsOnly a c N
brings_then one two = record {
  views = λ page seen. elim (two.views page seen) [
    | inl before ↦ one.views page before
    | inr named ↦ inr named
  ];
}

-- on each list
pub on_each : {a b : PagesHeld} {M : ℕ → Type 0} {N : Sets} → ((list : List PageImage) (page : ℕ) → M page → N list page) → BringsOnly a b M → BringsOnEach a b N
on_each weaker one = record { each = λ begun list there. brings_weaker (weaker list) one }

pub brings_on : {a b : PagesHeld} {P : List PageImage → Type 0} {M : ℕ → Type 0} {N : Sets} → Stands b P → ((list : List PageImage) (page : ℕ) → P list → M page → N list page) → BringsOnly a b M → BringsOnEach a b N
brings_on stands are one = record { each = λ begun list there. brings_weaker (λ page named. are list page (stands.each begun list there) named) one }

pub each_weaker : {a b : PagesHeld} {M N : Sets} → ((list : List PageImage) (page : ℕ) → M list page → N list page) → BringsOnEach a b M → BringsOnEach a b N
each_weaker weaker one = record { each = λ begun list there. brings_weaker (weaker list) (one.each begun list there) }

-- a step and another one
pub each_then : {a b c : PagesHeld} {P : List PageImage → Type 0} {R : List PageImage → List PageImage → Type 0} {M N : Sets} → Stands b P → Becomes b c R → ((old new : List PageImage) (page : ℕ) → P old → R old new → M old page → N new page) → BringsOnEach a b M → BringsOnEach b c N
    → BringsOnEach a c N
each_then stands step kept one two = record {
  each = λ begun list there.
      let was = step.from begun list there in
      brings_then (brings_weaker (λ page named. kept was.0 list page (stands.each begun was.0 was.1) was.2 named) (one.each begun was.0 was.1)) (two.each begun list there);
}

pub each_before : {a b c : PagesHeld} {M : ℕ → Type 0} {N : Sets} → ((list : List PageImage) (page : ℕ) → M page → N list page) → BringsOnly a b M → BringsOnEach b c N → BringsOnEach a c N
each_before weaker one two = record { each = λ begun list there. brings_then (brings_weaker (weaker list) one) (two.each begun list there) }

-- a look
pub each_seen : {a b c : PagesHeld} {Q : List PageImage → Type 0} {N : Sets} → Becomes b c (Sees Q) → BringsOnEach a b N → BringsOnEach b c N → BringsOnEach a c N
each_seen {a} {b} {c} {Q} {N} step one two = record {
  each = λ begun list there.
      let was = step.from begun list there in
      brings_then (subst (λ (l : List PageImage). BringsOnly a b (N l)) (sym was.2.0) (one.each begun was.0 was.1)) (two.each begun list there);
}

-- ---- calls that were broken off, where S holds of the fault

pub rests_breaks : {S : Type 0} {a b : PagesHeld} {N : Sets} → (S → Rests a b) → S → BreaksOff a b N
rests_breaks rests stays =
    let it = rests stays in
    record {
      some = it.lists.some;
      views = it.lists.views;
      homes = it.lists.homes;
      from = λ begun new there. let was = it.lists.from begun new there in (was.0, was.1, record { views = λ page seen. inl (it.views page seen) });
    }

pub breaks_weaker : {S : Type 0} {a b : PagesHeld} {P : List PageImage → Type 0} {M N : Sets} → Stands a P → ((list : List PageImage) (page : ℕ) → P list → M list page → N list page) → (S → BreaksOff a b M) → S → BreaksOff a b N
breaks_weaker stands weaker breaks stays =
    let off = breaks stays in
    record {
      some = off.some;
      views = off.views;
      homes = off.homes;
      from = λ begun new there. let was = off.from begun new there in (was.0, was.1, brings_weaker (λ page named. weaker was.0 page (stands.each begun was.0 was.1) named) was.2);
    }

-- a step that was Ok, and then some that were broken off
pub breaks_later : {S : Type 0} {a b c : PagesHeld} {P : List PageImage → Type 0} {R : List PageImage → List PageImage → Type 0} {L M N : Sets} → Stands a P → Becomes a b R → BringsOnEach a b L
    → ((old middle : List PageImage) (page : ℕ) → P old → R old middle → L middle page → N old page) → ((old middle : List PageImage) (page : ℕ) → P old → R old middle → M middle page → N old page) → (S → BreaksOff b c M) → S → BreaksOff a c N
breaks_later stands step brings early_are late_are breaks stays =
    let off = breaks stays in
    record {
      some = off.some;
      views = λ page seen. off.views page (step.views page seen);
      homes = λ pointer stored at. off.homes pointer stored (step.homes pointer stored at);
      from = λ begun new there.
          let late = off.from begun new there in
          let was = step.from begun late.0 late.1 in
          let known = stands.each begun was.0 was.1 in (
            was.0,
            was.1,
            brings_then (brings_weaker (λ page named. early_are was.0 late.0 page known was.2 named) (brings.each begun late.0 late.1)) (brings_weaker (λ page named. late_are was.0 late.0 page known was.2 named) late.2),
          );
    }

-- some calls that were Ok, and one that left all as it was
pub breaks_at : {S : Type 0} {a b c : PagesHeld} {P : List PageImage → Type 0} {R : List PageImage → List PageImage → Type 0} {L N : Sets} → Stands a P → Becomes a b R → BringsOnEach a b L → ((old middle : List PageImage) (page : ℕ) → P old → R old middle → L middle page → N old page) → (S → Rests b c) → S
    → BreaksOff a c N
breaks_at stands step brings are rests = breaks_later {M = λ list page. ⊥} stands step brings are (λ old middle page known was none. absurd none) (rests_breaks rests)

pub breaks_at_once : {S : Type 0} {a b c : PagesHeld} {P : List PageImage → Type 0} {R : List PageImage → List PageImage → Type 0} {L : ℕ → Type 0} {N : Sets} → Stands a P → Becomes a b R → BringsOnly a b L → ((old middle : List PageImage) (page : ℕ) → P old → R old middle → L page → N old page) → (S → Rests b c) → S
    → BreaksOff a c N
breaks_at_once {L = L} stands step brings are rests = breaks_at {L = λ list. L} stands step (on_each (λ list page named. named) brings) are rests

-- pages that don't speak of a list
pub breaks_then : {S : Type 0} {a b c : PagesHeld} {R : List PageImage → List PageImage → Type 0} {N : ℕ → Type 0} → Becomes a b R → BringsOnly a b N → (S → BreaksOff b c (λ list. N)) → S → BreaksOff a c (λ list. N)
breaks_then step brings breaks stays =
    let off = breaks stays in
    record {
      some = off.some;
      views = λ page seen. off.views page (step.views page seen);
      homes = λ pointer stored at. off.homes pointer stored (step.homes pointer stored at);
      from = λ begun new there.
          let late = off.from begun new there in
          let was = step.from begun late.0 late.1 in
          (was.0, was.1, brings_then brings late.2);
    }

-- a look first
pub breaks_seen : {S : Type 0} {a b c : PagesHeld} {Q : List PageImage → Type 0} {N : Sets} → Becomes a b (Sees Q) → BringsOnEach a b N → (S → BreaksOff b c N) → S → BreaksOff a c N
breaks_seen {S} {a} {b} {c} {Q} {N} step brings breaks stays =
    let off = breaks stays in
    record {
      some = off.some;
      views = λ page seen. off.views page (step.views page seen);
      homes = λ pointer stored at. off.homes pointer stored (step.homes pointer stored at);
      from = λ begun new there.
          let late = off.from begun new there in
          let was = step.from begun late.0 late.1 in
          (was.0, was.1, subst (λ (l : List PageImage). BringsOnly a c (N l)) was.2.0 (brings_then (brings.each begun late.0 late.1) late.2));
    }

-- ---- a holder that stands for one list alone

pub alone_brings : {N : ℕ → Type 0} (old new : List PageImage) → length new ≡ length old → BringsOnly (alone old) (alone new) N
alone_brings old new long = record { views = λ page below. inl (omega arith) }

pub alone_rests : (list : List PageImage) → Rests (alone list) (alone list)
alone_rests list = record {
  lists = record {
    some = (list, list, refl);
    from = λ begun new there. (list, refl, there);
    views = λ page below. below;
    homes = λ pointer stored at. at;
  };
  views = λ page below. below;
  owns = λ page below. below;
}

-- after a fault that left it as it was
pub alone_stays : {S : Type 0} (list : List PageImage) → S → Rests (alone list) (alone list)
alone_stays list stays = alone_rests list

-- ---- answers

pub both_ok : {T E P Q R : Type 0} (r : Result T E) → (P → Q → R) → OnOk r P → OnOk r Q → OnOk r R
both_ok (Ok x) f p q = f p q
both_ok (Err e) f p q = p
