-- Pages that are owned after steps of a holder of pages.
use Rattle.std.proofs.Common.{◌≡◌, ℕ, List, length, sym, subst, arith, inl, inr}
use Rattle.ostore_base.specs.declared.page.PageImage.{PageImage}
use Rattle.ostore_segments.specs.Holdings.{PagesHeld, Stands, Becomes, OwnsOnly, OwnsOnEach, Sees, alone}

pub owns_nothing : {a : PagesHeld} {N : ℕ → Type 0} → OwnsOnly a a N
owns_nothing = record { owns = λ page owned. inl owned }

pub owns_weaker : {a b : PagesHeld} {M N : ℕ → Type 0} → ((page : ℕ) → M page → N page) → OwnsOnly a b M → OwnsOnly a b N
owns_weaker weaker one = record {
  owns = λ page owned. elim (one.owns page owned) [
    | inl before ↦ inl before
    | inr named ↦ inr (weaker page named)
  ];
}

pub owns_then : {a b c : PagesHeld} {N : ℕ → Type 0} → OwnsOnly a b N → OwnsOnly b c N → OwnsOnly a c N
owns_then one two = record {
  owns = λ page owned. elim (two.owns page owned) [
    | inl before ↦ one.owns page before
    | inr named ↦ inr named
  ];
}

-- a look owns no page
pub looks_own : {a b : PagesHeld} {N : ℕ → Type 0} → OwnsOnly a b (λ named. ⊥) → OwnsOnly a b N
looks_own one = owns_weaker (λ page none. absurd none) one

pub owns_later : {a b c : PagesHeld} {N : ℕ → Type 0} → OwnsOnly a b (λ named. ⊥) → OwnsOnly b c N → OwnsOnly a c N
owns_later one two = owns_then (looks_own one) two

-- on each list
pub each_owns_none : {a b : PagesHeld} {N : List PageImage → ℕ → Type 0} → OwnsOnly a b (λ named. ⊥) → OwnsOnEach a b N
each_owns_none one = record { each = λ begun list there. looks_own one }

pub each_owns : {a b : PagesHeld} {M : ℕ → Type 0} {N : List PageImage → ℕ → Type 0} → ((list : List PageImage) (page : ℕ) → M page → N list page) → OwnsOnly a b M → OwnsOnEach a b N
each_owns weaker one = record { each = λ begun list there. owns_weaker (weaker list) one }

pub owns_on : {a b : PagesHeld} {P : List PageImage → Type 0} {M : ℕ → Type 0} {N : List PageImage → ℕ → Type 0} → Stands b P → ((list : List PageImage) (page : ℕ) → P list → M page → N list page) → OwnsOnly a b M → OwnsOnEach a b N
owns_on stands are one = record { each = λ begun list there. owns_weaker (λ page named. are list page (stands.each begun list there) named) one }

pub each_owns_weaker : {a b : PagesHeld} {M N : List PageImage → ℕ → Type 0} → ((list : List PageImage) (page : ℕ) → M list page → N list page) → OwnsOnEach a b M → OwnsOnEach a b N
each_owns_weaker weaker one = record { each = λ begun list there. owns_weaker (weaker list) (one.each begun list there) }

-- a step and another one
pub each_owns_then : {a b c : PagesHeld} {P : List PageImage → Type 0} {R : List PageImage → List PageImage → Type 0} {M N : List PageImage → ℕ → Type 0} → Stands b P → Becomes b c R → ((old new : List PageImage) (page : ℕ) → P old → R old new → M old page → N new page) → OwnsOnEach a b M
    → OwnsOnEach b c N → OwnsOnEach a c N
each_owns_then stands step kept one two = record {
  each = λ begun list there.
      let was = step.from begun list there in
      owns_then (owns_weaker (λ page named. kept was.0 list page (stands.each begun was.0 was.1) was.2 named) (one.each begun was.0 was.1)) (two.each begun list there);
}

-- looks, and then a step
pub each_owns_later : {a b c : PagesHeld} {N : List PageImage → ℕ → Type 0} → OwnsOnly a b (λ named. ⊥) → OwnsOnEach b c N → OwnsOnEach a c N
each_owns_later one two = record { each = λ begun list there. owns_later one (two.each begun list there) }

-- a step, and then looks
pub each_owns_looked : {a b c : PagesHeld} {Q : List PageImage → Type 0} {N : List PageImage → ℕ → Type 0} → Becomes b c (Sees Q) → OwnsOnEach a b N → OwnsOnly b c (λ named. ⊥) → OwnsOnEach a c N
each_owns_looked {a} {b} {c} {Q} {N} step one two = record {
  each = λ begun list there.
      let was = step.from begun list there in
      owns_then (subst (λ (l : List PageImage). OwnsOnly a b (N l)) (sym was.2.0) (one.each begun was.0 was.1)) (looks_own two);
}

-- a holder that stands for one list alone
pub alone_owns : {N : ℕ → Type 0} (old new : List PageImage) → length new ≡ length old → OwnsOnly (alone old) (alone new) N
alone_owns old new long = record { owns = λ page below. inl (omega arith) }
