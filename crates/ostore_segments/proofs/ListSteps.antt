-- How steps of a holder of pages are joined.
use Rattle.std.proofs.Common.{◌≡◌, List, length, refl, sym, ap, subst, ◌∙◌, arith}
use Rattle.ostore_base.specs.declared.page.PageImage.{PageImage}
use Rattle.ostore_segments.specs.Holdings.{PagesHeld, Stands, Becomes, Sees, alone}

-- one step and then another
pub record Then (R S : List PageImage → List PageImage → Type 0) (old new : List PageImage) : Type 0 where
  pub middle : List PageImage
  pub first : R old middle
  pub second : S middle new

pub Becomes-then : {a b c : PagesHeld} {R S : List PageImage → List PageImage → Type 0} → Becomes a b R → Becomes b c S → Becomes a c (Then R S)
Becomes-then one two = record {
  some = two.some;
  views = λ page seen. two.views page (one.views page seen);
  homes = λ pointer stored at. two.homes pointer stored (one.homes pointer stored at);
  from = λ origin new there.
      let late = two.from origin new there in
      let early = one.from origin late.0 late.1 in
      (early.0, early.1, record { middle = late.0; first = early.2; second = late.2 });
}

pub Becomes-weaker : {a b : PagesHeld} {R S : List PageImage → List PageImage → Type 0} → ((old new : List PageImage) → (origin : List PageImage) × a.may_be origin old → R old new → S old new) → Becomes a b R → Becomes a b S
Becomes-weaker weaker one = record {
  some = one.some;
  views = one.views;
  homes = one.homes;
  from = λ origin new there. let early = one.from origin new there in (early.0, early.1, weaker early.0 new (origin, early.1) early.2);
}

pub Becomes-stands : {a b : PagesHeld} {P Q : List PageImage → Type 0} {R : List PageImage → List PageImage → Type 0} → Stands a P → ((old new : List PageImage) → P old → R old new → Q new) → Becomes a b R → Stands b Q
Becomes-stands stands more one = record {
  some = one.some;
  each = λ origin new there. let early = one.from origin new there in more early.0 new (stands.each origin early.0 early.1) early.2;
}

pub Stands-weaker : {a : PagesHeld} {P Q : List PageImage → Type 0} → ((list : List PageImage) → P list → Q list) → Stands a P → Stands a Q
Stands-weaker weaker stands = record { some = stands.some; each = λ origin list there. weaker list (stands.each origin list there) }

-- two things that are known
pub Stands-both : {a : PagesHeld} {P Q : List PageImage → Type 0} → Stands a P → Stands a Q → Stands a (λ list. P list × Q list)
Stands-both one two = record { some = one.some; each = λ origin list there. (one.each origin list there, two.each origin list there) }

-- what a look at a page shows of each list that is left
pub Becomes-sees : {a b : PagesHeld} {P Q : List PageImage → Type 0} → Stands a P → ((list : List PageImage) → P list → (origin : List PageImage) × b.may_be origin list → Q list) → Becomes a b (λ old new. new ≡ old) → Becomes a b (Sees Q)
Becomes-sees {a} {b} stands shows one = record {
  some = one.some;
  views = one.views;
  homes = one.homes;
  from = λ origin new there.
      let early = one.from origin new there in
      (early.0, early.1, (early.2, shows early.0 (stands.each origin early.0 early.1) (origin, subst (b.may_be origin) early.2 there)));
}

-- two looks
pub Becomes-look : {a b c : PagesHeld} {P Q : List PageImage → Type 0} → Becomes a b (Sees P) → Becomes b c (Sees Q) → Becomes a c (Sees (λ list. P list × Q list))
Becomes-look {a} {b} {c} {P} {Q} one two = record {
  some = two.some;
  views = λ page seen. two.views page (one.views page seen);
  homes = λ pointer stored at. two.homes pointer stored (one.homes pointer stored at);
  from = λ origin new there.
      let late = two.from origin new there in
      let early = one.from origin late.0 late.1 in
      (early.0, early.1, (late.2.0 ∙ early.2.0, (early.2.1, subst Q early.2.0 late.2.1)));
}

-- what a look shows stands with what was known
pub Stands-seen : {a b : PagesHeld} {P Q : List PageImage → Type 0} → Stands a P → Becomes a b (Sees Q) → Stands b (λ list. P list × Q list)
Stands-seen {a} {b} {P} {Q} stands one = record {
  some = one.some;
  each = λ origin new there.
      let early = one.from origin new there in
      subst (λ list. P list × Q list) (sym early.2.0) (stands.each origin early.0 early.1, early.2.1);
}

-- a look and then a change
pub Becomes-changed : {a b c : PagesHeld} {P Q : List PageImage → Type 0} {S T : List PageImage → List PageImage → Type 0}
    → Stands a P → Becomes a b (Sees Q) → ((old new : List PageImage) → P old → Q old → S old new → T old new) → Becomes b c S → Becomes a c T
Becomes-changed {a} {b} {c} {P} {Q} {S} {T} stands one change two = record {
  some = two.some;
  views = λ page seen. two.views page (one.views page seen);
  homes = λ pointer stored at. two.homes pointer stored (one.homes pointer stored at);
  from = λ origin new there.
      let late = two.from origin new there in
      let early = one.from origin late.0 late.1 in
      (early.0, early.1, change early.0 new (stands.each origin early.0 early.1) early.2.1 (subst (λ list. S list new) early.2.0 late.2));
}

-- what holds of every list, where it doesn't speak of the list, holds
pub Stands-now : {a : PagesHeld} {P : List PageImage → Type 0} {Q : Type 0} → ((list : List PageImage) → P list → Q) → Stands a P → Q
Stands-now shows stands = shows stands.some.1 (stands.each stands.some.0 stands.some.1 stands.some.2)

-- two edits
pub Becomes-edit : {a b c : PagesHeld} {E F : List PageImage → List PageImage} → Becomes a b (λ old new. new ≡ E old) → Becomes b c (λ old new. new ≡ F old) → Becomes a c (λ old new. new ≡ F (E old))
Becomes-edit {a} {b} {c} {E} {F} one two = record {
  some = two.some;
  views = λ page seen. two.views page (one.views page seen);
  homes = λ pointer stored at. two.homes pointer stored (one.homes pointer stored at);
  from = λ origin new there.
      let late = two.from origin new there in
      let early = one.from origin late.0 late.1 in
      (early.0, early.1, late.2 ∙ ap F early.2);
}

-- what was known stands of the list that was made of it
pub Stands-edited : {a b : PagesHeld} {P Q : List PageImage → Type 0} {E : List PageImage → List PageImage} → Stands a P → ((list : List PageImage) → P list → Q (E list)) → Becomes a b (λ old new. new ≡ E old) → Stands b Q
Stands-edited {a} {b} {P} {Q} {E} stands more one = record {
  some = one.some;
  each = λ origin new there. let early = one.from origin new there in subst Q (sym early.2) (more early.0 (stands.each origin early.0 early.1));
}

pub Becomes-known : {a b : PagesHeld} {P : List PageImage → Type 0} {R S : List PageImage → List PageImage → Type 0} → Stands a P → ((old new : List PageImage) → P old → R old new → S old new) → Becomes a b R → Becomes a b S
Becomes-known stands more one = record {
  some = one.some;
  views = one.views;
  homes = one.homes;
  from = λ origin new there. let early = one.from origin new there in (early.0, early.1, more early.0 new (stands.each origin early.0 early.1) early.2);
}

-- a step and then an edit
pub Stands-after : {a b c : PagesHeld} {P Q : List PageImage → Type 0} {R : List PageImage → List PageImage → Type 0} {E : List PageImage → List PageImage}
    → Stands a P → ((old middle : List PageImage) → P old → R old middle → Q (E middle)) → Becomes a b R → Becomes b c (λ old new. new ≡ E old) → Stands c Q
Stands-after {a} {b} {c} {P} {Q} {R} {E} stands more one two = record {
  some = two.some;
  each = λ origin new there.
      let late = two.from origin new there in
      let early = one.from origin late.0 late.1 in
      subst Q (sym late.2) (more early.0 late.0 (stands.each origin early.0 early.1) early.2);
}

pub Becomes-after : {a b c : PagesHeld} {P : List PageImage → Type 0} {R S : List PageImage → List PageImage → Type 0} {E : List PageImage → List PageImage}
    → Stands a P → ((old middle : List PageImage) → P old → R old middle → S old (E middle)) → Becomes a b R → Becomes b c (λ old new. new ≡ E old) → Becomes a c S
Becomes-after {a} {b} {c} {P} {R} {S} {E} stands more one two = record {
  some = two.some;
  views = λ page seen. two.views page (one.views page seen);
  homes = λ pointer stored at. two.homes pointer stored (one.homes pointer stored at);
  from = λ origin new there.
      let late = two.from origin new there in
      let early = one.from origin late.0 late.1 in
      (early.0, early.1, subst (S early.0) (sym late.2) (more early.0 late.0 (stands.each origin early.0 early.1) early.2));
}

-- a look first
pub Becomes-seen : {a b c : PagesHeld} {Q : List PageImage → Type 0} {S : List PageImage → List PageImage → Type 0} → Becomes a b (Sees Q) → Becomes b c S → Becomes a c S
Becomes-seen {a} {b} {c} {Q} {S} one two = record {
  some = two.some;
  views = λ page seen. two.views page (one.views page seen);
  homes = λ pointer stored at. two.homes pointer stored (one.homes pointer stored at);
  from = λ origin new there.
      let late = two.from origin new there in
      let early = one.from origin late.0 late.1 in
      (early.0, early.1, subst (λ list. S list new) early.2.0 late.2);
}

-- what is known and what a look shows, together
pub Becomes-shows : {a b : PagesHeld} {P Q T : List PageImage → Type 0} → Stands a P → ((list : List PageImage) → P list → Q list → T list) → Becomes a b (Sees Q) → Becomes a b (Sees T)
Becomes-shows stands more one = record {
  some = one.some;
  views = one.views;
  homes = one.homes;
  from = λ origin new there. let early = one.from origin new there in (early.0, early.1, (early.2.0, more early.0 (stands.each origin early.0 early.1) early.2.1));
}

-- a holder that stands for one list alone
pub Becomes-alone : {R : List PageImage → List PageImage → Type 0} (old new : List PageImage) → Becomes (alone old) (alone new) R → R old new
Becomes-alone {R} old new one = let early = one.from new new refl in subst (λ list. R list new) early.1 early.2

pub alone_becomes : {R : List PageImage → List PageImage → Type 0} (old new : List PageImage) → length new ≡ length old → R old new → Becomes (alone old) (alone new) R
alone_becomes {R} old new long is = record {
  some = (new, new, refl);
  from = λ begun list there. (old, refl, subst (R old) (sym there) is);
  views = λ page below. omega arith;
  homes = λ pointer stored at. at;
}

pub alone_stands : {P : List PageImage → Type 0} (list : List PageImage) → Stands (alone list) P → P list
alone_stands list stands = stands.each list list refl

pub stands_alone : {P : List PageImage → Type 0} (list : List PageImage) → P list → Stands (alone list) P
stands_alone {P} list is = record { some = (list, list, refl); each = λ begun other same. subst P (sym same) is }
