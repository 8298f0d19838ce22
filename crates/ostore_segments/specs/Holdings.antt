-- What a holder of pages stands for. It knows only the pages that it has looked at, so it may stand for several
-- lists of pages: for each pair of the list with which it began and the one that it has made of it.
use Rattle.std.specs.Prelude.{◌≡◌, ◌⊎◌, ℕ, ◌<◌, Bool, List, length, Option, Some}
use Rattle.std.specs.Borrow.{GName}
use Rattle.ostore_base.specs.declared.page.PageImage.{PageImage}

-- what is told of a holder, and never changes
pub record PagesTold : Type 0 where
  -- the size of a cell of each code, where it is told
  pub sizes : ℕ → Option ℕ
  -- where the pointers are in a cell of each code
  pub pointers : ℕ → List ℕ
  -- whether pages may be changed
  pub may_edit : Bool
  -- the borrows that stand behind the holder, by their ghost names
  pub behind : List GName

-- what a holder has at one moment
pub record PagesHeld : Type 1 where
  -- it may have begun with the one list, and have made the other of it
  pub may_be : List PageImage → List PageImage → Type 0
  -- a page can be looked at
  pub in_view : ℕ → Type 0
  -- a page was claimed for writing
  pub owned : ℕ → Type 0
  -- the stored pointer for a resident one, where it leads to a page
  pub home : ℕ → Option ℕ

-- the holder may stand for some list, and each list for which it may stand is so
pub record Stands (holding : PagesHeld) (P : List PageImage → Type 0) : Type 0 where
  pub some : (begun : List PageImage) × (list : List PageImage) × holding.may_be begun list
  pub each : (begun list : List PageImage) → holding.may_be begun list → P list

-- resident pointers lead where they led; more of them may lead to a page
abbrev pub KeepsHomes : (ℕ → Option ℕ) → (ℕ → Option ℕ) → Type 0
KeepsHomes old new = (pointer stored : ℕ) → old pointer ≡ Some stored → new pointer ≡ Some stored

-- The holder may still stand for some list, and each such list has come so from one for which it might stand
-- before, both from one list at the beginning. Pages that could be looked at still can, and resident pointers
-- lead where they led.
pub record Becomes (before after : PagesHeld) (R : List PageImage → List PageImage → Type 0)
    : Type 0 where
  pub some : (begun : List PageImage) × (list : List PageImage) × after.may_be begun list
  pub from : (begun new : List PageImage) → after.may_be begun new
      → (old : List PageImage) × before.may_be begun old × R old new
  pub views : (page : ℕ) → before.in_view page → after.in_view page
  pub homes : KeepsHomes before.home after.home

-- a holder that stands for one list alone, of which every page is in view and owned, and whose pointers are stored ones
abbrev pub alone : List PageImage → PagesHeld
alone pages = record {
  may_be = λ begun list. list ≡ pages;
  in_view = λ page. page < length pages;
  owned = λ page. page < length pages;
  home = λ pointer. Some pointer;
}

-- the list is the same, and is so
abbrev pub Sees : (List PageImage → Type 0) → List PageImage → List PageImage → Type 0
Sees P old new = (new ≡ old) × P old

-- ---- pages that come into view, and pages that come to be owned

-- each page that is in view afterwards was so before, or is one of these
pub record BringsOnly (before after : PagesHeld) (named : ℕ → Type 0) : Type 0 where
  pub views : (page : ℕ) → after.in_view page → before.in_view page ⊎ named page

-- each page that is in view afterwards was so before, or is one of these on each list for which the holder may then stand
pub record BringsOnEach (before after : PagesHeld) (named : List PageImage → ℕ → Type 0) : Type 0 where
  pub each : (begun list : List PageImage) → after.may_be begun list → BringsOnly before after (named list)

-- each page that is owned afterwards was so before, or is one of these
pub record OwnsOnly (before after : PagesHeld) (named : ℕ → Type 0) : Type 0 where
  pub owns : (page : ℕ) → after.owned page → before.owned page ⊎ named page

-- each page that is owned afterwards was so before, or is one of these on each list for which the holder may then stand
pub record OwnsOnEach (before after : PagesHeld) (named : List PageImage → ℕ → Type 0) : Type 0 where
  pub each : (begun list : List PageImage) → after.may_be begun list → OwnsOnly before after (named list)

-- the holder stands for the lists for which it stood, no page came into view, and no further one is owned
pub record Rests (before after : PagesHeld) : Type 0 where
  pub lists : Becomes before after (λ old new. new ≡ old)
  pub views : (page : ℕ) → after.in_view page → before.in_view page
  pub owns : (page : ℕ) → after.owned page → before.owned page

-- Calls were broken off. Each list for which the holder may then stand has come from one for which it might stand before,
-- and on that one the pages that came into view are these.
abbrev pub BreaksOff : PagesHeld → PagesHeld → (List PageImage → ℕ → Type 0) → Type 0
BreaksOff before after named = Becomes before after (λ old new. BringsOnly before after (named old))
