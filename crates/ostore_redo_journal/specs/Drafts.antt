-- What a record says.
use Rattle.std.specs.Prelude.{ℕ, ◌<◌, List, All, AllPairs}
use Rattle.ostore_base.specs.declared.numbers.PageNo.{PageNo}
use Rattle.ostore_base.specs.declared.page.PageImage.{PageImage}

-- pages with the images that are written to them
abbrev pub Writes : Type 0
Writes = List (PageNo × PageImage)

-- whose commit it is, for how many pages there is room, and what the commit writes
pub record Draft : Type 0 where
  pub client : ℕ
  pub ordinal : ℕ
  pub room : ℕ
  pub pages : Writes

-- each page is above those before it
abbrev pub Ascends : Writes → Type 0
Ascends = AllPairs (λ (earlier later : PageNo × PageImage). earlier.0.0 < later.0.0)

-- the page, or the count of pages, is above all of them
abbrev pub IsAbove : Writes → ℕ → Type 0
IsAbove writes page = All (λ (write : PageNo × PageImage). write.0.0 < page) writes
