-- Words between two calls of the sequential server.
use Rattle.std.specs.Prelude.{◌≡◌, ℕ, List, Some, slice_get}
use Rattle.ostore_page_service.specs.Words.{fetcher}
use Rattle.ostore_page_service.specs.Exclusion.{Exclusive}
use Rattle.ostore_page_service.specs.declared.word.Word.{Word}

-- nobody is fetching the page's image
pub record IsQuiet (w : ℕ) : Type 0 where
  pub exclusive : Exclusive w
  pub idle : fetcher w ≡ 0

-- each word of the list is so
abbrev pub AreQuiet : List Word → Type 0
AreQuiet words = (p : ℕ) (w : Word) → slice_get words p ≡ Some w → IsQuiet w.0
