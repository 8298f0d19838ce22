-- Pages that hold one number each, and entries that add to one of them.
use Rattle.std.specs.Prelude.{◌≡◌, ◌≢◌, ℕ, ◌+◌, ◌%◌, List, Option, Some, None, length, slice_get, slice_index}
use Rattle.ostore_base.specs.declared.page.PageImage.{PageImage}
use Rattle.ostore_page_service.specs.History.{Meaning}
use Rattle.ostore_service_callers.specs.declared.sums.Addition.{Addition}

-- the number that an image holds is its first byte
abbrev pub number_in : Option PageImage → ℕ
number_in None = 0
number_in (Some image) = slice_index image.bytes 0

abbrev pub number_at : List PageImage → ℕ → ℕ
number_at xs p = number_in (slice_get xs p)

-- the later list has the sum at the entry's page, and nothing else changed
pub record IsSum (pages : ℕ) (e : Addition) (xs ys : List PageImage) : Type 0 where
  pub long : length ys ≡ pages
  pub sum : number_at ys e.page ≡ (number_at xs e.page + e.amount) % 256
  pub others : (q : ℕ) → q ≢ e.page → slice_get ys q ≡ slice_get xs q

-- a script is a number of pages, and an entry's reply is the number that it saw
abbrev pub sums_meaning : Meaning Addition ℕ
sums_meaning = record {
  client = λ e. e.client;
  ordinal = λ e. e.ordinal;
  updates = λ e. e.updates;
  named = λ s e. Unit {0};
  valid = λ s xs. length xs ≡ s;
  right = λ s e xs. number_at xs e.page ≡ e.seen;
  next = λ s e xs ys. IsSum s e xs ys;
}
