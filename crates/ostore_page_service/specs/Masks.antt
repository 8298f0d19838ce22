-- What a mask makes of a word, by an exclusive or, an and, or an or.
use Rattle.std.specs.Prelude.{◌≡◌, ℕ, ◌^◌, ◌<◌, Bool}
use Rattle.std.specs.Int.Bits.{bit_xor, bit_and, bit_or}
use Rattle.ostore_page_service.specs.Words.{keep_of, EndsFetch, Disowns, Releases, GivesUp, Wants, MayEndFetch, MayDisown}

module _ (mask c : ℕ) where
  -- an exclusive or ends the fetch of the client c
  abbrev pub XorEndsFetch : Type 0
  XorEndsFetch = (w : ℕ) → MayEndFetch w c → keep_of w c ≡ 0 → EndsFetch w (bit_xor w mask) c

  -- an exclusive or ends its ownership
  abbrev pub XorDisowns : Type 0
  XorDisowns = (w : ℕ) → MayDisown w c → Disowns w (bit_xor w mask) c

  -- an and takes its `use` bit
  abbrev pub AndReleases : Type 0
  AndReleases = (w : ℕ) → w < 2 ^ 64 → Releases w (bit_and w mask) c

  -- an and takes its `keep` bit, and after a release the bit `wanted` too
  abbrev pub AndGivesUp : Bool → Type 0
  AndGivesUp released = (w : ℕ) → w < 2 ^ 64 → GivesUp w (bit_and w mask) c released

-- an or sets the bit `wanted`
abbrev pub OrWants : ℕ → Type 0
OrWants mask = (w : ℕ) → Wants w (bit_or w mask)
