-- What a disk's calls do to the bytes that it reads as, where it tells of them.
use Rattle.std.specs.Prelude.{◌≡◌, ℕ, ◌+◌, ◌-◌, ◌≤◌, List, ◌++◌, length, take, drop, min, max, Option, Some, None}

-- the bytes that are held, with others at a place
abbrev pub replaced : ℕ → List ℕ → List ℕ → List ℕ
replaced at bytes held = take at held ++ bytes ++ drop (at + length bytes) held

-- the bytes that are held have these at a place
abbrev pub StandsAt : ℕ → List ℕ → List ℕ → Type 0
StandsAt at bytes held = bytes ≡ take (length bytes) (drop at held)

-- after a write of n bytes that was cut short: any bytes in the range and past the old end, and the
-- others as they were
pub record IsTornRange (at n : ℕ) (old new : List ℕ) : Type 0 where
  pub before : take (min at (length old)) new ≡ take at old
  pub after : take (length old - (at + n)) (drop (at + n) new) ≡ drop (at + n) old
  pub no_shorter : length old ≤ length new

-- the same of a disk that may not tell, which grew no further than the range
abbrev pub IsTorn : ℕ → ℕ → Option (List ℕ) → Option (List ℕ) → Type 0
IsTorn at n None new = new ≡ None
IsTorn at n (Some old) None = ⊥
IsTorn at n (Some old) (Some new) =
    IsTornRange at n old new × (length new ≤ max (length old) (at + n))
