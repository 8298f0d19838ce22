-- Counts of faults. A count never falls, and stays at the greatest number of 64 bits.
use Rattle.std.specs.Prelude.{◌≡◌, ℕ, ◌+◌, ◌-◌, ◌^◌, ◌≤◌, min, Result, IsOk, IsErr}

-- a count after one more
abbrev pub one_more : ℕ → ℕ
one_more count = min (count + 1) (2 ^ 64 - 1)

-- the count rose, or stands at its end
abbrev pub Rose : ℕ → ℕ → Type 0
Rose before now = one_more before ≤ now

-- a call fails only where the count rose in it, and leaves the count where it succeeds
pub record HasCause {T E : Type 0} (before now : ℕ) (result : Result T E) : Type 0 where
  pub later : before ≤ now
  pub failed : IsErr result → Rose before now
  pub done : IsOk result → now ≡ before

-- a call that failed counts one fault more, and one that succeeded none
pub record CountsFault {T E : Type 0} (before now : ℕ) (result : Result T E) : Type 0 where
  pub failed : IsErr result → now ≡ one_more before
  pub done : IsOk result → now ≡ before
