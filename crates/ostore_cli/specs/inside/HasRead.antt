-- What was read of a source so far.
use Rattle.std.specs.Prelude.{◌≡◌, ℕ, List, [], length, take, drop, Option, Some, None}

-- of the bytes that a source had first, all were read so far, and the others are left now
abbrev pub HasRead : Option (List ℕ) → Option (List ℕ) → List ℕ → Type 0
HasRead None now all = now ≡ None
HasRead (Some bytes) now all =
    (now ≡ Some (drop (length all) bytes)) × (all ≡ take (length all) bytes)

-- where the source tells, nothing is left
abbrev pub IsAtEnd : Option (List ℕ) → Type 0
IsAtEnd None = Unit {0}
IsAtEnd (Some bytes) = bytes ≡ []
