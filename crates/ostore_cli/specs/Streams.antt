-- What was read of a source and what was written to a sink, where they tell.
use Rattle.std.specs.Prelude.{◌≡◌, ℕ, ◌≤◌, List, length, take, drop, Option, Some, None}
use Rattle.ostore_base.specs.Streams.{appended}

-- how many bytes of a source are read at most: one more than the longest text has
abbrev pub longest_read : ℕ
longest_read = 4194305

-- the source was read to its end, or up to the most that is read
abbrev pub IsWholeRead : Option (List ℕ) → Option (List ℕ) → List ℕ → Type 0
IsWholeRead None now all = now ≡ None
IsWholeRead (Some bytes) now all =
    (now ≡ Some (drop longest_read bytes)) × (all ≡ take longest_read bytes)

-- some front of the bytes was written
abbrev pub AppendsFront : Option (List ℕ) → Option (List ℕ) → List ℕ → Type 0
AppendsFront before now bytes =
    (n : ℕ) × (n ≤ length bytes) × (now ≡ appended before (take n bytes))
