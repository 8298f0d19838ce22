-- Bytes that come and go, where a source or a sink tells of them.
use Rattle.std.specs.Prelude.{◌≡◌, ℕ, ◌<◌, ◌≤◌, List, [], ◌++◌, length, take, drop, Option, Some, None}

-- what is left once n bytes were taken from the front
abbrev pub without : Option (List ℕ) → ℕ → Option (List ℕ)
without None n = None
without (Some bytes) n = Some (drop n bytes)

-- what was written, with these bytes at its end
abbrev pub appended : Option (List ℕ) → List ℕ → Option (List ℕ)
appended None bytes = None
appended (Some held) bytes = Some (held ++ bytes)

-- of the bytes that were left, the first n stand at the front of the buffer, and none were left
-- where n is 0 and the buffer has room
pub record GivesFront (bytes buffer : List ℕ) (n : ℕ) : Type 0 where
  pub within : n ≤ length bytes
  pub front : take n buffer ≡ take n bytes
  pub end : n ≡ 0 → 0 < length buffer → bytes ≡ []
