-- Numbers in an image. All of them are little-endian and stand at a place, counted in bytes from 0.
use Rattle.std.specs.Prelude.{ℕ, ℤ, List, drop}
use Rattle.std.specs.Int.{w64, cast_signed, cast_unsigned}
use Rattle.byteorder.specs.Endian.{little_number, little_bytes}
use Rattle.ostore_base.specs.Disk.{replaced}

-- the number of n bytes at a place
abbrev pub number_at : ℕ → ℕ → List ℕ → ℕ
number_at n at bytes = little_number n (drop at bytes)

-- the image with a number of n bytes at a place, and its other bytes as they were
abbrev pub with_number : ℕ → ℕ → ℕ → List ℕ → List ℕ
with_number n at value bytes = replaced at (little_bytes n value) bytes

-- the int of 64 bits at a place
abbrev pub int_at : ℕ → List ℕ → ℤ
int_at at bytes = cast_signed w64 (number_at 8 at bytes)

-- the image with an int of 64 bits at a place, and its other bytes as they were
abbrev pub with_int : ℕ → ℤ → List ℕ → List ℕ
with_int at value bytes = with_number 8 at (cast_unsigned w64 value) bytes
