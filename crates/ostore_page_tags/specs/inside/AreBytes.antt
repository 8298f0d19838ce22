-- Lists whose numbers are bytes.
use Rattle.std.specs.Prelude.{ℕ, ◌<◌, List, slice_index}

-- each number is below 256; behind the end 0 is read
pub record AreBytes (bytes : List ℕ) : Type 0 where
  pub each : (k : ℕ) → slice_index bytes k < 256
