-- The numbers that a command may name.
use Rattle.std.specs.Prelude.{ℕ}

-- the greatest index of a list
abbrev pub greatest_index : ℕ
greatest_index = 4294967295
