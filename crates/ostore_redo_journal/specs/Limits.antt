-- The limits of a journal, as numbers.
use Rattle.std.specs.Prelude.{ℕ, ◌^◌}

-- the greatest commit number before a journal's first record
abbrev pub greatest_base : ℕ
greatest_base = 2 ^ 62

-- how many records a journal that only counts has at most
abbrev pub most_records : ℕ
most_records = 2 ^ 62
