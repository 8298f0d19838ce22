-- How long a text of a job may be, and the numbers that it may name.
use Rattle.std.specs.Prelude.{ℕ}

-- the longest text that is read, in bytes
abbrev pub longest_text : ℕ
longest_text = 4194304

-- how often a transaction is tried, where nothing is said, and at most
abbrev pub default_tries : ℕ
default_tries = 16

abbrev pub most_tries : ℕ
most_tries = 1000

-- the pages of a cache, where nothing is said; at most it has those of the largest database
abbrev pub default_cache : ℕ
default_cache = 256

-- the frames of an address space, where nothing is said, and at most
abbrev pub default_frames : ℕ
default_frames = 65536

abbrev pub most_frames : ℕ
most_frames = 65536

-- how many turns an entry of `turns` has at most
abbrev pub most_turns : ℕ
most_turns = 1000000
