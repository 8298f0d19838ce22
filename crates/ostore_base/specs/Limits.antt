-- The limits of the design, as numbers. Definitions and clauses cite these; the code has constants of its own,
-- which are proved to be these where they are used.
use Rattle.std.specs.Prelude.{ℕ, ◌-◌, ◌^◌}

-- the length of the longest disk, in bytes
abbrev pub longest_disk : ℕ
longest_disk = 2 ^ 40 - 2 ^ 27

-- how many pages a database has at least and at most
abbrev pub least_pages : ℕ
least_pages = 11

abbrev pub most_pages : ℕ
most_pages = 16384

-- how many clients it serves at most
abbrev pub most_clients : ℕ
most_clients = 16

-- how many segments there are
abbrev pub most_segments : ℕ
most_segments = 255

-- how many roots there are at most
abbrev pub most_roots : ℕ
most_roots = 101

-- how many types a schema has at most: their codes are the numbers from 1 up to this one
abbrev pub most_types : ℕ
most_types = 64

-- how many members a type has at most
abbrev pub most_members : ℕ
most_members = 32

-- how many bytes a cell has at most
abbrev pub largest_cell : ℕ
largest_cell = 1000

-- how many bytes the text of a schema has at most
abbrev pub longest_schema : ℕ
longest_schema = 32764

-- how many bytes a text has at most that a member holds, or that is a key
abbrev pub longest_text : ℕ
longest_text = 40
