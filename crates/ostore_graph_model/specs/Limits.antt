-- Limits of the design that are of no layer below.
use Rattle.std.specs.Prelude.{ℕ}
use Rattle.ostore_schema_layout.specs.Limits.{longest_text}

-- how many bytes a text key has at most: as many as a member's text
abbrev pub longest_key : ℕ
longest_key = longest_text

-- how many steps the path of an index has at most
abbrev pub most_steps : ℕ
most_steps = 3
