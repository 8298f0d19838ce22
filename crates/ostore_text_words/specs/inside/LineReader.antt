-- A reader of lines, by the list of those that are left, the next one first.
use Rattle.std.specs.Prelude.{List, [], ◌∷◌, Option, Some, None}
use Rattle.ostore_text_words.specs.declared.lines.Line.{Line}
use Rattle.ostore_text_words.specs.declared.lines.walk.LineWalk.{LineWalk}
use Rattle.ostore_text_words.specs.Lines.{PlacedLine, worded}
use Rattle.ostore_text_words.specs.Seen.{seen_line}
use Rattle.ostore_text_words.specs.inside.LineWalk.{lines_left}

-- the next line, and those behind it; where there is no next line, there is none behind it
abbrev pub lines_ahead : Option Line → LineWalk → List PlacedLine
lines_ahead None walk = []
lines_ahead (Some line) walk = seen_line line ∷ worded (lines_left walk)
