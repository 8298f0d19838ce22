-- Words and lines as they lie in memory, seen as the definitions speak of them.
use Rattle.std.specs.Prelude.{List, map}
use Rattle.ostore_text_words.specs.declared.lines.Word.{Word}
use Rattle.ostore_text_words.specs.declared.lines.Line.{Line}
use Rattle.ostore_text_words.specs.Lines.{PlacedWord, PlacedLine}

abbrev pub seen_word : Word → PlacedWord
seen_word word = record { at = word.at; bytes = word.bytes.now }

abbrev pub seen_line : Line → PlacedLine
seen_line line = record { words = map seen_word line.words; end = line.end }

abbrev pub seen_lines : List Line → List PlacedLine
seen_lines lines = map seen_line lines
