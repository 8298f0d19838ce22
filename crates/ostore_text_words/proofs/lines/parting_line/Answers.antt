use Rattle.std.proofs.Common.{rules, tests}
use Rattle.std.proofs.lemmas.Iterator.Consumers.{YieldsList-from_first}
use Rattle.std.proofs.lemmas.Iterator.Search.{find_from_yields_List}
use Rattle.ostore_text_words.specs.Lines.{is_parting, line_bytes}
use Rattle.ostore_text_words.specs.inside.LineWalk.{seen_bytes, lines_left}
use Rattle.ostore_text_words.proofs.lines.parting_line.Goals as goal

pub returns : goal.returns
returns c = find_from_yields_List (is_parting c.args.word.now) c.find.new.self _ c.find.result c.find.ensures.ran (YieldsList-from_first seen_bytes lines_left {s = c.new.result} (line_bytes c.args.text.now) c.new.ensures) (λ x b q k. search (rules, tests))
