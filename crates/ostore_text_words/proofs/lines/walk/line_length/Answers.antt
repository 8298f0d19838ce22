use Rattle.std.proofs.Common.{eqb}
use Rattle.ostore_text_words.proofs.WordPlaces.{place_or_length}
use Rattle.ostore_text_words.proofs.lines.walk.line_length.Goals as goal

pub returns-clause-length : goal.returns-clause-length
returns-clause-length c = place_or_length (λ b. eqb b 10) c.args.bytes.now c.newline_of.result c.unwrap_or.result c.newline_of.ensures c.unwrap_or.ensures
