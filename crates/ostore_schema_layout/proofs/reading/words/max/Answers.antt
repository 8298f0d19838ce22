use Rattle.std.proofs.Common.{arith}
use Rattle.ostore_text_words.specs.Seen.{seen_line}
use Rattle.ostore_schema_layout.proofs.spelled.DeclaredWords.{max_taken}
use Rattle.ostore_schema_layout.proofs.reading.words.max.Goals as goal

pub overflow_cast-result : goal.overflow_cast-result
overflow_cast-result c =
    let bound = max_taken (seen_line c.args.line.now) c.args.i c.in_ok-max.max c.in_ok-max.ensures in
    omega (arith, bound.2)
