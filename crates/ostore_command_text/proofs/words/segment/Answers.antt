use Rattle.std.proofs.Common.{arith}
use Rattle.ostore_text_words.specs.Words.{count_at}
use Rattle.ostore_text_words.specs.Seen.{seen_line}
use Rattle.ostore_text_words.proofs.WordLaws.{count_taken}
use Rattle.ostore_text_words.proofs.LineWordLaws.{says_taken}
use Rattle.ostore_command_text.proofs.words.segment.Goals as goal

pub overflow_cast-result : goal.overflow_cast-result
overflow_cast-result c =
    let said = says_taken (count_at 1 255) (seen_line c.args.line.now) c.args.i c.in_ok-count.count c.in_ok-count.ensures in
    let bound = count_taken 1 255 said.0 c.in_ok-count.count said.2 in
    omega (arith, bound.2)
