use Rattle.std.proofs.Common.{sym, arith}
use Rattle.ostore_text_words.proofs.WordLaws.{count_taken}
use Rattle.ostore_text_words.proofs.names.read_name.Goals as goal

pub overflow_cast-result : goal.overflow_cast-result
overflow_cast-result c =
    let bound = count_taken 1 255 c.in_ok-segment.segment.now c.in_ok-segment-2.segment (sym c.in_ok-segment-2.ensures) in
    omega (arith, bound.2)

pub overflow_cast-result-2 : goal.overflow_cast-result-2
overflow_cast-result-2 c =
    let bound = count_taken 1 4294967295 c.in_ok-segment.serial.now c.in_ok-serial.serial (sym c.in_ok-serial.ensures) in
    omega (arith, bound.2)
