use Rattle.std.proofs.Common.{sym, ◌∙◌, arith}
use Rattle.ostore_text_words.proofs.WordLaws.{count_taken}
use Rattle.ostore_job_text.proofs.reading.options.option_number.Goals as goal

pub overflow_cast-result : goal.overflow_cast-result
overflow_cast-result c =
    let bound = count_taken 1 _ _ c.in-Some.number (sym c.read_count.ensures ∙ c.in-Some.is) in
    omega (arith, bound.2, c.in_ok-most.ensures.within)
