use Rattle.std.proofs.Common.{◌≡◌, ℕ, ◌+◌, ◌<◌, List, length, drop, Option, Some, None, ap, arith}
use Rattle.std.specs.Prelude.{IfSome}
use Rattle.std.proofs.lemmas.List.{length-drop}
use Rattle.ostore_text_words.specs.Lines.{IsUtf8Fault}
use Rattle.ostore_job_text.proofs.reading.jobs.bad_byte.Goals as goal

within : (text bytes : List ℕ) (start : ℕ) (fault : Option ℕ) → bytes ≡ drop start text → IsUtf8Fault bytes fault → IfSome fault (λ at. start + at < length text)
within text bytes start None is told = tt
within text bytes start (Some at) is told =
    let size : length bytes ≡ length (drop start text) = ap length is in
    omega (arith, told.short, length-drop start text)

pub returns-clause-within : goal.returns-clause-within
returns-clause-within c = within c.args.text.now c.text_from.result.now c.args.start c.utf8_fault.result c.text_from.ensures c.utf8_fault.ensures.meaning
