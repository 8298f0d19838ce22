use Rattle.std.proofs.Common.{arith, rules}
use Rattle.ostore_try_input.proofs.InputSaid.{said}
use Rattle.ostore_try_input.proofs.reading.input.read_parts.Goals as goal

pub returns-clause-read : goal.returns-clause-read
returns-clause-read c =
    said c.args.text.now c.parts_of-start.result.0.now c.parts_of-start.result.1 c.in-Ok.schema c.in-Ok-read_job_from.job c.parts_of-start.ensures.schema c.parts_of-start.ensures.job
    (omega (arith, c.if-text-gt-LONGEST_TEXT.false)) c.in-Ok.ensures.read c.in-Ok-read_job_from.ensures (search rules) (search rules)
