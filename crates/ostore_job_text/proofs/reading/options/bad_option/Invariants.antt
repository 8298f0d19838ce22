use Rattle.std.proofs.Common.{◌≡◌, [], take, drop}
use Rattle.ostore_job_text.specs.Drafted.{bad_option}
use Rattle.ostore_job_text.proofs.reading.options.bad_option.Given as goal

abbrev pub invariant-loop-i : goal.invariant-loop-i
invariant-loop-i l = bad_option (take l.i l.options) (drop l.i l.options) ≡ bad_option [] l.options
