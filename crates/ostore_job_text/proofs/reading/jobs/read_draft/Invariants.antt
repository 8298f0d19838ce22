use Rattle.std.proofs.Common.{◌≡◌, length}
use Rattle.ostore_job_text.specs.LinesSaid.{said_from}
use Rattle.ostore_job_text.specs.ParsedJob.{with_draft, drafted}
use Rattle.ostore_job_text.proofs.reading.jobs.read_draft.Given as goal

abbrev pub invariant-loop-alloc : goal.invariant-loop-alloc
invariant-loop-alloc l = with_draft l.draft (said_from l.end l.stand l.lines.lines) ≡ drafted l.end l.initial.lines.lines

abbrev pub decreases-loop-alloc : goal.decreases-loop-alloc
decreases-loop-alloc l = length l.lines.lines
