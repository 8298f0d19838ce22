use Rattle.std.proofs.Common.{◌≡◌, ◌++◌, drop}
use Rattle.std.specs.List.{AllByRecursion}
use Rattle.ostore_job_text.specs.LawfulJob.{IsLawfulTurn}
use Rattle.ostore_turns.specs.Alone.{line_by_line}
use Rattle.ostore_turns.specs.Schedules.{entry_clients}
use Rattle.ostore_turns.proofs.schedule.one_after_the_other.Given as goal

abbrev pub invariant-loop-number : goal.invariant-loop-number
invariant-loop-number l = record {
  all : entry_clients l.turns ++ line_by_line l.number (drop l.number l.job.clients) ≡ line_by_line 0 l.job.clients;
  lawful : AllByRecursion (IsLawfulTurn l.job.clients) l.turns;
}
