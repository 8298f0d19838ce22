use Rattle.std.proofs.Common.{◌≡◌, ◌++◌, ◌≤◌, replicate}
use Rattle.ostore_turns.specs.Schedules.{entry_clients}
use Rattle.ostore_turns.specs.inside.Entries.{KeepsLawful}
use Rattle.ostore_turns.proofs.schedule.push_turns.Given as goal

abbrev pub invariant-loop-left : goal.invariant-loop-left
invariant-loop-left l = record {
  low : l.left ≤ l.count;
  all : entry_clients l.turns ++ replicate l.left l.client.0 ≡ entry_clients l.initial.turns ++ replicate l.count l.client.0;
  lawful : KeepsLawful l.client.0 l.initial.turns l.turns;
}

abbrev pub decreases-loop-left : goal.decreases-loop-left
decreases-loop-left l = l.left
