-- All commands are of those that run where the ones that are left are.
use Rattle.std.proofs.Common.{drop}
use Rattle.std.specs.Prelude.{◌↔◌}
use Rattle.std.specs.List.{AllByRecursion}
use Rattle.ostore_object_ops.specs.Suits.{IsBuilt}
use Rattle.ostore_object_ops.proofs.suits.are_built.Given as goal

abbrev pub invariant-loop-command : goal.invariant-loop-command
invariant-loop-command l = AllByRecursion IsBuilt (drop l.command-index l.commands) ↔ AllByRecursion IsBuilt l.commands
