-- What is printed, with the lines of the commands that are left, is the whole text.
use Rattle.std.proofs.Common.{◌≡◌, ◌++◌, drop, map}
use Rattle.ostore_text_words.specs.Lines.{text_of_lines}
use Rattle.ostore_command_text.specs.CommandWords.{command_words}
use Rattle.ostore_job_print.proofs.print.push_commands.Given as goal

abbrev pub invariant-loop-command : goal.invariant-loop-command
invariant-loop-command l = l.out ++ text_of_lines (map command_words (drop l.command-index l.commands)) ≡ l.initial.out ++ text_of_lines (map command_words l.commands)
