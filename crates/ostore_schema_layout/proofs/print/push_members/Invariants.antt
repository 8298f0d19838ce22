-- What is printed, with the lines of the members that are left, is the whole text.
use Rattle.std.proofs.Common.{◌≡◌, ◌++◌, drop, map}
use Rattle.ostore_text_words.specs.Lines.{text_of_lines}
use Rattle.ostore_schema_layout.specs.Spells.{member_words}
use Rattle.ostore_schema_layout.proofs.print.push_members.Given as goal

abbrev pub invariant-loop-member : goal.invariant-loop-member
invariant-loop-member l = l.out ++ text_of_lines (map (member_words l.schema) (drop l.member-index l.members)) ≡ l.initial.out ++ text_of_lines (map (member_words l.schema) l.members)
