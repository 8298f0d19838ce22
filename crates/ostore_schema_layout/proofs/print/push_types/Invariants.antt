-- What is printed, with the lines of the types that are left, is the whole text.
use Rattle.std.proofs.Common.{◌≡◌, ◌++◌, drop}
use Rattle.std.specs.List.{flat_map}
use Rattle.ostore_text_words.specs.Lines.{text_of_lines}
use Rattle.ostore_schema_layout.specs.Spells.{type_lines}
use Rattle.ostore_schema_layout.proofs.print.push_types.Given as goal

abbrev pub invariant-loop-ty : goal.invariant-loop-ty
invariant-loop-ty l = l.out ++ text_of_lines (flat_map (type_lines l.schema) (drop l.ty-index l.types)) ≡ l.initial.out ++ text_of_lines (flat_map (type_lines l.schema) l.types)
