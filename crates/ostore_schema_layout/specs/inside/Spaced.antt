-- The parts of a line that is printed.
use Rattle.std.specs.Prelude.{ℕ, List, ◌∷◌, map}
use Rattle.std.specs.List.{flat_map}
use Rattle.ostore_text_words.specs.Lines.{text_of_lines}
use Rattle.ostore_schema_layout.specs.declared.schema.Schema.{Schema}
use Rattle.ostore_schema_layout.specs.declared.schema.TypeDef.{TypeDef}
use Rattle.ostore_schema_layout.specs.declared.schema.MemberDef.{MemberDef}
use Rattle.ostore_schema_layout.specs.Spells.{type_lines, member_words}

-- words, each behind a space
abbrev pub spaced : List (List ℕ) → List ℕ
spaced words = flat_map (λ word. 32 ∷ word) words

-- the lines of types, and of members, of a schema
abbrev pub types_text : Schema → List TypeDef → List ℕ
types_text schema types = text_of_lines (flat_map (type_lines schema) types)

abbrev pub members_text : Schema → List MemberDef → List ℕ
members_text schema members = text_of_lines (map (member_words schema) members)
