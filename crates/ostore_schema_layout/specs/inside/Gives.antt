-- What the readers of types leave: what the lines before them declare is what they read, and what the lines
-- that are left declare.
use Rattle.std.specs.Prelude.{◌≡◌, ℕ, ◌<◌, ◌≤◌, Bool, false, not, List, [], ◌∷◌, length, Result, Ok, Err}
use Rattle.std.specs.List.{AllByRecursion}
use Rattle.ostore_text_words.specs.declared.fault.TextFault.{TextFault}
use Rattle.ostore_text_words.specs.Gives.{Fails}
use Rattle.ostore_text_words.specs.Lines.{PlacedLine, LinesAhead}
use Rattle.ostore_text_words.specs.LineWords.{◌>>=◌}
use Rattle.ostore_schema_layout.specs.declared.declarations.TypeDeclaration.{TypeDeclaration}
use Rattle.ostore_schema_layout.specs.declared.declarations.MemberDeclaration.{MemberDeclaration}
use Rattle.ostore_schema_layout.specs.Limits.{most_types, most_members}
use Rattle.ostore_schema_layout.specs.DeclaredBy.{is_type_line, declared_behind, declared_by}

-- a line is left, and it is no type's
abbrev pub has_member : List PlacedLine → Bool
has_member [] = false
has_member (line ∷ lines) = not (is_type_line line)

-- members that stand before further types
abbrev pub before_types : List MemberDeclaration → Result (List TypeDeclaration) ℕ → Result (List MemberDeclaration × List TypeDeclaration) ℕ
before_types members later = later >>= λ types. Ok (members, types)

-- the members up to the next type's line
abbrev pub GivesMembers : LinesAhead → LinesAhead → Result (List MemberDeclaration) TextFault → Type 0
GivesMembers before after (Ok members) =
    (declared_behind before.lines ≡ before_types members (declared_by after.lines)) × (length after.lines ≤ length before.lines)
GivesMembers before after (Err fault) = Fails fault (declared_behind before.lines)

-- a type that stands before others
abbrev pub before_others : TypeDeclaration → Result (List TypeDeclaration) ℕ → Result (List TypeDeclaration) ℕ
before_others ty later = later >>= λ types. Ok (ty ∷ types)

-- the type at the front of some lines
abbrev pub GivesType : LinesAhead → LinesAhead → Result TypeDeclaration TextFault → Type 0
GivesType before after (Ok ty) =
    (declared_by before.lines ≡ before_others ty (declared_by after.lines)) × (length after.lines < length before.lines)
GivesType before after (Err fault) = Fails fault (declared_by before.lines)

-- the types, and the members of each, are so few that a byte numbers them
pub record AreFew (types : List TypeDeclaration) : Type 0 where
  pub types_few : length types ≤ most_types
  pub members_few : AllByRecursion (λ ty. length ty.members ≤ most_members) types
