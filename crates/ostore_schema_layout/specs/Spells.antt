-- How a schema is spelled: the words of each line, apart from any reader.
--   type NAME
--   NAME int                           NAME text N, N is 1 to 40
--   NAME ref TYPE [inverse TYPE.MEMBER]    NAME set TYPE [inverse TYPE.MEMBER]
--   NAME list TYPE                     NAME dict int TYPE     NAME dict text TYPE
use Rattle.std.specs.Prelude.{◌≡◌, ℕ, ◌≤◌, List, [], ◌∷◌, ◌++◌, length, map, codes, decimal, Option, Some, None}
use Rattle.std.specs.List.{flat_map}
use Rattle.std.specs.Str.{IsUtf8}
use Rattle.ostore_text_words.specs.Words.{dotted}
use Rattle.ostore_text_words.specs.Lines.{word_lines, text_of_lines}
use Rattle.ostore_schema_layout.specs.declared.schema.Schema.{Schema}
use Rattle.ostore_schema_layout.specs.declared.schema.TypeDef.{TypeDef}
use Rattle.ostore_schema_layout.specs.declared.schema.MemberDef.{MemberDef}
use Rattle.ostore_schema_layout.specs.declared.schema.MemberKind.{MemberKind}
use Rattle.ostore_schema_layout.specs.declared.schema.MemberKind.TheVariants as kinds
use Rattle.ostore_schema_layout.specs.declared.schema.Inverse.{Inverse}
use Rattle.ostore_schema_layout.specs.Limits.{longest_schema}
use Rattle.ostore_schema_layout.specs.Numbers.{type_name, member_name}
use Rattle.ostore_schema_layout.specs.Lawful.{IsLawful}

abbrev pub kind_words : Schema → MemberKind → List (List ℕ)
kind_words schema kinds.Int = codes "int" ∷ []
kind_words schema (kinds.Text max) = codes "text" ∷ decimal max ∷ []
kind_words schema (kinds.Ref target) = codes "ref" ∷ type_name schema target ∷ []
kind_words schema (kinds.Set target) = codes "set" ∷ type_name schema target ∷ []
kind_words schema (kinds.List target) = codes "list" ∷ type_name schema target ∷ []
kind_words schema (kinds.DictInt target) = codes "dict" ∷ codes "int" ∷ type_name schema target ∷ []
kind_words schema (kinds.DictText target) = codes "dict" ∷ codes "text" ∷ type_name schema target ∷ []

abbrev pub inverse_words : Schema → Option Inverse → List (List ℕ)
inverse_words schema None = []
inverse_words schema (Some inverse) = codes "inverse" ∷ dotted (type_name schema inverse.ty) (member_name schema inverse.ty inverse.member) ∷ []

abbrev pub member_words : Schema → MemberDef → List (List ℕ)
member_words schema member = member.name ∷ kind_words schema member.kind ++ inverse_words schema member.inverse

abbrev pub type_lines : Schema → TypeDef → List (List (List ℕ))
type_lines schema ty = (codes "type" ∷ ty.name ∷ []) ∷ map (member_words schema) ty.members

abbrev pub schema_lines : Schema → List (List (List ℕ))
schema_lines schema = flat_map (type_lines schema) schema.types

-- the text with one space between words, no comments and a newline after each line
abbrev pub canonical_text : Schema → List ℕ
canonical_text schema = text_of_lines (schema_lines schema)

-- the text spells the schema, which is a lawful one
pub record Spells (text : List ℕ) (schema : Schema) : Type 0 where
  pub short : length text ≤ longest_schema
  pub utf8 : IsUtf8 text
  pub lines : word_lines text ≡ schema_lines schema
  pub lawful : IsLawful schema

-- the text spells the schema where that is lawful, and the text not too long
abbrev pub SpellsIfShort : List ℕ → Schema → Type 0
SpellsIfShort text schema = IsLawful schema → length text ≤ longest_schema → Spells text schema
