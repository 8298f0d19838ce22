-- What is asked of a schema, a holder of pages and a command before the command is executed.
use Rattle.std.specs.Prelude.{◌≡◌, Bool, true, List}
use Rattle.std.specs.List.{AllByRecursion}
use Rattle.ostore_page_tags.specs.PageChains.{IsSegment}
use Rattle.ostore_schema_layout.specs.declared.schema.Schema.{Schema}
use Rattle.ostore_schema_layout.specs.declared.schema.MemberDef.{MemberDef}
use Rattle.ostore_schema_layout.specs.declared.schema.MemberKind.TheVariants as kinds
use Rattle.ostore_schema_layout.specs.Cells.{pointers_of}
use Rattle.ostore_schema_layout.specs.Lawful.{IsLawful}
use Rattle.ostore_segments.specs.Holdings.{PagesTold}
use Rattle.ostore_segments.specs.SchemaCells.{size_told}
use Rattle.ostore_graph_model.specs.declared.commands.Command.{Command}
use Rattle.ostore_graph_model.specs.declared.commands.Command.TheVariants as commands
use Rattle.ostore_graph_model.specs.declared.commands.Operand.TheVariants as operands

abbrev pub AreInts : List MemberDef → Type 0
AreInts members = AllByRecursion (λ member. member.kind ≡ kinds.Int) members

-- the schemas whose commands run: every member of every type is an int
abbrev pub IsOfInts : Schema → Type 0
IsOfInts schema = AllByRecursion (λ ty. AreInts ty.members) schema.types

-- the schema's commands run on the pages of a holder that tells of its cells
pub record Suits (schema : Schema) (told : PagesTold) : Type 0 where
  pub lawful : IsLawful schema
  pub ints : IsOfInts schema
  pub sizes : told.sizes ≡ size_told schema
  pub pointers : told.pointers ≡ pointers_of schema

-- an update may change the pages
abbrev pub MayUpdate : Bool → PagesTold → Type 0
MayUpdate update told = update ≡ true → told.may_edit ≡ true

-- the commands that run: `new` in one of the segments, `get`, and `set` to an int
abbrev pub IsBuilt : Command → Type 0
IsBuilt (commands.New to ty segment) = IsSegment segment
IsBuilt (commands.Get object member) = Unit {0}
IsBuilt (commands.Set object member (operands.Int value)) = Unit {0}
IsBuilt other = ⊥
