-- Laws of indexes: where none can be declared, and the order of their entries.
use Rattle.std.specs.Prelude.{◌≡◌, ◌⊎◌, ◌<ℤ◌, ℕ, ℤ, IsTrue, List, None, Some}
use Rattle.std.specs.List.{slice_get}
use Rattle.ostore_base.specs.declared.page.PageImage.{PageImage}
use Rattle.ostore_schema_layout.specs.declared.schema.Schema.{Schema}
use Rattle.ostore_schema_layout.specs.declared.schema.MemberDef.{MemberDef}
use Rattle.ostore_schema_layout.specs.Cells.{ArePairwise}
use Rattle.ostore_schema_layout.specs.Numbers.{members_of}
use Rattle.ostore_graph_model.specs.declared.values.Name.{Name}
use Rattle.ostore_graph_model.specs.declared.commands.Key.TheVariants as keys
use Rattle.ostore_graph_model.specs.Sets as sets
use Rattle.ostore_graph_model.specs.Kinds.{is_collection}
use Rattle.ostore_graph_model.specs.Orders.{TypeMember}
use Rattle.ostore_graph_model.specs.Graph.{Graph}
use Rattle.ostore_graph_model.specs.Chunks.{ChunkEntry}
use Rattle.ostore_graph_model.specs.Heap.{Heap}
use Rattle.ostore_graph_model.specs.IndexRules.{IsIndexOf}
use Rattle.ostore_graph_model.specs.StandsFor.{StandsFor}
use Rattle.ostore_graph_model.specs.Valid.{IsValid}

-- ---- schemas without indexes

-- no collection has an inverse, so that no index can be declared
abbrev pub HasNoIndexable : Schema → Type 0
HasNoIndexable schema =
    (ty member : ℕ) (def : MemberDef) → slice_get (members_of schema ty) member ≡ Some def → IsTrue (is_collection def.kind) → def.inverse ≡ None

-- then valid pages stand for a graph without indexes
abbrev pub LawOfUndeclaredIndexes : Type 0
LawOfUndeclaredIndexes = (schema : Schema) (pages : List PageImage) (graph : Graph) → HasNoIndexable schema → IsValid schema pages → StandsFor schema pages graph → graph.indexes ≡ sets.empty

-- ---- order

-- of two entries with ints the later one has no lower int
abbrev pub AscendByInt : ChunkEntry → ChunkEntry → Type 0
AscendByInt earlier later =
    (first second : ℤ) → earlier.key ≡ Some (keys.Int first) → later.key ≡ Some (keys.Int second)
    → (first ≡ second) ⊎ (first <ℤ second)

-- an index of ints has them in ascending order
abbrev pub LawOfIndexOrder : Type 0
LawOfIndexOrder =
    (schema : Schema) (heap : Heap) (graph : Graph) (set : TypeMember) (owner : Name) (path : List TypeMember) (entries : List ChunkEntry)
    → IsIndexOf schema heap graph set owner path entries → ArePairwise AscendByInt entries
