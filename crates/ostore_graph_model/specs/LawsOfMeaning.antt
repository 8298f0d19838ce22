-- Laws of what pages mean: that it is one graph, and what small edits make of it. A law of an edit speaks of the
-- rules' first two groups, since between the edits of one command the other two may fail.
use Rattle.std.specs.Prelude.{◌≡◌, ◌≢◌, ◌≤◌, ℕ, ◌+◌, ℤ, true, false, IsTrue, List, Some, None}
use Rattle.std.specs.List.{slice_get}
use Rattle.std.specs.FinMap as maps
use Rattle.ostore_graph_model.specs.Sets as sets
use Rattle.ostore_base.specs.declared.page.PageImage.{PageImage}
use Rattle.ostore_page_tags.specs.Limits.{most_types}
use Rattle.ostore_page_tags.specs.Rules.{is_type_code}
use Rattle.ostore_text_words.specs.Words.{is_identifier}
use Rattle.ostore_schema_layout.specs.declared.schema.Schema.{Schema}
use Rattle.ostore_schema_layout.specs.declared.schema.TypeDef.{TypeDef}
use Rattle.ostore_schema_layout.specs.declared.schema.TypeNo.{TypeNo}
use Rattle.ostore_schema_layout.specs.declared.schema.Inverse.{Inverse}
use Rattle.ostore_schema_layout.specs.declared.layouts.Place.{Place}
use Rattle.ostore_schema_layout.specs.Cells.{cell_size}
use Rattle.ostore_graph_model.specs.declared.values.Scalar.TheVariants as scalars
use Rattle.ostore_graph_model.specs.Graph.{Graph, Object}
use Rattle.ostore_graph_model.specs.Links.{comes_first, pair_at, parted}
use Rattle.ostore_graph_model.specs.Deeds.{LiveMember, member_at_type}
use Rattle.ostore_graph_model.specs.Deeds.Objects.{new_object, with_new, with_held}
use Rattle.ostore_graph_model.specs.Deeds.References.{with_joined}
use Rattle.ostore_graph_model.specs.Addresses.{PlacedCell, cell_at}
use Rattle.ostore_graph_model.specs.FixedPages.{serial_of}
use Rattle.ostore_graph_model.specs.Records.{heap_of}
use Rattle.ostore_graph_model.specs.Heap.{IsRowOf}
use Rattle.ostore_graph_model.specs.StandsFor.{StandsFor}
use Rattle.ostore_graph_model.specs.Valid.{HasGoodPages, HasGoodCells, HasGoodLinks, IsValid}
use Rattle.ostore_graph_model.specs.PageEdits.{name_of, member_of, WritesInt, WritesText, WritesRef, Draws, AddsAt, TakesPage, ReadsSame, BindsRoot, UnbindsRoot}

-- ---- one graph

-- pages stand for one graph at most
abbrev pub LawOfOneGraph : Type 0
LawOfOneGraph = (schema : Schema) (pages : List PageImage) (graph other : Graph) → StandsFor schema pages graph → StandsFor schema pages other → graph ≡ other

-- and where the rules of the second group hold, for one
abbrev pub LawOfSomeGraph : Type 0
LawOfSomeGraph = (schema : Schema) (pages : List PageImage) → HasGoodCells schema pages → (graph : Graph) × StandsFor schema pages graph

-- ---- what an edit keeps

-- the rules of the first two groups hold, and the pages stand for this graph
pub record HoldGraph (schema : Schema) (pages : List PageImage) (graph : Graph) : Type 0 where
  pub pages_kept : HasGoodPages schema pages
  pub cells_kept : HasGoodCells schema pages
  pub stands : StandsFor schema pages graph

-- the pages hold a graph after an edit, and where the links were good they still are
pub record LeavesGraph (schema : Schema) (old new : List PageImage) (graph : Graph) : Type 0 where
  pub holds : HoldGraph schema new graph
  pub links_kept : HasGoodLinks schema old → HasGoodLinks schema new

-- Where no index is declared, good links are all that valid pages want beside.
abbrev pub LawOfNoIndexes : Type 0
LawOfNoIndexes = (schema : Schema) (pages : List PageImage) (graph : Graph) → HoldGraph schema pages graph → HasGoodLinks schema pages → graph.indexes ≡ sets.empty → IsValid schema pages

-- ---- a member is written

-- an int that is written gives the graph that `set` makes
abbrev pub LawOfInts : Type 0
LawOfInts =
    (schema : Schema) (old new : List PageImage) (address member : ℕ) (cell : PlacedCell) (place : Place) (value : ℤ) (graph : Graph) (object : Object) (at : LiveMember)
    → HoldGraph schema old graph → WritesInt schema old new address member cell place value → maps.get graph.objects (name_of cell) ≡ Some object
    → member_at_type schema (name_of cell) (member_of cell member) ≡ Some at
    → LeavesGraph schema old new (with_held graph at (scalars.Int value))

-- and so does a text
abbrev pub LawOfTexts : Type 0
LawOfTexts =
    (schema : Schema) (old new : List PageImage) (address member : ℕ) (cell : PlacedCell) (place : Place) (max : ℕ) (text : List ℕ) (graph : Graph) (object : Object) (at : LiveMember)
    → HoldGraph schema old graph → WritesText schema old new address member cell place max text → maps.get graph.objects (name_of cell) ≡ Some object
    → member_at_type schema (name_of cell) (member_of cell member) ≡ Some at
    → LeavesGraph schema old new (with_held graph at (scalars.Text text))

-- A one-sided reference that leads to a row of its type joins the object with that row's name, and with nothing else.
abbrev pub LawOfReferences : Type 0
LawOfReferences =
    (schema : Schema) (old new : List PageImage) (address member : ℕ) (cell : PlacedCell) (place : Place) (target : TypeNo) (pointer : ℕ) (to : PlacedCell) (graph : Graph) (at : LiveMember)
    → HoldGraph schema old graph → (write : WritesRef schema old new address member cell place target pointer) → write.def.inverse ≡ None
    → pointer ≢ 0 → cell_at old pointer ≡ Some to → IsRowOf schema (heap_of schema old) target.0 pointer
    → member_at_type schema (name_of cell) (member_of cell member) ≡ Some at
    → LeavesGraph schema old new (with_joined schema graph at (name_of to))

-- One that is null parts the object from what it led to.
abbrev pub LawOfNullReferences : Type 0
LawOfNullReferences =
    (schema : Schema) (old new : List PageImage) (address member : ℕ) (cell : PlacedCell) (place : Place) (target : TypeNo) (graph : Graph) (at : LiveMember)
    → HoldGraph schema old graph → (write : WritesRef schema old new address member cell place target 0) → write.def.inverse ≡ None
    → member_at_type schema (name_of cell) (member_of cell member) ≡ Some at
    → LeavesGraph schema old new (record graph { pairs = parted schema at.at at.owner graph.pairs })

-- A reference of a two-sided link at the side that comes first joins the object with the row's name, and with nothing
-- else that is seen from there. The other side changes in the same command, at whose end the links are good again.
abbrev pub LawOfFirstSideReferences : Type 0
LawOfFirstSideReferences =
    (schema : Schema) (old new : List PageImage) (address member : ℕ) (cell : PlacedCell) (place : Place) (target : TypeNo) (pointer : ℕ) (inverse : Inverse) (to : PlacedCell) (graph : Graph)
    → HoldGraph schema old graph → (write : WritesRef schema old new address member cell place target pointer)
    → write.def.inverse ≡ Some inverse → comes_first (member_of cell member) (Some inverse) ≡ true
    → pointer ≢ 0 → cell_at old pointer ≡ Some to → IsRowOf schema (heap_of schema old) target.0 pointer
    → HoldGraph schema new (record graph { pairs = sets.insert (parted schema (member_of cell member) (name_of cell) graph.pairs) (pair_at schema (member_of cell member) (name_of cell) (name_of to)) })

-- One that is null there parts the object from what it led to.
abbrev pub LawOfFirstSideNulls : Type 0
LawOfFirstSideNulls =
    (schema : Schema) (old new : List PageImage) (address member : ℕ) (cell : PlacedCell) (place : Place) (target : TypeNo) (inverse : Inverse) (graph : Graph)
    → HoldGraph schema old graph → (write : WritesRef schema old new address member cell place target 0)
    → write.def.inverse ≡ Some inverse → comes_first (member_of cell member) (Some inverse) ≡ true
    → HoldGraph schema new (record graph { pairs = parted schema (member_of cell member) (name_of cell) graph.pairs })

-- A reference at the side that comes second leaves the graph, wherever it leads among the rows of its type.
abbrev pub LawOfSecondSideReferences : Type 0
LawOfSecondSideReferences =
    (schema : Schema) (old new : List PageImage) (address member : ℕ) (cell : PlacedCell) (place : Place) (target : TypeNo) (pointer : ℕ) (inverse : Inverse) (graph : Graph)
    → HoldGraph schema old graph → (write : WritesRef schema old new address member cell place target pointer)
    → write.def.inverse ≡ Some inverse → comes_first (member_of cell member) (Some inverse) ≡ false
    → (pointer ≢ 0 → IsRowOf schema (heap_of schema old) target.0 pointer)
    → HoldGraph schema new graph

-- ---- an object is made

-- a serial that is drawn, and a cell of zeros with it, give the graph that `new` makes
abbrev pub LawOfNewObjects : Type 0
LawOfNewObjects =
    (schema : Schema) (old drawing new : List PageImage) (address segment place : ℕ) (ty : TypeDef) (graph : Graph)
    → HoldGraph schema old graph → slice_get schema.types place ≡ Some ty → place + 1 ≤ most_types → Draws old drawing segment
    → AddsAt drawing new address segment (cell_size ty.members) (place + 1) (serial_of old segment + 1)
    → LeavesGraph schema old new (with_new graph segment (new_object schema (record { 0 = place + 1 })))

-- ---- a root is bound or unbound

-- a root that is bound to an object's row, live or dead, is bound to its name, and the other roots stay
abbrev pub LawOfBoundRoots : Type 0
LawOfBoundRoots =
    (schema : Schema) (old new : List PageImage) (name : List ℕ) (pointer : ℕ) (to : PlacedCell) (graph : Graph)
    → HoldGraph schema old graph → HasGoodPages schema new → BindsRoot old new name pointer
    → IsTrue (is_identifier name) → cell_at old pointer ≡ Some to → IsTrue (is_type_code to.code)
    → LeavesGraph schema old new (record graph { roots = maps.insert graph.roots name (name_of to) })

-- a root that is unbound is gone, and the other roots stay
abbrev pub LawOfUnboundRoots : Type 0
LawOfUnboundRoots =
    (schema : Schema) (old new : List PageImage) (name : List ℕ) (graph : Graph)
    → HoldGraph schema old graph → HasGoodPages schema new → UnbindsRoot old new name
    → LeavesGraph schema old new (record graph { roots = maps.remove graph.roots name })

-- ---- nothing of the graph is changed

-- Lists from which the same is read mean the same: where the one's pages are good too, it holds each graph that
-- the other holds, and it is valid where the other is.
abbrev pub LawOfSameReading : Type 0
LawOfSameReading =
    (schema : Schema) (old new : List PageImage) (graph : Graph) → ReadsSame old new → HasGoodPages schema new → HoldGraph schema old graph
    → LeavesGraph schema old new graph × (IsValid schema old → IsValid schema new)

-- a page that is taken from the free list changes nothing of the graph
abbrev pub LawOfTakenPages : Type 0
LawOfTakenPages =
    (schema : Schema) (old new : List PageImage) (segment page : ℕ) (graph : Graph) → TakesPage old new segment page → HoldGraph schema old graph
    → LeavesGraph schema old new graph × (IsValid schema old → IsValid schema new)
