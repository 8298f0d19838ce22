-- Laws of the two sides of a link: what each side shows after an edit of one, and that the links are good where each side
-- shows the graph's pairs; and what it is on the graph to join two objects, one side after the other. So a command that
-- edits both sides gives rule 11 back at its end.
use Rattle.std.specs.Prelude.{◌≡◌, ◌≢◌, ◌↔◌, ◌⊎◌, ℕ, true, if◌then◌else◌, List, Some, None}
use Rattle.std.specs.List.{Contains}
use Rattle.ostore_graph_model.specs.Sets as sets
use Rattle.ostore_base.specs.declared.page.PageImage.{PageImage}
use Rattle.ostore_schema_layout.specs.declared.schema.Schema.{Schema}
use Rattle.ostore_schema_layout.specs.declared.schema.TypeNo.{TypeNo}
use Rattle.ostore_schema_layout.specs.declared.schema.MemberDef.{MemberDef}
use Rattle.ostore_schema_layout.specs.declared.schema.MemberKind.TheVariants as kinds
use Rattle.ostore_schema_layout.specs.declared.schema.Inverse.{Inverse}
use Rattle.ostore_schema_layout.specs.declared.layouts.Place.{Place}
use Rattle.ostore_schema_layout.specs.Lawful.{IsLawful}
use Rattle.ostore_graph_model.specs.declared.values.Name.{Name}
use Rattle.ostore_graph_model.specs.Orders.{TypeMember, pair_cmp}
use Rattle.ostore_graph_model.specs.Graph.{Graph}
use Rattle.ostore_graph_model.specs.Links.{def_of, inverse_at, member_of_inverse, is_ref_member, pair_at, side, joined, parted}
use Rattle.ostore_graph_model.specs.Addresses.{PlacedCell}
use Rattle.ostore_graph_model.specs.Chunks.{ChunkEntry}
use Rattle.ostore_graph_model.specs.Records.{RowTag, heap_of}
use Rattle.ostore_graph_model.specs.Heap.{Heap, name_in, name_at}
use Rattle.ostore_graph_model.specs.StandsFor.{Joins}
use Rattle.ostore_graph_model.specs.Valid.{HasGoodLinks}
use Rattle.ostore_graph_model.specs.PageEdits.{name_of, member_of, WritesRef}
use Rattle.ostore_graph_model.specs.CollectionEdits.{WritesCollection, type_member, entry_items}
use Rattle.ostore_graph_model.specs.LawsOfMeaning.{HoldGraph}

-- x at a member is what an edit changed, and leads to what it leads to now; or it is something else, and leads to what it
-- led to
abbrev pub ShowsEdited : TypeMember → Name → TypeMember → Name → Type 0 → Type 0 → Type 0
ShowsEdited edited owner at x leads led = ((at ≡ edited) × (x ≡ owner) × leads) ⊎ ((at ≡ edited → x ≢ owner) × led)

-- A reference that is written, at either side of its link: its object is joined there with the row that it leads to, and
-- with nothing else. All else shows what it showed.
abbrev pub LawOfReferenceSides : Type 0
LawOfReferenceSides =
    (schema : Schema) (old new : List PageImage) (address member : ℕ) (cell : PlacedCell) (place : Place) (target : TypeNo) (pointer : ℕ) (graph : Graph)
    → HoldGraph schema old graph → WritesRef schema old new address member cell place target pointer
    → (at : TypeMember) (x y : Name)
    → Joins schema (heap_of schema new) at x y
    ↔ ShowsEdited (member_of cell member) (name_of cell) at x ((pointer ≢ 0) × (name_at (heap_of schema old) pointer ≡ Some y)) (Joins schema (heap_of schema old) at x y)

-- an item with this name is among the entries
abbrev pub HasItem : Heap → List ChunkEntry → Name → Type 0
HasItem heap entries y = (pointer : ℕ) × Contains (entry_items entries) pointer × (name_at heap pointer ≡ Some y)

-- A set that is changed, at either side of its link: its object is joined there with its items, and with nothing else. All
-- else shows what it showed.
abbrev pub LawOfSetSides : Type 0
LawOfSetSides =
    (schema : Schema) (old new : List PageImage) (address member : ℕ) (tag : RowTag) (def : MemberDef) (target : TypeNo) (before after : List ChunkEntry) (graph : Graph)
    → HoldGraph schema old graph → WritesCollection schema old new address member tag def before after → def.kind ≡ kinds.Set target
    → (at : TypeMember) (x y : Name)
    → Joins schema (heap_of schema new) at x y
    ↔ ShowsEdited (type_member tag member) (name_in tag) at x (HasItem (heap_of schema new) after y) (Joins schema (heap_of schema old) at x y)

-- Where every member that has an inverse shows exactly the graph's pairs, the links are good.
abbrev pub LawOfGoodLinks : Type 0
LawOfGoodLinks =
    (schema : Schema) (pages : List PageImage) (graph : Graph) → HoldGraph schema pages graph
    → ((at : TypeMember) (def : MemberDef) (x y : Name) → def_of schema at ≡ Some def → def.inverse ≢ None
    → Joins schema (heap_of schema pages) at x y ↔ (sets.contains (side schema graph at x) y ≡ true))
    → HasGoodLinks schema pages

-- ---- both sides, on the graph

-- the pairs without those of an object at a member that is a reference
abbrev pub freed : Schema → TypeMember → Name → sets.FinSet pair_cmp → sets.FinSet pair_cmp
freed schema member x pairs = if is_ref_member schema member then parted schema member x pairs else pairs

-- To join two objects by a two-sided link is to free the one at its side, then the other at its own, and to add the pair.
abbrev pub LawOfJoining : Type 0
LawOfJoining =
    (schema : Schema) → IsLawful schema
    → (at : TypeMember) (inverse : Inverse) (x y : Name) (pairs : sets.FinSet pair_cmp) → inverse_at schema at ≡ Some inverse
    → joined schema at x y pairs ≡ sets.insert (freed schema (member_of_inverse inverse) y (freed schema at x pairs)) (pair_at schema at x y)
