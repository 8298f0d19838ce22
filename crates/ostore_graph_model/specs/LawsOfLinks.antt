-- Laws of links: by which of its two sides a link goes, and that each side shows the link's pairs.
use Rattle.std.specs.Prelude.{◌≡◌, ◌≢◌, ◌↔◌, ◌⊎◌, ◌<◌, true, List, Some, None}
use Rattle.ostore_graph_model.specs.Sets as sets
use Rattle.ostore_base.specs.declared.page.PageImage.{PageImage}
use Rattle.ostore_schema_layout.specs.declared.schema.Schema.{Schema}
use Rattle.ostore_schema_layout.specs.declared.schema.MemberDef.{MemberDef}
use Rattle.ostore_schema_layout.specs.declared.schema.Inverse.{Inverse}
use Rattle.ostore_schema_layout.specs.Lawful.{link_target}
use Rattle.ostore_graph_model.specs.declared.values.Name.{Name}
use Rattle.ostore_graph_model.specs.Orders.{TypeMember, Pair}
use Rattle.ostore_graph_model.specs.Graph.{Graph}
use Rattle.ostore_graph_model.specs.Links.{def_of, side}
use Rattle.ostore_graph_model.specs.Records.{heap_of}
use Rattle.ostore_graph_model.specs.StandsFor.{Joins, StandsFor}
use Rattle.ostore_graph_model.specs.Valid.{HasGoodLinks}
use Rattle.ostore_graph_model.specs.LawsOfMeaning.{HoldGraph}

-- a side stands before the other one in the schema's text: its type does, or in one type its member does
abbrev pub StandsBefore : TypeMember → Inverse → Type 0
StandsBefore side inverse =
    (side.ty.0 < inverse.ty.0) ⊎ ((side.ty.0 ≡ inverse.ty.0) × (side.member.0 < inverse.member.0))

-- A pair of a two-sided link is in the graph by the side that stands before the other one.
abbrev pub LawOfFirstSides : Type 0
LawOfFirstSides =
    (schema : Schema) (pages : List PageImage) (graph : Graph) (pair : Pair) (def : MemberDef) (inverse : Inverse)
    → StandsFor schema pages graph → sets.contains graph.pairs pair ≡ true
    → def_of schema pair.link ≡ Some def → def.inverse ≡ Some inverse
    → StandsBefore pair.link inverse

-- Where the links are good, the cells of x lead at a member to the row of y exactly where y is at that side of x in the
-- graph, whichever of its link's sides it is.
abbrev pub LawOfSides : Type 0
LawOfSides =
    (schema : Schema) (pages : List PageImage) (graph : Graph) (at : TypeMember) (def : MemberDef) (x y : Name)
    → HoldGraph schema pages graph → HasGoodLinks schema pages
    → def_of schema at ≡ Some def → link_target def.kind ≢ None
    → Joins schema (heap_of schema pages) at x y ↔ (sets.contains (side schema graph at x) y ≡ true)
