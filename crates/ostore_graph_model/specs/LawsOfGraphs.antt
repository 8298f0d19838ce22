-- The law that valid pages mean nothing but graphs of their schema.
use Rattle.std.specs.Prelude.{ℕ, ◌<◌, List, slice_index}
use Rattle.ostore_base.specs.declared.page.PageImage.{PageImage}
use Rattle.ostore_page_tags.specs.PageLists.{bytes_at}
use Rattle.ostore_schema_layout.specs.declared.schema.Schema.{Schema}
use Rattle.ostore_graph_model.specs.Graph.{Graph}
use Rattle.ostore_graph_model.specs.GraphRules.{IsGraph}
use Rattle.ostore_graph_model.specs.StandsFor.{StandsFor}
use Rattle.ostore_graph_model.specs.Valid.{IsValid}

-- What images hold are bytes: each number is below 256. Any list of images that a program has is so.
abbrev pub AreBytes : List PageImage → Type 0
AreBytes pages = (page k : ℕ) → slice_index (bytes_at pages page) k < 256

-- the graph for which valid pages stand is one of their schema
abbrev pub LawOfGraphsOfSchema : Type 0
LawOfGraphsOfSchema =
    (schema : Schema) (pages : List PageImage) (graph : Graph)
    → AreBytes pages → IsValid schema pages → StandsFor schema pages graph → IsGraph schema graph
