-- What pages mean to a transaction: a graph, and the names to which its variables are bound.
use Rattle.std.specs.Prelude.{◌≡◌, ℕ, IsTrue, List, Option, Some, None}
use Rattle.std.specs.FinMap as maps
use Rattle.ostore_base.specs.declared.page.PageImage.{PageImage}
use Rattle.ostore_page_tags.specs.Rules.{is_type_code}
use Rattle.ostore_schema_layout.specs.declared.schema.Schema.{Schema}
use Rattle.ostore_graph_model.specs.declared.values.Name.{Name}
use Rattle.ostore_graph_model.specs.Graph.{Graph}
use Rattle.ostore_graph_model.specs.Deeds.{Vars}
use Rattle.ostore_graph_model.specs.Addresses.{PlacedCell, cell_at}
use Rattle.ostore_graph_model.specs.StandsFor.{StandsFor}
use Rattle.ostore_graph_model.specs.Valid.{IsValid}
use Rattle.ostore_graph_model.specs.PageEdits.{name_of}

-- where each variable leads to: nothing where it isn't bound; else an address in the pages, or none where its
-- resident pointer leads to no page
abbrev pub Leads : Type 0
Leads = List ℕ → Option (Option ℕ)

-- the row of an object, live or dead, is at an address, and this is its name
pub record LeadsToRow (pages : List PageImage) (address : ℕ) (name : Option Name) : Type 0 where
  pub cell : PlacedCell
  pub there : cell_at pages address ≡ Some cell
  pub typed : IsTrue (is_type_code cell.code)
  pub named : name ≡ Some (name_of cell)

-- a variable that is bound leads to a row of its name
abbrev pub LeadsToName : List PageImage → Option (Option ℕ) → Option Name → Type 0
LeadsToName pages None name = name ≡ None
LeadsToName pages (Some None) name = ⊥
LeadsToName pages (Some (Some address)) name = LeadsToRow pages address name

-- Valid pages stand for a graph, and where the variables lead to are the names to which they are bound.
pub record Means (schema : Schema) (pages : List PageImage) (leads : Leads) (vars : Vars) (graph : Graph)
    : Type 0 where
  pub valid : IsValid schema pages
  pub stands : StandsFor schema pages graph
  pub bound : (variable : List ℕ) → LeadsToName pages (leads variable) (maps.get vars variable)

-- there is such a graph, and there are such names
pub record HasMeaning (schema : Schema) (leads : Leads) (pages : List PageImage) : Type 0 where
  pub vars : Vars
  pub graph : Graph
  pub means : Means schema pages leads vars graph
