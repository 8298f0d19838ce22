-- The law of a fresh list of pages.
use Rattle.std.specs.Prelude.{ℕ, ◌≤◌, List}
use Rattle.ostore_page_tags.specs.Limits.{least_pages, most_pages}
use Rattle.ostore_page_tags.specs.FreshPages.{fresh_list}
use Rattle.ostore_schema_layout.specs.declared.schema.Schema.{Schema}
use Rattle.ostore_schema_layout.specs.Spells.{Spells}
use Rattle.ostore_graph_model.specs.Graph.{empty_graph}
use Rattle.ostore_graph_model.specs.StandsFor.{StandsFor}
use Rattle.ostore_graph_model.specs.Valid.{IsValid}

-- fresh pages with a schema's text are valid, and stand for the empty graph
abbrev pub LawOfFreshPages : Type 0
LawOfFreshPages =
    (schema : Schema) (text : List ℕ) (n : ℕ) → Spells text schema → least_pages ≤ n → n ≤ most_pages
    → IsValid schema (fresh_list text n) × StandsFor schema (fresh_list text n) empty_graph
