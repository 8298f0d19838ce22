-- Valid lists of pages: none of the thirteen rules fails. The rules are tried in four groups, and a group only
-- where the groups before it hold everywhere.
use Rattle.std.specs.Prelude.{◌≡◌, ℕ, ◌≤◌, IsTrue, List, Some}
use Rattle.ostore_base.specs.declared.page.PageImage.{PageImage}
use Rattle.ostore_page_tags.specs.Allocated.{IsAllocated}
use Rattle.ostore_page_tags.specs.PageLists.{schema_bytes, schema_length, schema_text}
use Rattle.ostore_schema_layout.specs.declared.schema.Schema.{Schema}
use Rattle.ostore_schema_layout.specs.Limits.{longest_schema}
use Rattle.ostore_schema_layout.specs.Spells.{Spells}
use Rattle.ostore_graph_model.specs.Graph.{Graph}
use Rattle.ostore_graph_model.specs.Addresses.{PlacedCell, cell_at}
use Rattle.ostore_graph_model.specs.FixedPages.{roots_of, serial_of}
use Rattle.ostore_graph_model.specs.Records.{heap_of}
use Rattle.ostore_graph_model.specs.Heap.{tag_at}
use Rattle.ostore_graph_model.specs.CellRules.{is_written}
use Rattle.ostore_graph_model.specs.HeapRules.{KeepsRoots, KeepsPointers, KeepsSerials, KeepsChains, KeepsOwner, KeepsItems, KeepsLinks}
use Rattle.ostore_graph_model.specs.IndexRules.{KeepsIndexes}
use Rattle.ostore_graph_model.specs.StandsFor.{StandsFor}

-- The first group, the pages: rules 1 to 6, and rule 13, that pages 1 to 8 hold the schema. A length for which they
-- have no room fails rule 13 alone.
pub record HasGoodPages (schema : Schema) (pages : List PageImage) : Type 0 where
  pub allocated : IsAllocated pages
  pub fits : schema_length (schema_bytes pages) ≤ longest_schema
  pub spelled : Spells (schema_text pages) schema

-- the second group, the cells: rules 7 to 10
pub record HasGoodCells (schema : Schema) (pages : List PageImage) : Type 0 where
  pub written : (address : ℕ) (cell : PlacedCell) → cell_at pages address ≡ Some cell → IsTrue (is_written schema cell)
  pub roots : KeepsRoots (heap_of schema pages) (roots_of pages)
  pub pointers : (address : ℕ) → KeepsPointers schema (heap_of schema pages) address
  pub serials : (address : ℕ) → KeepsSerials (tag_at (heap_of schema pages)) (serial_of pages) address
  pub chains : (address : ℕ) → KeepsChains schema (heap_of schema pages) address
  pub owners : (address : ℕ) → KeepsOwner schema (heap_of schema pages) address
  pub items : (address : ℕ) → KeepsItems (heap_of schema pages) address

-- the third group, the links: rule 11
abbrev pub HasGoodLinks : Schema → List PageImage → Type 0
HasGoodLinks schema pages = (address : ℕ) → KeepsLinks schema (heap_of schema pages) address

-- the fourth group, the indexes: rule 12, on the graph that the pages stand for
pub record HasGoodIndexes (schema : Schema) (pages : List PageImage) : Type 0 where
  pub graph : Graph
  pub stands : StandsFor schema pages graph
  pub kept : (address : ℕ) → KeepsIndexes schema (heap_of schema pages) graph address

pub record IsValid (schema : Schema) (pages : List PageImage) : Type 0 where
  pub pages_kept : HasGoodPages schema pages
  pub cells_kept : HasGoodCells schema pages
  pub links_kept : HasGoodLinks schema pages
  pub indexes_kept : HasGoodIndexes schema pages
