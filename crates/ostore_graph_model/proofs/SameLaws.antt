-- Lists of pages from which the same is read: they mean the same, whatever else is changed.
use Rattle.std.proofs.Common.{◌≡◌, ℕ, List, sym, subst, subst₂, ◌∙◌}
use Rattle.std.specs.Option.{option_map}
use Rattle.ostore_base.specs.declared.page.PageImage.{PageImage}
use Rattle.ostore_schema_layout.specs.declared.schema.Schema.{Schema}
use Rattle.ostore_graph_model.specs.Graph.{Graph}
use Rattle.ostore_graph_model.specs.Heap.{tag_at}
use Rattle.ostore_graph_model.specs.HeapRules.{KeepsPointers, KeepsSerials, KeepsChains, KeepsOwner, KeepsItems, KeepsLinks, KeepsRoots}
use Rattle.ostore_graph_model.specs.IndexRules.{KeepsIndexes}
use Rattle.ostore_graph_model.specs.MemberValues.{values_in, values_of}
use Rattle.ostore_graph_model.specs.Records.{heap_cell, heap_of}
use Rattle.ostore_graph_model.specs.StandsFor.{StandsFor, ShowsObjects, ShowsPairs, ShowsLists, ShowsDictionaries, ShowsRoots, ShowsSerials, ShowsIndexes}
use Rattle.ostore_graph_model.specs.PageEdits.{ReadsSame}
use Rattle.ostore_graph_model.specs.LawsOfMeaning.{HoldGraph, LeavesGraph, LawOfSameReading}
use Rattle.ostore_graph_model.specs.Valid.{IsValid, HasGoodPages}

module _ (schema : Schema) (old new : List PageImage) (same : ReadsSame old new) where
  same_links : heap_of schema old ≡ heap_of schema new
  unfolding heap_of
  same_links = λ i address. option_map (heap_cell schema) (sym (same.cells address) i)

  same_values : values_of schema old ≡ values_of schema new
  unfolding values_of
  same_values = λ i address. option_map (values_in schema) (sym (same.cells address) i)

  pub stands_same : (graph : Graph) → StandsFor schema old graph → StandsFor schema new graph
  stands_same graph stands = record {
    objects = subst₂ (λ heap values. ShowsObjects heap values graph.objects) same_links same_values stands.objects;
    pairs = subst (λ heap. ShowsPairs schema heap graph.pairs) same_links stands.pairs;
    lists = subst (λ heap. ShowsLists schema heap graph.lists) same_links stands.lists;
    dictionaries = subst (λ heap. ShowsDictionaries schema heap graph.dictionaries) same_links stands.dictionaries;
    roots = subst₂ (λ heap rows. ShowsRoots heap rows graph.roots) same_links (sym same.roots) stands.roots;
    serials = subst (λ counters. ShowsSerials counters graph.serials) (sym same.serials) stands.serials;
    indexes = subst (λ heap. ShowsIndexes schema heap graph.indexes) same_links stands.indexes;
  }

  pub same_leaves : (graph : Graph) → HasGoodPages schema new → HoldGraph schema old graph → LeavesGraph schema old new graph
  same_leaves graph pages holds =
      let cells = holds.cells_kept in
      record {
        holds = record {
          pages_kept = pages;
          cells_kept = record {
            written = λ address cell there. cells.written address cell (sym (same.cells address) ∙ there);
            roots = subst₂ KeepsRoots same_links (sym same.roots) cells.roots;
            pointers = subst (λ heap. (address : ℕ) → KeepsPointers schema heap address) same_links cells.pointers;
            serials = subst₂ (λ heap counters. (address : ℕ) → KeepsSerials (tag_at heap) counters address) same_links (sym same.serials) cells.serials;
            chains = subst (λ heap. (address : ℕ) → KeepsChains schema heap address) same_links cells.chains;
            owners = subst (λ heap. (address : ℕ) → KeepsOwner schema heap address) same_links cells.owners;
            items = subst (λ heap. (address : ℕ) → KeepsItems heap address) same_links cells.items;
          };
          stands = stands_same graph holds.stands;
        };
        links_kept = λ good. subst (λ heap. (address : ℕ) → KeepsLinks schema heap address) same_links good;
      }

  pub same_valid : HasGoodPages schema new → IsValid schema old → IsValid schema new
  same_valid pages valid =
      let graph = valid.indexes_kept.graph in
      let leaves = same_leaves graph pages (record { pages_kept = valid.pages_kept; cells_kept = valid.cells_kept; stands = valid.indexes_kept.stands }) in
      record {
        pages_kept = pages;
        cells_kept = leaves.holds.cells_kept;
        links_kept = leaves.links_kept valid.links_kept;
        indexes_kept = record {
          graph = graph;
          stands = leaves.holds.stands;
          kept = subst (λ heap. (address : ℕ) → KeepsIndexes schema heap graph address) same_links valid.indexes_kept.kept;
        };
      }

pub same_law : LawOfSameReading
same_law schema old new graph same pages holds = (same_leaves schema old new same graph pages holds, same_valid schema old new same pages)
